-- A partitioned data set without entries and blocks, in which no block is named: its body stays as it is.
use Rattle.std.proofs.Common.{◌≡◌, ◌⊎◌, ◌+◌, ◌≤◌, ◌<◌, ℕ, zero, suc, Bool, true, false, cond, eqb, ◌&&◌, List, [], ◌∷◌, ◌++◌, length, map, Option, Some, None, inl, inr, refl, sym, ap, ◌∙◌, arith, option_and_then}
use Rattle.std.specs.Prelude.{◌==◌, replicate, unwrap_or}
use Rattle.std.specs.List.{flat_map, range_with_len}
use Rattle.std.proofs.lemmas.Bool.Decides.{eqb_tells, nat_tests}
use Rattle.std.proofs.lemmas.List.Elements.{filter-append}
use Rattle.ckd_image.specs.declared.header.Geometry.{Geometry}
use Rattle.ckd_image.specs.Track.{Record}
use Rattle.vol_model.specs.declared.contents.Block.{Block}
use Rattle.vol_model.specs.declared.contents.Body.TheVariants.{Part}
use Rattle.vol_model.specs.declared.contents.Place.{Place}
use Rattle.vol_model.specs.declared.contents.Run.{Run}
use Rattle.vol_model.specs.Places.{is_before}
use Rattle.pack_spec.specs.Blocks.{block_at, blocks_from, last_of, owned_tracks, records_in, upto_last}
use Rattle.pack_spec.specs.Directories.{behind_end, end_from, part_at, part_blocks, part_body, part_ended, part_of, part_on, part_tracks, read_to}
use Rattle.pack_spec.proofs.FrontRecords.{count_in}
use Rattle.pack_spec.proofs.PartBodies.{IsRead, part_end, part_is, part_read}

-- the blocks on a track, if there are some
abbrev some_blocks : Option (List Block) → List Block
some_blocks o = unwrap_or o []

-- where no record of a track stands after a place, the last of them doesn't
last_before : (end : Place) (k r n : ℕ) (xs : List Record) → length xs ≡ suc n → behind_end end (blocks_from k r xs) ≡ [] → is_before end (record { tt = k; r = r + n }) ≡ false
last_before end k r n [] long none = absurd (omega (arith, long))
last_before end k r n (x ∷ xs) long none = by (is_before end (record { tt = k; r = r })) refl none (λ m more rest. last_before end k (r + 1) m xs more rest)
  where
    later : (n : ℕ) → length xs ≡ n → is_before end (record { tt = k; r = r }) ≡ false → ((m : ℕ) → length xs ≡ suc m → is_before end (record { tt = k; r = r + 1 + m }) ≡ false) → is_before end (record { tt = k; r = r + n }) ≡ false
    later zero long here rest = let same : r + 0 ≡ r = omega arith in ap (λ (q : ℕ). is_before end (record { tt = k; r = q })) same ∙ here
    later (suc m) long here rest = let same : r + suc m ≡ r + 1 + m = omega arith in ap (λ (q : ℕ). is_before end (record { tt = k; r = q })) same ∙ rest m long

    by : (b : Bool) → is_before end (record { tt = k; r = r }) ≡ b → cond b (block_at k r x ∷ behind_end end (blocks_from k (r + 1) xs)) (behind_end end (blocks_from k (r + 1) xs)) ≡ []
        → ((m : ℕ) → length xs ≡ suc m → behind_end end (blocks_from k (r + 1) xs) ≡ [] → is_before end (record { tt = k; r = r + 1 + m }) ≡ false) → is_before end (record { tt = k; r = r + n }) ≡ false
    by true here rest more = cc
    by false here rest more = later n (omega (arith, long)) here (λ m few. more m few rest)

-- both parts of a list without elements have none
no_parts : {X : Type 0} (xs ys : List X) → xs ++ ys ≡ [] → (xs ≡ []) × (ys ≡ [])
no_parts [] ys none = (refl, none)
no_parts (x ∷ xs) ys none = absurd (cc)

-- where no block of the tracks stands after a place, none of one track does
none_on : (end : Place) (at : ℕ → Option (List Block)) (n low k : ℕ) → low ≤ k → k < low + n → behind_end end (flat_map some_blocks (map at (range_with_len low n))) ≡ [] → behind_end end (some_blocks (at k)) ≡ []
none_on end at zero low k least most none = absurd (omega (arith, least, most))
none_on end at (suc n) low k least most none = by (eqb_tells low k) (λ l. none_on end at n (low + 1) k l (omega (arith, most)) parts.1)
  where
    others : List Block
    others = flat_map some_blocks (map at (range_with_len (low + 1) n))

    parts : (behind_end end (some_blocks (at low)) ≡ []) × (behind_end end others ≡ [])
    parts = no_parts (behind_end end (some_blocks (at low))) (behind_end end others) (sym (filter-append (λ (b : Block). is_before end b.place) (some_blocks (at low)) others) ∙ none)

    by : ((eqb low k ≡ true) × (low ≡ k)) ⊎ ((eqb low k ≡ false) × (low ≡ k → ⊥)) → (low + 1 ≤ k → behind_end end (some_blocks (at k)) ≡ []) → behind_end end (some_blocks (at k)) ≡ []
    by (inl w) later = ap (λ (q : ℕ). behind_end end (some_blocks (at q))) (sym w.1) ∙ parts.0
    by (inr w) later = later (omega (arith, least, w.1))

-- no place stands before the first
none_before : (p : Place) → is_before p (last_of (replicate 3 0)) ≡ false
none_before p = first p.tt p.r
  where
    first : (t r : ℕ) → is_before (record { tt = t; r = r }) (record { tt = 0; r = 0 }) ≡ false
    first t r = grind (arith, nat_tests)

module _ (g : Geometry) (tracks : List (List ℕ)) (extents : List Run) (lstar : List ℕ) (n : ℕ) (end : Place) (is : part_body g tracks extents lstar ≡ Part n end [] []) where
  abbrev owned : List ℕ
  owned = owned_tracks extents

  abbrev to : Place
  to = read_to end lstar

  none_at_last : behind_end end (some_blocks (part_at g tracks owned end to to.tt)) ≡ []
  unfolding part_tracks
  none_at_last = none_on end (part_at g tracks owned end to) (to.tt + 1) 0 to.tt (omega arith) (omega arith) (part_is g tracks extents lstar n end [] [] is).blocks

  read : IsRead g tracks owned end to to.tt
  read = part_read g tracks extents lstar n end [] [] is to.tt (omega arith)

  -- its last track is read up to this record
  up : upto_last to to.tt ≡ Some to.r
  up = ap (λ (b : Bool). cond b (Some to.r) None) (same to.tt)
    where
      same : (k : ℕ) → (k == k) ≡ true
      same k = grind (arith, nat_tests)

  count : length read.xs ≡ to.r
  count = count_in g tracks read.track read.xs to.r (ap (λ (u : Option ℕ). records_in g tracks u read.track) (sym up) ∙ read.records)

  -- which isn't R0
  not_front : to.r ≡ 0 → ⊥
  unfolding part_at part_on
  not_front front =
      let none : part_at g tracks owned end to to.tt ≡ None =
      ap (option_and_then (part_on g tracks end to to.tt)) read.there
      ∙ ap (λ (b : Bool). cond b None (option_and_then (part_blocks end to.tt) (records_in g tracks (upto_last to to.tt) read.track))) (both to.tt to.r front) in
      let never : Some (blocks_from to.tt 1 read.xs) ≡ None = sym read.blocks ∙ none in
      cc
    where
      both : (k r : ℕ) → r ≡ 0 → ((k == k) && (r == 0)) ≡ true
      both k r front = grind (arith, nat_tests)

  -- and doesn't stand after the directory's end
  not_behind : is_before end to ≡ false
  not_behind = by to.r refl
    where
      by : (r : ℕ) → to.r ≡ r → is_before end to ≡ false
      by zero front = absurd (not_front front)
      by (suc m) last =
          let none : behind_end end (blocks_from to.tt 1 read.xs) ≡ [] = ap (λ (o : Option (List Block)). behind_end end (some_blocks o)) (sym read.blocks) ∙ none_at_last in
          let same : to.r ≡ 1 + m = omega (arith, last) in
          ap (λ (q : ℕ). is_before end (record { tt = to.tt; r = q })) same ∙ last_before end to.tt 1 m read.xs (count ∙ last) none

  -- so it is read up to its directory's end
  to_end : to ≡ end
  to_end = by (is_before end (last_of lstar)) refl
    where
      by : (b : Bool) → is_before end (last_of lstar) ≡ b → to ≡ end
      by true behind =
          let last : to ≡ last_of lstar = ap (λ (b : Bool). cond b (last_of lstar) end) behind in
          let both : is_before end (last_of lstar) ≡ false = ap (is_before end) (sym last) ∙ not_behind in
          cc
      by false front = ap (λ (b : Bool). cond b (last_of lstar) end) front

  -- and its last block, by LSTAR, doesn't stand after that
  pub vacant_front : is_before end (last_of lstar) ≡ false
  vacant_front = by (is_before end (last_of lstar)) refl
    where
      by : (b : Bool) → is_before end (last_of lstar) ≡ b → is_before end (last_of lstar) ≡ false
      by true behind =
          let last : to ≡ last_of lstar = ap (λ (b : Bool). cond b (last_of lstar) end) behind in
          ap (is_before end) (sym last) ∙ not_behind
      by false front = front

  -- It has the same body where LSTAR is zeros.
  pub vacant_part : part_body g tracks extents (replicate 3 0) ≡ Part n end [] []
  unfolding part_body
  vacant_part =
      let ended : end_from g tracks 0 owned ≡ end = part_end g tracks extents lstar n end [] [] is in
      let now : read_to end (replicate 3 0) ≡ end = ap (λ (b : Bool). cond b (last_of (replicate 3 0)) end) (none_before end) in
      ap (part_ended g tracks owned (replicate 3 0)) ended
      ∙ ap (λ (p : Place). part_of end (part_tracks g tracks owned end p)) (now ∙ sym to_end)
      ∙ ap (part_ended g tracks owned lstar) (sym ended)
      ∙ is
