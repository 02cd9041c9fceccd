-- The blocks of a directory that can be read, by reading up to its end alone.
use Rattle.std.proofs.Common.{◌≡◌, ◌+◌, ◌-◌, ◌≤◌, ◌<◌, ℕ, zero, suc, Bool, true, false, cond, ◌&&◌, List, [], ◌∷◌, ◌++◌, length, map, take, drop, Option, Some, None, refl, sym, ap, ap₂, ◌∙◌, subst, arith, length-take, option_and_then, take-append-drop}
use Rattle.std.specs.Prelude.{◌==◌, slice_get, unwrap_or}
use Rattle.std.specs.List.{enumerate_from, find, flat_map, list_all, list_any, range_with_len}
use Rattle.std.specs.Option.{option_map_or}
use Rattle.std.proofs.lemmas.Bool.{and_parts}
use Rattle.std.proofs.lemmas.Bool.Decides.{nat_tests}
use Rattle.std.proofs.lemmas.List.{append-nil}
use Rattle.std.proofs.lemmas.List.Elements.{filter-append}
use Rattle.ckd_image.specs.declared.header.Geometry.{Geometry}
use Rattle.ckd_image.specs.Track.{Record}
use Rattle.vol_model.specs.declared.contents.Block.{Block}
use Rattle.vol_model.specs.declared.contents.Body.TheVariants.{Part}
use Rattle.vol_model.specs.declared.contents.Entry.{Entry}
use Rattle.vol_model.specs.declared.contents.Place.{Place}
use Rattle.vol_model.specs.declared.contents.Run.{Run}
use Rattle.vol_model.specs.Places.{is_before}
use Rattle.pack_spec.specs.Blocks.{block_at, blocks_from, owned_tracks, records_in}
use Rattle.pack_spec.specs.Directories.{before_end, end_from, end_record, has_end_by, is_end_record, may_stand, part_at, part_blocks, part_body, part_on, part_tracks, read_to, record_numbers}
use Rattle.pack_spec.specs.Settled.{directory_upto}
use Rattle.vtoc_sets.proofs.EndTracks.{end_first}
use Rattle.pack_spec.proofs.PartBodies.{IsPast, IsRead, end_stands, part_end, part_or_unread, part_read, read_past_end}
use Rattle.dscb_codec.specs.declared.F1.{F1}
use Rattle.vol_model.specs.Shelf.{unreadable}
use Rattle.vtoc_index.specs.declared.vol.Vol.{Vol}
use Rattle.vtoc_sets.specs.Sets.{extents_in}
use Rattle.pds_directory.specs.Directories.{data_in, directory_in, end_in, owned_in, part_in}

-- ---- blocks that don't stand before the directory's end

none_before : (end : Place) (k r : ℕ) (xs : List Record) → ((q : ℕ) → r ≤ q → is_before (record { tt = k; r = q }) end ≡ false) → before_end end (blocks_from k r xs) ≡ []
none_before end k r [] past = refl
none_before end k r (x ∷ xs) past =
    ap (λ (b : Bool). cond b (block_at k r x ∷ before_end end (blocks_from k (r + 1) xs)) (before_end end (blocks_from k (r + 1) xs))) (past r (omega arith))
    ∙ none_before end k (r + 1) xs (λ q low. past q (omega (arith, low)))

blocks_both : (k r : ℕ) (xs ys : List Record) → blocks_from k r (xs ++ ys) ≡ blocks_from k r xs ++ blocks_from k (r + length xs) ys
blocks_both k r [] ys = let none : r ≡ r + 0 = omega arith in ap (λ (n : ℕ). blocks_from k n ys) none
blocks_both k r (x ∷ xs) ys =
    let next : r + 1 + length xs ≡ r + suc (length xs) = omega arith in
    ap (λ (l : List Block). block_at k r x ∷ l) (blocks_both k (r + 1) xs ys ∙ ap (λ (n : ℕ). blocks_from k (r + 1) xs ++ blocks_from k n ys) next)

past_on : (end : Place) (r : ℕ) → end.r ≤ r → is_before (record { tt = end.tt; r = r }) end ≡ false
past_on end r low = grind (arith, nat_tests)

past_track : (end : Place) (k r : ℕ) → end.tt < k → is_before (record { tt = k; r = r }) end ≡ false
past_track end k r past = grind (arith, nat_tests)

-- ---- the records up to the directory's end

-- the first of records that may stand may
stand_front : (end : Place) (k r n : ℕ) (xs : List Record) → list_all (may_stand end k) (enumerate_from r xs) ≡ true → list_all (may_stand end k) (enumerate_from r (take n xs)) ≡ true
stand_front end k r zero xs stand = refl
stand_front end k r (suc n) [] stand = refl
stand_front end k r (suc n) (x ∷ xs) stand =
    let parts = and_parts (may_stand end k (r, x)) (list_all (may_stand end k) (enumerate_from (r + 1) xs)) stand in
    ap₂ (λ (a b : Bool). a && b) parts.0 (stand_front end k (r + 1) n xs parts.1)

-- the number that is found passes, and isn't below the first
found_passes : (p : ℕ → Bool) (n low r : ℕ) → find p (range_with_len low n) ≡ Some r → (p r ≡ true) × (low ≤ r)
found_passes p zero low r is = cc
found_passes p (suc n) low r is = by (p low) refl (λ e. found_passes p n (low + 1) r e) is
  where
    by : (b : Bool) → p low ≡ b → (find p (range_with_len (low + 1) n) ≡ Some r → (p r ≡ true) × (low + 1 ≤ r)) → cond b (Some low) (find p (range_with_len (low + 1) n)) ≡ Some r → (p r ≡ true) × (low ≤ r)
    by true passes later e = let here : low ≡ r = cc in (ap p (sym here) ∙ passes, omega (arith, here))
    by false passes later e = let rest = later e in (rest.0, omega (arith, rest.1))

end_passes : (g : Geometry) (tracks : List (List ℕ)) (t r : ℕ) → end_record g tracks t ≡ Some r → (has_end_by g tracks t r ≡ true) × (1 ≤ r)
unfolding end_record record_numbers
end_passes g tracks t r is = found_passes (has_end_by g tracks t) 255 1 r is

level : (a : ℕ) → (a == a) ≡ true
level a = grind (arith, nat_tests)

other : (a b : ℕ) → a < b → (a == b) ≡ false
other a b low = grind (arith, nat_tests)

-- ---- the blocks of a directory that can be read

module _ (g : Geometry) (tracks : List (List ℕ)) (extents : List Run) (lstar : List ℕ) (n : ℕ) (end : Place) (es : List Entry) (bs : List Block)
    (is : part_body g tracks extents lstar ≡ Part n end es bs) where
  abbrev owned : List ℕ
  owned = owned_tracks extents

  abbrev to : Place
  to = read_to end lstar

  abbrev at : ℕ → Option (List Block)
  at = part_at g tracks owned end to

  abbrev near : ℕ → Option (List Block)
  near = part_at g tracks owned end end

  -- the blocks of a directory among those of relative tracks
  abbrev walk : (ℕ → Option (List Block)) → ℕ → ℕ → List Block
  walk f m low = before_end end (flat_map (λ o. unwrap_or o []) (map f (range_with_len low m)))

  read_on : (k : ℕ) → k ≤ to.tt → IsRead g tracks owned end to k
  read_on k low = part_read g tracks extents lstar n end es bs is k low

  past : IsPast end to
  past = read_past_end end lstar

  -- tracks before the end's are read alike
  before_same : (k : ℕ) → k < end.tt → near k ≡ at k
  unfolding part_at part_on
  before_same k low = by (slice_get owned k)
    where
      on_track : (t : ℕ) → part_on g tracks end end k t ≡ part_on g tracks end to k t
      on_track t =
          let here : (k == end.tt) ≡ false = other k end.tt low in
          let there : (k == to.tt) ≡ false = other k to.tt (omega (arith, low, past.track)) in
          ap (λ (b : Bool). cond (b && (end.r == 0)) None (option_and_then (part_blocks end k) (records_in g tracks (cond b (Some end.r) None) t))) here
          ∙ ap (λ (b : Bool). cond (b && (to.r == 0)) None (option_and_then (part_blocks end k) (records_in g tracks (cond b (Some to.r) None) t))) (sym there)

      by : (o : Option ℕ) → option_and_then (part_on g tracks end end k) o ≡ option_and_then (part_on g tracks end to k) o
      by None = refl
      by (Some t) = on_track t

  -- What is read of the end's track up to the end: the first of the records.
  record IsUpToEnd (t : ℕ) (xs : List Record) : Type 0 where
    some : 1 ≤ end.r
    few : end.r ≤ length xs
    first : records_in g tracks (Some end.r) t ≡ Some (take end.r xs)

  end_track : (read : IsRead g tracks owned end to end.tt) → IsUpToEnd read.track read.xs
  end_track read = by_some (records_in g tracks (Some end.r) read.track) refl (end_passes g tracks read.track end.r stands).0
    where
      ended : end_from g tracks 0 owned ≡ end
      ended = part_end g tracks extents lstar n end es bs is

      stands : end_record g tracks read.track ≡ Some end.r
      stands = subst (λ (p : Place). end.tt ≡ p.tt → end_record g tracks read.track ≡ Some p.r) ended (λ e. end_stands g tracks 0 owned end.tt read.track read.there (omega (arith, e))) refl

      by_some : (o : Option (List Record)) → records_in g tracks (Some end.r) read.track ≡ o → option_map_or (list_any is_end_record) o false ≡ true → IsUpToEnd read.track read.xs
      by_some None some any = cc
      by_some (Some ys) some any =
          let f = end_first g tracks owned end to past read ys some in
          record { some = (end_passes g tracks read.track end.r stands).1; few = f.0; first = some ∙ ap (λ (zs : List Record). Some zs) f.1 }

  -- the end's track, read up to the end
  near_is : (read : IsRead g tracks owned end to end.tt) → IsUpToEnd read.track read.xs → near end.tt ≡ Some (blocks_from end.tt 1 (take end.r read.xs))
  unfolding part_at part_on
  near_is read upto =
      let not_first : (end.r == 0) ≡ false = apart end.r upto.some in
      let first : List Record = take end.r read.xs in
      ap (option_and_then (part_on g tracks end end end.tt)) read.there
      ∙ ap (λ (b : Bool). cond (b && (end.r == 0)) None (option_and_then (part_blocks end end.tt) (records_in g tracks (cond b (Some end.r) None) read.track))) (level end.tt)
      ∙ ap (λ (b : Bool). cond b None (option_and_then (part_blocks end end.tt) (records_in g tracks (Some end.r) read.track))) not_first
      ∙ ap (option_and_then (part_blocks end end.tt)) upto.first
      ∙ ap (λ (b : Bool). cond b (Some (blocks_from end.tt 1 first)) None) (stand_front end end.tt 1 end.r read.xs read.stand)
    where
      apart : (r : ℕ) → 1 ≤ r → (r == 0) ≡ false
      apart r some = grind (arith, nat_tests)

  -- so it has the same blocks of the directory
  end_same : before_end end (unwrap_or (near end.tt) []) ≡ before_end end (unwrap_or (at end.tt) [])
  end_same =
      let read = read_on end.tt past.track in
      let upto = end_track read in
      let first : List Record = take end.r read.xs in
      let more : List Record = drop end.r read.xs in
      let count : length first ≡ end.r = omega (arith, length-take end.r read.xs, upto.few) in
      let tail : List Block = blocks_from end.tt (1 + length first) more in
      let none : before_end end tail ≡ [] = none_before end end.tt (1 + length first) more (λ q low. past_on end q (omega (arith, low, count))) in
      let both : blocks_from end.tt 1 read.xs ≡ blocks_from end.tt 1 first ++ tail = ap (blocks_from end.tt 1) (sym (take-append-drop end.r read.xs)) ∙ blocks_both end.tt 1 first more in
      ap (λ (o : Option (List Block)). before_end end (unwrap_or o [])) (near_is read upto)
      ∙ sym (append-nil (before_end end (blocks_from end.tt 1 first)))
      ∙ ap (λ (l : List Block). before_end end (blocks_from end.tt 1 first) ++ l) (sym none)
      ∙ sym (filter-append (λ (b : Block). is_before b.place end) (blocks_from end.tt 1 first) tail)
      ∙ ap (before_end end) (sym both)
      ∙ ap (λ (o : Option (List Block)). before_end end (unwrap_or o [])) (sym read.blocks)

  -- later tracks have none
  later_none : (m low : ℕ) → end.tt < low → low + m ≤ to.tt + 1 → walk at m low ≡ []
  later_none zero low behind upto = refl
  later_none (suc m) low behind upto =
      let read = read_on low (omega (arith, upto)) in
      filter-append (λ (b : Block). is_before b.place end) (unwrap_or (at low) []) (flat_map (λ o. unwrap_or o []) (map at (range_with_len (low + 1) m)))
      ∙ ap (λ (l : List Block). before_end end (unwrap_or (at low) []) ++ l) (later_none m (low + 1) (omega (arith, behind)) (omega (arith, upto)))
      ∙ append-nil (before_end end (unwrap_or (at low) []))
      ∙ ap (λ (o : Option (List Block)). before_end end (unwrap_or o [])) read.blocks
      ∙ none_before end low 1 read.xs (λ q some. past_track end low q behind)

  -- from the end's track on
  walk_end : (m : ℕ) → end.tt + suc m ≤ to.tt + 1 → walk near 1 end.tt ≡ walk at (suc m) end.tt
  walk_end m upto =
      ap (before_end end) (append-nil (unwrap_or (near end.tt) []))
      ∙ end_same
      ∙ sym (append-nil (before_end end (unwrap_or (at end.tt) [])))
      ∙ ap (λ (l : List Block). before_end end (unwrap_or (at end.tt) []) ++ l) (sym (later_none m (end.tt + 1) (omega arith) (omega (arith, upto))))
      ∙ sym (filter-append (λ (b : Block). is_before b.place end) (unwrap_or (at end.tt) []) (flat_map (λ o. unwrap_or o []) (map at (range_with_len (end.tt + 1) m))))

  -- from an earlier one on, which so many stand before
  walk_same : (before low m near_count count : ℕ) → low + before ≡ end.tt → low + (before + suc m) ≤ to.tt + 1 → near_count ≡ before + 1 → count ≡ before + suc m → walk near near_count low ≡ walk at count low
  walk_same zero low m near_count count here upto one all =
      let same : low ≡ end.tt = omega (arith, here) in
      let single : near_count ≡ 1 = omega (arith, one) in
      let whole : count ≡ suc m = omega (arith, all) in
      ap (λ (c : ℕ). walk near c low) single
      ∙ ap (walk near 1) same
      ∙ walk_end m (omega (arith, upto, here))
      ∙ ap (walk at (suc m)) (sym same)
      ∙ ap (λ (c : ℕ). walk at c low) (sym whole)
  walk_same (suc before) low m near_count count here upto one all =
      let less : near_count ≡ suc (before + 1) = omega (arith, one) in
      let rest : count ≡ suc (before + suc m) = omega (arith, all) in
      ap (λ (c : ℕ). walk near c low) less
      ∙ filter-append (λ (b : Block). is_before b.place end) (unwrap_or (near low) []) (flat_map (λ o. unwrap_or o []) (map near (range_with_len (low + 1) (before + 1))))
      ∙ ap₂ (λ (xs ys : List Block). xs ++ ys) (ap (λ (o : Option (List Block)). before_end end (unwrap_or o [])) (before_same low (omega (arith, here))))
      (walk_same before (low + 1) m (before + 1) (before + suc m) (omega (arith, here)) (omega (arith, upto)) refl refl)
      ∙ sym (filter-append (λ (b : Block). is_before b.place end) (unwrap_or (at low) []) (flat_map (λ o. unwrap_or o []) (map at (range_with_len (low + 1) (before + suc m)))))
      ∙ ap (λ (c : ℕ). walk at c low) (sym rest)

  -- The blocks of the directory are those that are read up to its end.
  pub directory_is : before_end end (flat_map (λ o. unwrap_or o []) (part_tracks g tracks owned end to)) ≡ directory_upto g tracks owned end
  unfolding part_tracks
  directory_is =
      let m : ℕ = to.tt - end.tt in
      let count : end.tt + suc m ≡ to.tt + 1 = omega (arith, past.track) in
      sym (walk_same end.tt 0 m (end.tt + 1) (to.tt + 1) (omega arith) (omega (arith, count)) refl (sym count))

-- ---- by the index

module _ (image : List ℕ) (v : Vol) (f : F1) where
  abbrev tracks : List (List ℕ)
  tracks = data_in image v

  abbrev upto : Place → List Block
  upto p = before_end p (flat_map (λ o. unwrap_or o []) (part_tracks v.geometry tracks (owned_in image v f) p (read_to p f.lstar)))

  pub directory_in_is : unreadable (part_in image v f) ≡ None → directory_in image v f ≡ directory_upto v.geometry tracks (owned_in image v f) (end_in image v f)
  directory_in_is readable = part_or_unread v.geometry tracks (extents_in image v f) f.lstar (λ body. part_in image v f ≡ body → unreadable body ≡ None → directory_in image v f ≡ directory_upto v.geometry tracks (owned_in image v f) (end_in image v f))
      (λ n end es bs is some. subst (λ (p : Place). upto p ≡ directory_upto v.geometry tracks (owned_in image v f) p) (sym (part_end v.geometry tracks (extents_in image v f) f.lstar n end es bs is)) (directory_is v.geometry tracks (extents_in image v f) f.lstar n end es bs is))
      (λ k is none. cc)
      refl
      readable
