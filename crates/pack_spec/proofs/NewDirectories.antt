-- A new directory reads as one without entries, and without blocks after it.
use Rattle.std.proofs.Common.{◌≡◌, ◌⊎◌, ◌+◌, ◌%◌, ◌≤◌, ◌<◌, ℕ, zero, suc, Bool, true, false, cond, eqb, ◌&&◌, ◌||◌, List, [], ◌∷◌, ◌++◌, length, map, Option, Some, None, inl, inr, refl, sym, ap, ◌∙◌, arith, append-nil, length-append, option_and_then}
use Rattle.std.specs.Prelude.{◌==◌, nat_le, slice_get, unwrap_or, is_none}
use Rattle.std.specs.List.{enumerate_from, flat_map, list_all, list_any, range_with_len}
use Rattle.std.proofs.lemmas.Bool.{and_right, eq-eqb, eqb-true, ne_eqb}
use Rattle.std.proofs.lemmas.Bool.Decides.{eqb_tells, nat_tests}
use Rattle.std.proofs.lemmas.List.{length-map, map-append}
use Rattle.std.proofs.lemmas.List.Elements.{filter-append}
use Rattle.std.proofs.lemmas.List.FromFn.{length-range_with_len}
use Rattle.std.proofs.lemmas.Option.{slice_get_within}
use Rattle.ckd_image.specs.declared.device.DiskType.{DiskType}
use Rattle.ckd_image.specs.declared.header.Geometry.{Geometry}
use Rattle.ckd_image.specs.Track.{Record}
use Rattle.chain_spec.specs.Store.{Block as Stored, reads}
use Rattle.vol_model.specs.declared.contents.Block.{Block}
use Rattle.vol_model.specs.declared.contents.Body.TheVariants.{Part}
use Rattle.vol_model.specs.declared.contents.Entry.{Entry}
use Rattle.vol_model.specs.declared.contents.Place.{Place}
use Rattle.vol_model.specs.declared.contents.Run.{Run}
use Rattle.vol_model.specs.Places.{Content, content, directory_end, end_of_file, is_before}
use Rattle.pack_spec.specs.Blocks.{block_at, blocks_from, is_block, last_of, owned_tracks, records_in, upto_last}
use Rattle.pack_spec.specs.Directories.{before_end, behind_end, block_entries, break_from, directory_break, end_from, end_or, end_record, entries_from, entries_of, first_block, is_directory_record, is_end_record, may_stand, name_number, new_block, new_numbers, new_records, no_entry, part_at, part_blocks, part_body, part_ended, part_of, part_on, part_tracks, stored_in, unused_block}
use Rattle.pack_spec.proofs.EndRecords.{end_read, no_end_read}
use Rattle.pack_spec.proofs.FrontRecords.{count_in}
use Rattle.pack_spec.proofs.NewPlaces.{all_numbers, end_few, end_some}
use Rattle.pack_spec.proofs.PartBodies.{from_part}

-- what a record holds
abbrev pub held : Record → Content
held x = (x.key, x.data)

-- ---- the records of one track

is_directory : (x : Record) (i : ℕ) → held x ≡ new_block i → is_directory_record x ≡ true
unfolding first_block unused_block
is_directory x zero is = ap (λ (c : Content). length c.0 == 8 && length c.1 == 256) is
is_directory x (suc i) is = ap (λ (c : Content). length c.0 == 8 && length c.1 == 256) is

is_no_end : (x : Record) (i : ℕ) → held x ≡ new_block i → is_end_record x ≡ false
unfolding first_block unused_block
is_no_end x zero is = ap (λ (c : Content). length c.0 == 0 && length c.1 == 0) is
is_no_end x (suc i) is = ap (λ (c : Content). length c.0 == 0 && length c.1 == 0) is

is_end : (x : Record) → held x ≡ end_of_file → is_end_record x ≡ true
is_end x is = ap (λ (c : Content). length c.0 == 0 && length c.1 == 0) is

may_end : (x : Record) → held x ≡ end_of_file → is_block x ≡ true
may_end x is = ap (λ (c : Content). nat_le (length c.0) 255 && nat_le (length c.1) 32760) is

-- records from Rr of a track on that are these blocks of a new directory, with its end-of-file record after them or not
pub record IsNewFrom (end : Place) (k r : ℕ) (xs : List Record) (is : List ℕ) : Type 0 where
  pub stand : list_all (may_stand end k) (enumerate_from r xs) ≡ true
  pub blocks : map content (before_end end (blocks_from k r xs)) ≡ map new_block is
  pub none : behind_end end (blocks_from k r xs) ≡ []

module _ (end : Place) (k : ℕ) where
  stands_before : (r : ℕ) (x : Record) (xs : List Record) (i : ℕ) (is : List ℕ) → is_before (record { tt = k; r = r }) end ≡ true → held x ≡ new_block i → IsNewFrom end k (r + 1) xs is → IsNewFrom end k r (x ∷ xs) (i ∷ is)
  stands_before r x xs i is before one rest = record {
    stand = ap (λ (b : Bool). cond b (is_directory_record x) (is_block x) && list_all (may_stand end k) (enumerate_from (r + 1) xs)) before
        ∙ ap (λ (b : Bool). b && list_all (may_stand end k) (enumerate_from (r + 1) xs)) (is_directory x i one) ∙ rest.stand;
    blocks = ap (λ (b : Bool). map content (cond b (block_at k r x ∷ before_end end (blocks_from k (r + 1) xs)) (before_end end (blocks_from k (r + 1) xs)))) before
        ∙ ap (λ (cs : List Content). held x ∷ cs) rest.blocks ∙ ap (λ (c : Content). c ∷ map new_block is) one;
    none = ap (λ (b : Bool). cond b (block_at k r x ∷ behind_end end (blocks_from k (r + 1) xs)) (behind_end end (blocks_from k (r + 1) xs))) (not_behind end k r before) ∙ rest.none;
  }
    where
      not_behind : (p : Place) (k r : ℕ) → is_before (record { tt = k; r = r }) p ≡ true → is_before p (record { tt = k; r = r }) ≡ false
      not_behind p k r before = grind (arith, nat_tests)

  stands_at : (r : ℕ) (x : Record) → k ≡ end.tt → r ≡ end.r → held x ≡ end_of_file → IsNewFrom end k r (x ∷ []) []
  stands_at r x track place one = record {
    stand = ap (λ (b : Bool). cond b (is_directory_record x) (is_block x) && true) (not_before end k r track place) ∙ ap (λ (b : Bool). b && true) (may_end x one);
    blocks = ap (λ (b : Bool). map content (cond b (block_at k r x ∷ []) [])) (not_before end k r track place);
    none = ap (λ (b : Bool). cond b (block_at k r x ∷ []) []) (not_behind end k r track place);
  }
    where
      not_before : (p : Place) (k r : ℕ) → k ≡ p.tt → r ≡ p.r → is_before (record { tt = k; r = r }) p ≡ false
      not_before p k r track place = grind (arith, nat_tests)

      not_behind : (p : Place) (k r : ℕ) → k ≡ p.tt → r ≡ p.r → is_before p (record { tt = k; r = r }) ≡ false
      not_behind p k r track place = grind (arith, nat_tests)

  pub new_from : (e : Bool) (is : List ℕ) (xs : List Record) (r : ℕ) → map held xs ≡ map new_block is ++ cond e (end_of_file ∷ []) [] → ((q : ℕ) → r ≤ q → q < r + length is → is_before (record { tt = k; r = q }) end ≡ true)
      → (e ≡ true → (k ≡ end.tt) × (r + length is ≡ end.r)) → IsNewFrom end k r xs is
  new_from false [] [] r same before at = record { stand = refl; blocks = refl; none = refl }
  new_from false [] (x ∷ xs) r same before at = absurd (cc)
  new_from true [] [] r same before at = absurd (cc)
  new_from true [] (x ∷ []) r same before at = let ends = at refl in stands_at r x ends.0 (omega (arith, ends.1)) (cc)
  new_from true [] (x ∷ y ∷ xs) r same before at = absurd (cc)
  new_from e (i ∷ is) [] r same before at = absurd (cc)
  new_from e (i ∷ is) (x ∷ xs) r same before at =
      stands_before r x xs i is (before r (omega arith) (omega arith)) (cc)
      (new_from e is xs (r + 1) (cc) (λ q low up. before q (omega (arith, low)) (omega (arith, up))) (λ ends. let here = at ends in (here.0, omega (arith, here.1))))

-- ---- its first end-of-file record

no_end_in : (is : List ℕ) (xs : List Record) → map held xs ≡ map new_block is → list_any is_end_record xs ≡ false
no_end_in [] [] same = refl
no_end_in [] (x ∷ xs) same = absurd (cc)
no_end_in (i ∷ is) [] same = absurd (cc)
no_end_in (i ∷ is) (x ∷ xs) same = ap (λ (b : Bool). b || list_any is_end_record xs) (is_no_end x i (cc)) ∙ no_end_in is xs (cc)

-- the records of the blocks, and the end-of-file record after them
record IsEnded (is : List ℕ) (xs : List Record) : Type 0 where
  ys : List Record
  z : Record
  parts : xs ≡ ys ++ z ∷ []
  blocks : map held ys ≡ map new_block is
  ends : held z ≡ end_of_file

one_more : (i : ℕ) (x : Record) (is : List ℕ) (xs : List Record) → held x ≡ new_block i → IsEnded is xs → IsEnded (i ∷ is) (x ∷ xs)
one_more i x is xs one rest = record {
  ys = x ∷ rest.ys;
  z = rest.z;
  parts = ap (λ (l : List Record). x ∷ l) rest.parts;
  blocks = ap (λ (c : Content). c ∷ map held rest.ys) one ∙ ap (λ (cs : List Content). new_block i ∷ cs) rest.blocks;
  ends = rest.ends;
}

end_in : (is : List ℕ) (xs : List Record) → map held xs ≡ map new_block is ++ end_of_file ∷ [] → IsEnded is xs
end_in [] [] same = absurd (cc)
end_in [] (x ∷ []) same = record { ys = []; z = x; parts = refl; blocks = refl; ends = cc }
end_in [] (x ∷ y ∷ xs) same = absurd (cc)
end_in (i ∷ is) [] same = absurd (cc)
end_in (i ∷ is) (x ∷ xs) same = one_more i x is xs (cc) (end_in is xs (cc))

module _ (g : Geometry) (tracks : List (List ℕ)) where
  end_on : (t r : ℕ) (is : List ℕ) (xs : List Record) → records_in g tracks (Some r) t ≡ Some xs → map held xs ≡ map new_block is ++ end_of_file ∷ [] → r ≡ suc (length is) → r ≤ 255 → end_record g tracks t ≡ Some r
  end_on t r is xs read same long few =
      let ended = end_in is xs same in
      let count : suc (length ended.ys) ≡ r = omega (arith, long, length-map ended.ys held, ap length ended.blocks, length-map is new_block) in
      end_read g tracks t (Some r) ended.ys ended.z [] (read ∙ ap (λ (l : List Record). Some l) ended.parts) (no_end_in is ended.ys ended.blocks) (is_end ended.z ended.ends) (omega (arith, count, few))
      ∙ ap (λ (q : ℕ). Some q) count

  end_found : (k : ℕ) (ts : List ℕ) (end : Place) → k ≤ end.tt → end.tt < k + length ts → ((j t : ℕ) → slice_get ts j ≡ Some t → k + j < end.tt → end_record g tracks t ≡ None)
      → ((j t : ℕ) → slice_get ts j ≡ Some t → k + j ≡ end.tt → end_record g tracks t ≡ Some end.r) → end_from g tracks k ts ≡ end
  unfolding end_from
  end_found k [] end least most none some = absurd (omega (arith, least, most))
  end_found k (t ∷ ts) end least most none some =
      by (eqb_tells k end.tt) (λ h. end_found (k + 1) ts end h (omega (arith, most)) (λ j u there low. none (suc j) u there (omega (arith, low))) (λ j u there at. some (suc j) u there (omega (arith, at))))
    where
      by : ((eqb k end.tt ≡ true) × (k ≡ end.tt)) ⊎ ((eqb k end.tt ≡ false) × (k ≡ end.tt → ⊥)) → (k + 1 ≤ end.tt → end_from g tracks (k + 1) ts ≡ end) → end_or k (end_from g tracks (k + 1) ts) (end_record g tracks t) ≡ end
      by (inl w) later = ap (end_or k (end_from g tracks (k + 1) ts)) (some zero t refl (omega (arith, w.1))) ∙ ap (λ (j : ℕ). let p : Place = record { tt = j; r = end.r } in p) w.1
      by (inr w) later = ap (end_or k (end_from g tracks (k + 1) ts)) (none zero t refl (omega (arith, least, w.1))) ∙ later (omega (arith, least, w.1))

-- ---- the directory

new_stored : (b : Block) → content b ≡ new_block 0 → stored_in b ≡ Some (no_entry true)
unfolding first_block block_entries entries_from
new_stored b is = ap (λ (c : Content). block_entries (map (λ x. x % 256) c.1)) is

new_directory : (n last : ℕ) (bs : List Block) → 1 ≤ n → map content bs ≡ map new_block (range_with_len 0 n) → (directory_break last bs ≡ None) × (entries_of bs ≡ [])
new_directory zero last bs some same = absurd (omega (arith, some))
new_directory (suc n) last [] some same = absurd (cc)
new_directory (suc n) last (b ∷ bs) some same =
    let one = new_stored b (cc) in (
      ap (break_from b.place.tt (directory_break last bs)) one,
      ap (λ (o : Option (Stored Entry)). unwrap_or (reads name_number (o ∷ map stored_in bs)) []) one,
    )

-- A relative track of a data set that begins with a new directory, read to its end marker or up to the end-of-file record.
pub record IsNewOn (g : Geometry) (tracks : List (List ℕ)) (owned : List ℕ) (device : DiskType) (n k : ℕ) : Type 0 where
  pub track : ℕ
  pub there : slice_get owned k ≡ Some track
  pub xs : List Record
  pub records : records_in g tracks (upto_last (directory_end device n) k) track ≡ Some xs
  pub holds : map held xs ≡ new_records device n k

module _ (g : Geometry) (tracks : List (List ℕ)) (extents : List Run) (lstar : List ℕ) (device : DiskType) (n : ℕ) (some : 1 ≤ n)
    (last : is_before (directory_end device n) (last_of lstar) ≡ false)
    (formatted : (k : ℕ) → k ≤ (directory_end device n).tt → IsNewOn g tracks (owned_tracks extents) device n k) where
  abbrev end : Place
  end = directory_end device n

  abbrev owned : List ℕ
  owned = owned_tracks extents

  -- R of the end-of-file record is after those of its track's blocks
  counted : (k : ℕ) (new : IsNewOn g tracks owned device n k) → k ≡ end.tt → end.r ≡ suc (length (new_numbers device n k))
  counted k new same =
      let up : upto_last end k ≡ Some end.r = ap (λ (b : Bool). cond b (Some end.r) None) (eq-eqb k end.tt same) in
      let long = count_in g tracks new.track new.xs end.r (ap (λ (u : Option ℕ). records_in g tracks u new.track) (sym up) ∙ new.records) in
      let ends : (end.tt == k) ≡ true = eq-eqb end.tt k (sym same) in
      let all : map held new.xs ≡ map new_block (new_numbers device n k) ++ end_of_file ∷ [] = new.holds ∙ ap (λ (b : Bool). map new_block (new_numbers device n k) ++ cond b (end_of_file ∷ []) []) ends in
      omega (arith, long, length-map new.xs held, ap length all, length-append (map new_block (new_numbers device n k)) (end_of_file ∷ []), length-map (new_numbers device n k) new_block)

  new_at : (k : ℕ) → k ≤ end.tt → (new : IsNewOn g tracks owned device n k) → IsNewFrom end k 1 new.xs (new_numbers device n k)
  new_at k low new = new_from end k (end.tt == k) (new_numbers device n k) new.xs 1 new.holds before at
    where
      earlier : (p : Place) (k q : ℕ) → k < p.tt → is_before (record { tt = k; r = q }) p ≡ true
      earlier p k q less = grind (arith, nat_tests)

      same_track : (p : Place) (k q : ℕ) → k ≡ p.tt → q < p.r → is_before (record { tt = k; r = q }) p ≡ true
      same_track p k q same less = grind (arith, nat_tests)

      before : (q : ℕ) → 1 ≤ q → q < 1 + length (new_numbers device n k) → is_before (record { tt = k; r = q }) end ≡ true
      before q least most = elim (eqb_tells k end.tt) [
        | inl w ↦ same_track end k q w.1 (omega (arith, most, counted k new w.1))
        | inr w ↦ earlier end k q (omega (arith, low, w.1))
      ]

      at : (end.tt == k) ≡ true → (k ≡ end.tt) × (1 + length (new_numbers device n k) ≡ end.r)
      at ends = let same : k ≡ end.tt = sym (eqb-true end.tt k ends) in (same, omega (arith, counted k new same))

  end_is : end_from g tracks 0 owned ≡ end
  end_is = end_found g tracks 0 owned end (omega arith) (let new = formatted end.tt (omega arith) in omega (arith, slice_get_within owned end.tt new.track new.there)) none_at at_end
    where
      none_at : (j t : ℕ) → slice_get owned j ≡ Some t → 0 + j < end.tt → end_record g tracks t ≡ None
      none_at j t there low =
          let new = formatted j (omega (arith, low)) in
          let same : t ≡ new.track = let e : Some t ≡ Some new.track = sym there ∙ new.there in cc in
          let up : upto_last end j ≡ None = ap (λ (b : Bool). cond b (Some end.r) None) (ne_eqb j end.tt (λ e. omega (arith, e, low))) in
          let ends : (end.tt == j) ≡ false = ne_eqb end.tt j (λ e. omega (arith, e, low)) in
          ap (end_record g tracks) same
          ∙ no_end_read g tracks new.track new.xs (ap (λ (u : Option ℕ). records_in g tracks u new.track) (sym up) ∙ new.records)
          (no_end_in (new_numbers device n j) new.xs (new.holds ∙ ap (λ (b : Bool). map new_block (new_numbers device n j) ++ cond b (end_of_file ∷ []) []) ends ∙ append-nil (map new_block (new_numbers device n j))))

      at_end : (j t : ℕ) → slice_get owned j ≡ Some t → 0 + j ≡ end.tt → end_record g tracks t ≡ Some end.r
      at_end j t there at =
          let here : j ≡ end.tt = omega (arith, at) in
          let new = formatted j (omega (arith, here)) in
          let same : t ≡ new.track = let e : Some t ≡ Some new.track = sym there ∙ new.there in cc in
          let up : upto_last end j ≡ Some end.r = ap (λ (b : Bool). cond b (Some end.r) None) (eq-eqb j end.tt here) in
          let ends : (end.tt == j) ≡ true = eq-eqb end.tt j (sym here) in
          ap (end_record g tracks) same
          ∙ end_on g tracks new.track end.r (new_numbers device n j) new.xs (ap (λ (u : Option ℕ). records_in g tracks u new.track) (sym up) ∙ new.records)
          (new.holds ∙ ap (λ (b : Bool). map new_block (new_numbers device n j) ++ cond b (end_of_file ∷ []) []) ends) (counted j new here) (end_few device n)

  -- each track is read, and gives its records as blocks
  read_on : (k : ℕ) → k ≤ end.tt → (new : IsNewOn g tracks owned device n k) → part_at g tracks owned end end k ≡ Some (blocks_from k 1 new.xs)
  unfolding part_at part_on
  read_on k low new =
      let r_some : ((k == end.tt) && (end.r == 0)) ≡ false = and_right (k == end.tt) (end.r == 0) (ne_eqb end.r 0 (λ e. omega (arith, e, end_some device n))) in
      ap (option_and_then (part_on g tracks end end k)) new.there
      ∙ ap (λ (b : Bool). cond b None (option_and_then (part_blocks end k) (records_in g tracks (upto_last end k) new.track))) r_some
      ∙ ap (option_and_then (part_blocks end k)) new.records
      ∙ ap (λ (b : Bool). cond b (Some (blocks_from k 1 new.xs)) None) (new_at k low new).stand

  abbrev at : ℕ → Option (List Block)
  at = part_at g tracks owned end end

  abbrev on : ℕ → ℕ → List Block
  on k m = flat_map (λ o. unwrap_or o []) (map at (range_with_len k m))

  all_some : (m k : ℕ) → k + m ≤ end.tt + 1 → list_any (λ o. is_none o) (map at (range_with_len k m)) ≡ false
  all_some zero k low = refl
  all_some (suc m) k low =
      let new = formatted k (omega (arith, low)) in
      ap (λ (o : Option (List Block)). is_none o || list_any (λ o. is_none o) (map at (range_with_len (k + 1) m))) (read_on k (omega (arith, low)) new) ∙ all_some m (k + 1) (omega (arith, low))

  here : (k : ℕ) (m : ℕ) (low : k ≤ end.tt) (new : IsNewOn g tracks owned device n k) → on k (suc m) ≡ blocks_from k 1 new.xs ++ on (k + 1) m
  here k m low new = ap (λ (o : Option (List Block)). unwrap_or o [] ++ on (k + 1) m) (read_on k low new)

  all_before : (m k : ℕ) → k + m ≤ end.tt + 1 → map content (before_end end (on k m)) ≡ map new_block (flat_map (new_numbers device n) (range_with_len k m))
  all_before zero k low = refl
  all_before (suc m) k low =
      let new = formatted k (omega (arith, low)) in
      let now = new_at k (omega (arith, low)) new in
      let rest = all_before m (k + 1) (omega (arith, low)) in
      ap (λ (bs : List Block). map content (before_end end bs)) (here k m (omega (arith, low)) new)
      ∙ ap (map content) (filter-append (λ (b : Block). is_before b.place end) (blocks_from k 1 new.xs) (on (k + 1) m))
      ∙ map-append content (before_end end (blocks_from k 1 new.xs)) (before_end end (on (k + 1) m))
      ∙ ap (λ (cs : List Content). cs ++ map content (before_end end (on (k + 1) m))) now.blocks
      ∙ ap (λ (cs : List Content). map new_block (new_numbers device n k) ++ cs) rest
      ∙ sym (map-append new_block (new_numbers device n k) (flat_map (new_numbers device n) (range_with_len (k + 1) m)))

  none_later : (m k : ℕ) → k + m ≤ end.tt + 1 → behind_end end (on k m) ≡ []
  none_later zero k low = refl
  none_later (suc m) k low =
      let new = formatted k (omega (arith, low)) in
      ap (behind_end end) (here k m (omega (arith, low)) new)
      ∙ filter-append (λ (b : Block). is_before end b.place) (blocks_from k 1 new.xs) (on (k + 1) m)
      ∙ ap (λ (bs : List Block). bs ++ behind_end end (on (k + 1) m)) (new_at k (omega (arith, low)) new).none
      ∙ none_later m (k + 1) (omega (arith, low))

  -- A new directory reads as one of so many blocks, without entries and blocks after it.
  pub new_part : part_body g tracks extents lstar ≡ Part n end [] []
  unfolding part_body part_tracks
  new_part =
      let all : List Block = on 0 (end.tt + 1) in
      let held_by : map content (before_end end all) ≡ map new_block (range_with_len 0 n) = all_before (end.tt + 1) 0 (omega arith) ∙ ap (map new_block) (all_numbers device n) in
      let directory = new_directory n end.tt (before_end end all) some held_by in
      ap (part_ended g tracks owned lstar) end_is
      ∙ ap (λ (p : Place). part_of end (map (part_at g tracks owned end p) (range_with_len 0 (p.tt + 1)))) (ap (λ (b : Bool). cond b (last_of lstar) end) last)
      ∙ from_part end (map at (range_with_len 0 (end.tt + 1))) n end [] [] (record {
        end_at = refl;
        whole = all_some (end.tt + 1) 0 (omega arith);
        ended = directory.0;
        count = omega (arith, sym (length-map (before_end end all) content), ap length held_by, length-map (range_with_len 0 n) new_block, length-range_with_len 0 n);
        entries = directory.1;
        blocks = none_later (end.tt + 1) 0 (omega arith);
      })
