-- What is read of a directory, record by record.
use Rattle.std.proofs.Common.{◌≡◌, ◌+◌, ◌*◌, ◌≤◌, ◌<◌, ℕ, zero, suc, Bool, true, false, cond, ◌&&◌, inl, inr, List, [], ◌∷◌, ◌++◌, length, map, take, Some, None, refl, sym, ap, ◌∙◌, subst, append_assoc, arith, length-append, length-take}
use Rattle.std.specs.Prelude.{Err, IsErrOf, Result, slice_get, vec_items}
use Rattle.std.specs.List.{AllByRecursion, list_all}
use Rattle.std.proofs.lemmas.List.{append-nil, length-map, map-append}
use Rattle.std.proofs.lemmas.List.Folds.{list_all-append}
use Rattle.ckd_image.specs.Track.{Record}
use Rattle.chain_spec.specs.Cut.{AllFit, total}
use Rattle.vol_model.specs.declared.answers.ReadErr.{ReadErr}
use Rattle.vol_model.specs.declared.answers.ReadErr.TheVariants as errors
use Rattle.vol_model.specs.declared.contents.Block.{Block}
use Rattle.vol_model.specs.declared.contents.Entry.{Entry}
use Rattle.vol_model.specs.declared.contents.Place.{Place}
use Rattle.vol_model.specs.Slots.{entry_size}
use Rattle.pack_spec.specs.Blocks.{block_at, blocks_from}
use Rattle.pack_spec.specs.Directories.{directory_break, is_directory_record, stored_in}
use Rattle.pds_directory.specs.declared.ends.Reached.{Reached}
use Rattle.pds_directory.specs.declared.reading.Reading.{Reading}
use Rattle.pds_directory.specs.Directories.{IsOfRecord, entries_read}
use Rattle.pds_directory.specs.Entries.{IsReadEntry}
use Rattle.pds_directory.specs.Reading.{AddsEntriesUnless, AddsRecord, AreBad, AreReadSoFar, FitSoFar, HoldEntries, IsBadRecord, IsLawfulReading, ReadsRecord, ReadsRecords, end_on}
use Rattle.pds_directory.proofs.DirectoryBreaks.{break_here, hold_behind, hold_more}
use Rattle.pds_directory.proofs.PartWalks.{all_both}

-- ---- one record more

module _ (directory : List Block) (old new : Reading) (place : Place) (x : Record) (adds : AddsRecord place x old new) where
  abbrev block : Block
  block = block_at place.tt place.r x

  held : HoldEntries old.ended directory (entries_read old.dir) → HoldEntries new.ended (directory ++ block ∷ []) (entries_read new.dir)
  held hold = by old.ended hold adds.entries
    where
      by : (c : Bool) → HoldEntries c directory (entries_read old.dir) → AddsEntriesUnless c (stored_in block) old new → HoldEntries new.ended (directory ++ block ∷ []) (entries_read new.dir)
      by false hold added =
          let P : Bool → List (List Entry) → Type 0 = λ c es. HoldEntries c (directory ++ block ∷ []) es in
          subst (λ (c : Bool). P c (entries_read new.dir)) (sym added.ended) (subst (P added.stored.ends) (sym added.entries)
          (hold_more directory (entries_read old.dir) block added.stored hold added.reads))
      by true hold added =
          let P : Bool → List (List Entry) → Type 0 = λ c es. HoldEntries c (directory ++ block ∷ []) es in
          let same : entries_read old.dir ≡ entries_read new.dir = ap (λ bs. map vec_items (vec_items bs)) (sym added.1) in
          subst (λ (c : Bool). P c (entries_read new.dir)) (sym added.0) (subst (P true) same (hold_behind directory (entries_read old.dir) block hold))

  so_far_more : AreReadSoFar directory old → AreReadSoFar (directory ++ block ∷ []) new
  so_far_more so_far = record {
    places = adds.places ∙ ap (λ (ps : List Place). ps ++ place ∷ []) so_far.places ∙ sym (map-append (λ (b : Block). b.place) directory (block ∷ []));
    entries = held so_far.entries;
  }

-- ---- what is lawful

fit_last : (es : List (List Entry)) (e : List Entry) → AllByRecursion (λ (es : List Entry). total entry_size es ≤ 254) es → total entry_size e + 12 ≤ 254 → AllFit entry_size 254 12 (es ++ e ∷ [])
fit_last [] e all last = last
fit_last (d ∷ []) e all last = (all.0, last)
fit_last (d ∷ c ∷ cs) e all last = (all.0, fit_last (c ∷ cs) e all.1 last)

fit_more : (ended : Bool) (es : List (List Entry)) (e : List Entry) → FitSoFar false es → total entry_size e + cond ended 12 0 ≤ 254 → FitSoFar ended (es ++ e ∷ [])
fit_more false es e fit last = all_both (λ (es : List Entry). total entry_size es ≤ 254) es (e ∷ []) fit (omega (arith, last), tt)
fit_more true es e fit last = fit_last es e fit last

module _ (most : ℕ) (old new : Reading) (place : Place) (x : Record) (lawful : IsLawfulReading most old) (of : IsOfRecord place) (adds : AddsRecord place x old new) where
  more_places : length new.dir.places.items ≡ length old.dir.places.items + 1
  more_places = ap length adds.places ∙ length-append old.dir.places.items (place ∷ [])

  places_more : AllByRecursion IsOfRecord new.dir.places.items
  places_more = subst (AllByRecursion IsOfRecord) (sym adds.places) (all_both IsOfRecord old.dir.places.items (place ∷ []) lawful.places (of, tt))

  lawful_more : IsLawfulReading (most + 1) new
  lawful_more = by old.ended adds.entries lawful.fit
    where
      by : (c : Bool) → AddsEntriesUnless c (stored_in (block_at place.tt place.r x)) old new → FitSoFar c (entries_read old.dir) → IsLawfulReading (most + 1) new
      by false added fit =
          let P : List (List Entry) → Type 0 = AllByRecursion (AllByRecursion IsReadEntry) in
          let count : length new.dir.blocks.items ≡ length old.dir.blocks.items + 1 =
          sym (length-map new.dir.blocks.items vec_items) ∙ ap length added.entries ∙ length-append (entries_read old.dir) (added.stored.entries ∷ []) ∙ ap (λ (n : ℕ). n + 1) (length-map old.dir.blocks.items vec_items) in
          record {
            room = omega (arith, count, more_places, lawful.room);
            few = omega (arith, more_places, lawful.few);
            entries = subst P (sym added.entries) (all_both (AllByRecursion IsReadEntry) (entries_read old.dir) (added.stored.entries ∷ []) lawful.entries (added.lawful.all, tt));
            fit = subst (λ (c : Bool). FitSoFar c (entries_read new.dir)) (sym added.ended) (subst (FitSoFar added.stored.ends) (sym added.entries) (fit_more added.stored.ends (entries_read old.dir) added.stored.entries fit added.lawful.fit));
            places = places_more;
          }
      by true added fit =
          let same : entries_read old.dir ≡ entries_read new.dir = ap (λ bs. map vec_items (vec_items bs)) (sym added.1) in
          let count : length new.dir.blocks.items ≡ length old.dir.blocks.items = ap (λ bs. length (vec_items bs)) added.1 in
          record {
            room = omega (arith, count, more_places, lawful.room);
            few = omega (arith, more_places, lawful.few);
            entries = subst (AllByRecursion (AllByRecursion IsReadEntry)) same lawful.entries;
            fit = subst (λ (c : Bool). FitSoFar c (entries_read new.dir)) (sym added.0) (subst (FitSoFar true) same fit);
            places = places_more;
          }

-- what was read is the same where the end's place is known, and whether its track was read whole
module _ (r : Reading) (end : Place) (whole : Bool) where
  abbrev pub with_end : Reading
  with_end = record r { dir = record (r.dir) { end = end }; whole = whole }

  pub so_far_with : (directory : List Block) → AreReadSoFar directory r → AreReadSoFar directory with_end
  so_far_with directory is = record { places = is.places; entries = is.entries }

  pub lawful_with : (most : ℕ) → IsLawfulReading most r → IsLawfulReading most with_end
  lawful_with most is = record { room = is.room; few = is.few; entries = is.entries; fit = is.fit; places = is.places }

-- whether it was met
abbrev met_at : ℕ → Reached → Place
met_at k r = record { tt = k; r = r.before + 1 }

pub not_met : (k : ℕ) (r : Reached) → end_on k r ≡ None → false ≡ r.ended
not_met k r is = by r.ended is
  where
    by : (b : Bool) → cond b (Some (met_at k r)) None ≡ None → false ≡ b
    by true e = cc
    by false e = refl

pub is_met : (k : ℕ) (r : Reached) (end : Place) → end_on k r ≡ Some end → true ≡ r.ended
is_met k r end is = by r.ended is
  where
    by : (b : Bool) → cond b (Some (met_at k r)) None ≡ Some end → true ≡ b
    by true e = refl
    by false e = cc

-- ---- the records of a track

take_more : (n : ℕ) (xs : List Record) (x : Record) → slice_get xs n ≡ Some x → take (n + 1) xs ≡ take n xs ++ x ∷ []
take_more n [] x is = cc
take_more zero (y ∷ xs) x is = let same : y ≡ x = cc in let one : zero + 1 ≡ suc zero = omega arith in ap (λ (k : ℕ). take k (y ∷ xs)) one ∙ ap (λ (z : Record). z ∷ []) same
take_more (suc n) (y ∷ xs) x is = let next : suc n + 1 ≡ suc (n + 1) = omega arith in ap (λ (k : ℕ). take k (y ∷ xs)) next ∙ ap (λ (zs : List Record). y ∷ zs) (take_more n xs x is)

-- the first records, one of them and those after it
taken_at : (n m : ℕ) (xs : List Record) (x : Record) → n < m → slice_get xs n ≡ Some x → (rest : List Record) × (take m xs ≡ take n xs ++ x ∷ rest)
taken_at n m [] x low is = cc
taken_at n zero (y ∷ xs) x low is = absurd (omega (arith, low))
taken_at zero (suc m) (y ∷ xs) x low is = let same : y ≡ x = cc in (take m xs, ap (λ (z : Record). z ∷ take m xs) same)
taken_at (suc n) (suc m) (y ∷ xs) x low is = let rest = taken_at n m xs x (omega (arith, low)) is in (rest.0, ap (λ (zs : List Record). y ∷ zs) rest.1)

blocks_both : (k r : ℕ) (xs ys : List Record) → blocks_from k r (xs ++ ys) ≡ blocks_from k r xs ++ blocks_from k (r + length xs) ys
blocks_both k r [] ys = let same : r ≡ r + 0 = omega arith in ap (λ (n : ℕ). blocks_from k n ys) same
blocks_both k r (x ∷ xs) ys =
    let same : r + 1 + length xs ≡ r + suc (length xs) = omega arith in
    ap (λ (bs : List Block). block_at k r x ∷ bs) (blocks_both k (r + 1) xs ys ∙ ap (λ (n : ℕ). blocks_from k (r + 1) xs ++ blocks_from k n ys) same)

-- So many of these records on a relative track were read after those of the tracks before.
pub record AreTaken (k n : ℕ) (records : List Record) (old new : Reading) : Type 0 where
  pub lengths : list_all is_directory_record (take n records) ≡ true
  pub read : (directory : List Block) → AreReadSoFar directory old → AreReadSoFar (directory ++ blocks_from k 1 (take n records)) new
  pub lawful : IsLawfulReading (255 * k + n) new

pub taken_none : (k : ℕ) (records : List Record) (old : Reading) → IsLawfulReading (255 * k) old → AreTaken k 0 records old old
taken_none k records old lawful = record {
  lengths = refl;
  read = λ directory so_far. subst (λ (bs : List Block). AreReadSoFar bs old) (sym (append-nil directory)) so_far;
  lawful = subst (λ (n : ℕ). IsLawfulReading n old) (let same : 255 * k ≡ 255 * k + 0 = omega arith in same) lawful;
}

-- all of them were
module _ (k n before : ℕ) (records : List Record) (old new : Reading) (taken : AreTaken k n records old new) (all : n ≡ before) where
  pub read_taken : (directory : List Block) → AreReadSoFar directory old → (list_all is_directory_record (take before records) ≡ true) × AreReadSoFar (directory ++ blocks_from k 1 (take before records)) new
  read_taken directory so_far =
      let P : ℕ → Type 0 = λ m. (list_all is_directory_record (take m records) ≡ true) × AreReadSoFar (directory ++ blocks_from k 1 (take m records)) new in
      subst P all (taken.lengths, taken.read directory so_far)

  pub lawful_taken : before ≤ 255 → IsLawfulReading (255 * (k + 1)) new
  lawful_taken low = record {
    room = taken.lawful.room;
    few = omega (arith, taken.lawful.few, low, all);
    entries = taken.lawful.entries;
    fit = taken.lawful.fit;
    places = taken.lawful.places;
  }

module _ (k n : ℕ) (records : List Record) (old mid new : Reading) (taken : AreTaken k n records old mid) (low : n < length records) where
  abbrev place : Place
  place = record { tt = k; r = n + 1 }

  length_front : length (take n records) ≡ n
  length_front = omega (arith, low, length-take n records)

  pub taken_more : (x : Record) → slice_get records n ≡ Some x → n < 255 → AddsRecord place x mid new → AreTaken k (n + 1) records old new
  taken_more x there few adds =
      let parts = take_more n records x there in
      let at : 1 + length (take n records) ≡ n + 1 = omega (arith, length_front) in
      let blocks : blocks_from k 1 (take (n + 1) records) ≡ blocks_from k 1 (take n records) ++ block_at k (n + 1) x ∷ [] =
      ap (blocks_from k 1) parts ∙ blocks_both k 1 (take n records) (x ∷ []) ∙ ap (λ (r : ℕ). blocks_from k 1 (take n records) ++ block_at k r x ∷ []) at in
      record {
        lengths = ap (list_all is_directory_record) parts ∙ list_all-append is_directory_record (take n records) (x ∷ [])
            ∙ ap (λ (b : Bool). b && (is_directory_record x && true)) taken.lengths ∙ ap (λ (b : Bool). b && true) adds.lengths;
        read = λ directory so_far.
            subst (λ (bs : List Block). AreReadSoFar bs new) (append_assoc directory (blocks_from k 1 (take n records)) (block_at k (n + 1) x ∷ []) ∙ ap (λ (bs : List Block). directory ++ bs) (sym blocks))
            (so_far_more (directory ++ blocks_from k 1 (take n records)) mid new place x adds (taken.read directory so_far));
        lawful = subst (λ (m : ℕ). IsLawfulReading m new) (let same : 255 * k + n + 1 ≡ 255 * k + (n + 1) = omega arith in same) (lawful_more (255 * k + n) mid new place x taken.lawful (omega arith, omega (arith, few)) adds);
      }

  -- one of them is bad
  bad : (x : Record) (m : ℕ) → slice_get records n ≡ Some x → n < m → IsBadRecord mid.ended place x → (directory : List Block) → AreReadSoFar directory old → AreBad k directory (take m records)
  bad x m there less (inl lengths) directory so_far =
      let parts = taken_at n m records x less there in
      inl (ap (list_all is_directory_record) parts.1 ∙ list_all-append is_directory_record (take n records) (x ∷ parts.0)
      ∙ ap (λ (b : Bool). list_all is_directory_record (take n records) && (b && list_all is_directory_record parts.0)) lengths ∙ none (list_all is_directory_record (take n records)))
    where
      none : (b : Bool) → (b && false) ≡ false
      none true = refl
      none false = refl
  bad x m there less (inr broken) directory so_far =
      let parts = taken_at n m records x less there in
      let at : 1 + length (take n records) ≡ n + 1 = omega (arith, length_front) in
      let blocks : blocks_from k 1 (take m records) ≡ blocks_from k 1 (take n records) ++ block_at k (n + 1) x ∷ blocks_from k (n + 1 + 1) parts.0 =
      ap (blocks_from k 1) parts.1 ∙ blocks_both k 1 (take n records) (x ∷ parts.0) ∙ ap (λ (r : ℕ). blocks_from k 1 (take n records) ++ blocks_from k r (x ∷ parts.0)) at in
      let before : AreReadSoFar (directory ++ blocks_from k 1 (take n records)) mid = taken.read directory so_far in
      let open_so_far : HoldEntries false (directory ++ blocks_from k 1 (take n records)) (entries_read mid.dir) = subst (λ (c : Bool). HoldEntries c (directory ++ blocks_from k 1 (take n records)) (entries_read mid.dir)) broken.0 before.entries in
      inr (λ last more.
      let front : List Block = blocks_from k 1 (take n records) in
      let rest : List Block = block_at k (n + 1) x ∷ blocks_from k (n + 1 + 1) parts.0 in
      let whole : (directory ++ blocks_from k 1 (take m records)) ++ more ≡ (directory ++ front) ++ (rest ++ more) =
      ap (λ (bs : List Block). (directory ++ bs) ++ more) blocks ∙ ap (λ (bs : List Block). bs ++ more) (sym (append_assoc directory front rest)) ∙ append_assoc (directory ++ front) rest more in
      ap (directory_break last) whole ∙ break_here last (directory ++ blocks_from k 1 (take n records)) (entries_read mid.dir) (block_at k (n + 1) x) (blocks_from k (n + 1 + 1) parts.0 ++ more) open_so_far broken.1)

  pub taken_err : (x : Record) (m : ℕ) (e : ReadErr) → slice_get records n ≡ Some x → n < m → ReadsRecord (Err e) place x mid new → (directory : List Block) → AreReadSoFar directory old → ReadsRecords (Err e) k directory (take m records) new
  taken_err x m errors.Memory there less err directory so_far = tt
  taken_err x m errors.Device there less err directory so_far = err
  taken_err x m (errors.Unreadable j) there less err directory so_far = (err.0, bad x m there less err.1 directory so_far)

-- no fault of the device is answered
pub no_device : (place : Place) (x : Record) (old new : Reading) (e : ReadErr) (result : Result Bool ReadErr) → result ≡ Err e → ReadsRecord (Err e) place x old new → IsErrOf result errors.Device → ⊥
no_device place x old new (errors.Unreadable j) result is reads of = cc
no_device place x old new errors.Memory result is reads of = cc
no_device place x old new errors.Device result is reads of = reads

-- a record of a number stands in a buffer with so many
pub stands_at : (n : ℕ) (xs : List Record) → n < length xs → (x : Record) × (slice_get xs n ≡ Some x)
stands_at n [] low = absurd (omega (arith, low))
stands_at zero (x ∷ xs) low = (x, refl)
stands_at (suc n) (x ∷ xs) low = stands_at n xs (omega (arith, low))
