-- A shelf stays lawful where a data set is scratched.
use Rattle.std.proofs.Common.{◌≡◌, ◌+◌, ◌≤◌, ◌*◌, ◌/◌, ◌==◌, ◌&&◌, ◌||◌, max, not, nat_le, nat_lt, ℕ, suc, Bool, true, false, cond, List, [], ◌∷◌, length, filter, refl, sym, ◌∙◌, ap, subst, arith}
use Rattle.std.proofs.lemmas.Bool.Decides.{nat_tests}
use Rattle.std.proofs.lemmas.List.Sorted.{IsPermutation-cons, IsPermutation-middle, IsPermutation-refl, IsPermutation-trans, length_permutation, list_any-IsPermutation, sum_by-IsPermutation}
use Rattle.std.proofs.lemmas.List.Sums.{sum_by-cons}
use Rattle.std.proofs.lemmas.Slice.Eq.{bytes_eq-Decides}
use Rattle.std.specs.Prelude.{Some, None, Ok, find, is_some, if◌then◌else◌}
use Rattle.std.specs.List.{AllByRecursion, count_by, list_any}
use Rattle.std.specs.List.Sorted.{IsPermutation}
use Rattle.std.specs.Str.{bytes_eq}
use Rattle.ckd_image.specs.Device.{row_of}
use Rattle.ebcdic_names.specs.declared.names.Dsn.{Dsn}
use Rattle.vol_model.specs.declared.contents.DataSet.{DataSet}
use Rattle.vol_model.specs.declared.contents.Run.{Run}
use Rattle.vol_model.specs.declared.contents.Shelf.{Shelf}
use Rattle.vol_model.specs.declared.contents.Volume.{Volume}
use Rattle.vol_model.specs.declared.requests.Op.TheVariants.{Scratch}
use Rattle.vol_model.specs.Lawful.{IsLawful, IsLawfulCatalog, IsLawfulSet, IsLawfulVolume, OwnsOnce, owned_runs}
use Rattle.vol_model.specs.Order.{IsAscending, is_before}
use Rattle.vol_model.specs.Shelf.{catalog_name, has_name, is_catalog, scratch_on, set_of, step, step_on}
use Rattle.vol_model.specs.Slots.{slots_needed}
use Rattle.vol_model.specs.Space.{covers, free_runs, is_in, is_unowned, usable_cylinders}
use Rattle.shelf_laws.proofs.Lists.{all_filter}
use Rattle.shelf_laws.proofs.RunCounts.{more_runs}
use Rattle.shelf_laws.proofs.SetChanges.{behind_named, found_all}
use Rattle.shelf_laws.proofs.Sorted.{by_sets}
use Rattle.shelf_laws.proofs.Steps.{found_ok, ok_same, step_lawful}
use Rattle.shelf_laws.proofs.Tracks.{extents_of, owners, owners-append, owners-cons}

-- the data sets of other names
abbrev others : List ℕ → List DataSet → List DataSet
others name sets = filter (λ (y : DataSet). not (has_name name y)) sets

-- ---- lists without a set

rise_first : (x : DataSet) (xs : List DataSet) (b : Bool) → AllByRecursion (λ y. is_before x y ≡ true) xs → IsAscending xs → IsAscending (cond b (x ∷ xs) xs)
rise_first x xs true before up = (before, up)
rise_first x xs false before up = up

filter_ascending : (p : DataSet → Bool) (xs : List DataSet) → IsAscending xs → IsAscending (filter p xs)
filter_ascending p [] up = tt
filter_ascending p (x ∷ xs) up = rise_first x (filter p xs) (p x) (all_filter (λ y. is_before x y ≡ true) p xs up.0) (filter_ascending p xs up.1)

module _ (name : List ℕ) where
  -- after a set of the name no other has it
  all_stay : (x : DataSet) (sets : List DataSet) → has_name name x ≡ true → AllByRecursion (λ y. is_before x y ≡ true) sets → others name sets ≡ sets
  all_stay x [] named before = refl
  all_stay x (y ∷ sets) named before = ap (λ b. cond (not b) (y ∷ others name sets) (others name sets)) (unnamed (has_name name y) refl) ∙ ap (λ l. y ∷ l) (all_stay x sets named before.1)
    where
      unnamed : (b : Bool) → has_name name y ≡ b → b ≡ false
      unnamed true e = absurd (behind_named name x y named before.0 e)
      unnamed false e = refl

  taken_first : (y : DataSet) (sets : List DataSet) (x : DataSet) (b : Bool) → has_name name y ≡ b → AllByRecursion (λ z. is_before y z ≡ true) sets
      → (find (has_name name) sets ≡ Some x → IsPermutation sets (x ∷ others name sets))
      → cond b (Some y) (find (has_name name) sets) ≡ Some x → IsPermutation (y ∷ sets) (x ∷ cond (not b) (y ∷ others name sets) (others name sets))
  taken_first y sets x true e before rest found =
      let same : y ≡ x = cc in
      subst (λ (z : DataSet). IsPermutation (y ∷ sets) (z ∷ others name sets)) same (subst (λ (l : List DataSet). IsPermutation (y ∷ sets) (y ∷ l)) (sym (all_stay y sets e before)) (IsPermutation-refl (y ∷ sets)))
  taken_first y sets x false e before rest found =
      IsPermutation-trans (y ∷ sets) (y ∷ x ∷ others name sets) (x ∷ y ∷ others name sets) (IsPermutation-cons y sets (x ∷ others name sets) (rest found)) (IsPermutation-middle (y ∷ []) x (others name sets))

  -- data sets are the one of the name and the others
  taken : (sets : List DataSet) (x : DataSet) → IsAscending sets → find (has_name name) sets ≡ Some x → IsPermutation sets (x ∷ others name sets)
  taken [] x up found = cc
  taken (y ∷ sets) x up found = taken_first y sets x (has_name name y) refl up.0 (λ k. taken sets x up.1 k) found

  -- no other set has the name
  none_named : (sets : List DataSet) → list_any (has_name name) (others name sets) ≡ false
  none_named [] = refl
  none_named (y ∷ sets) = first (has_name name y) refl (none_named sets)
    where
      first : (b : Bool) → has_name name y ≡ b → list_any (has_name name) (others name sets) ≡ false → list_any (has_name name) (cond (not b) (y ∷ others name sets) (others name sets)) ≡ false
      first true e none = none
      first false e none = ap (λ b. b || list_any (has_name name) (others name sets)) e ∙ none

-- ---- tracks

owned_is : (t : ℕ) (rs : List Run) → covers rs t ≡ not (owners t rs == 0)
owned_is t [] = refl
owned_is t (r ∷ rs) = ap (λ b. is_in t r || b) (owned_is t rs) ∙ by_first (is_in t r) (owners t rs) ∙ ap (λ (n : ℕ). not (n == 0)) (sym (owners-cons t r rs))
  where
    by_first : (b : Bool) (n : ℕ) → (b || not (n == 0)) ≡ not (cond b 1 0 + n == 0)
    by_first true n = grind (arith, nat_tests)
    by_first false n = grind (arith, nat_tests)

any_is : (t : ℕ) (sets : List DataSet) → list_any (λ (x : DataSet). covers x.extents t) sets ≡ not (owners t (extents_of sets) == 0)
any_is t [] = refl
any_is t (x ∷ sets) = ap (λ b. b || list_any (λ (x : DataSet). covers x.extents t) sets) (owned_is t x.extents) ∙ ap (λ b. not (owners t x.extents == 0) || b) (any_is t sets) ∙ both (owners t x.extents) (owners t (extents_of sets)) ∙ ap (λ (n : ℕ). not (n == 0)) (sym (owners-append t x.extents (extents_of sets)))
  where
    both : (a b : ℕ) → (not (a == 0) || not (b == 0)) ≡ not (a + b == 0)
    both a b = grind (arith, nat_tests)

zero_run : Run
zero_run = record { start = 0; len = 1 }

unowned_is : (volume : Volume) (t : ℕ) → is_unowned volume t ≡ (owners t (owned_runs volume) == 0)
unfolding zero_run
unowned_is volume t =
    ap (λ b. not (t == 0 || (is_in t volume.vtoc || b))) (any_is t volume.sets)
    ∙ by_vtoc (is_in t volume.vtoc) t (owners t (extents_of volume.sets))
    ∙ ap (λ (n : ℕ). n == 0) (sym (owners-cons t zero_run (volume.vtoc ∷ extents_of volume.sets) ∙ ap (λ (n : ℕ). cond (is_in t zero_run) 1 0 + n) (owners-cons t volume.vtoc (extents_of volume.sets))))
  where
    by_vtoc : (b : Bool) (t n : ℕ) → not (t == 0 || (b || not (n == 0))) ≡ (cond (nat_le 0 t && nat_lt t (0 + 1)) 1 0 + (cond b 1 0 + n) == 0)
    by_vtoc true t n = by_zero t (nat_le 0 t && nat_lt t (0 + 1)) n
      where
        by_zero : (t : ℕ) (c : Bool) (n : ℕ) → not (t == 0 || true) ≡ (cond c 1 0 + (1 + n) == 0)
        by_zero t true n = grind (arith, nat_tests)
        by_zero t false n = grind (arith, nat_tests)
    by_vtoc false t n = by_zero (t == 0) refl (nat_le 0 t && nat_lt t (0 + 1)) refl
      where
        by_zero : (a : Bool) → (t == 0) ≡ a → (c : Bool) → (nat_le 0 t && nat_lt t (0 + 1)) ≡ c → not (a || not (n == 0)) ≡ (cond c 1 0 + (0 + n) == 0)
        by_zero true e true f = grind (arith, nat_tests)
        by_zero true e false f = grind (arith, nat_tests)
        by_zero false e true f = grind (arith, nat_tests)
        by_zero false e false f = grind (arith, nat_tests)

-- ---- the volume without the set

-- the volume without a data set
abbrev scratched_from : List ℕ → Volume → Volume
scratched_from name volume = record volume { sets = others name volume.sets; catalog = if is_catalog name then None else volume.catalog }

module _ (dsn : Dsn) (volume : Volume) (x : DataSet) (h : IsLawfulVolume volume) (at : set_of dsn.bytes volume ≡ Some x) where
  abbrev name : List ℕ
  name = dsn.bytes

  abbrev left : List DataSet
  left = others name volume.sets

  abbrev without : Volume
  without = scratched_from name volume

  order : IsPermutation volume.sets (x ∷ left)
  order = taken name volume.sets x h.order at

  pub owners_split : (t : ℕ) → owners t (owned_runs volume) ≡ owners t (owned_runs without) + owners t x.extents
  owners_split t =
      let zero : Run = record { start = 0; len = 1 } in
      let a = owners-cons t zero (volume.vtoc ∷ extents_of left) in
      let b = owners-cons t volume.vtoc (extents_of left) in
      let c = owners-cons t zero (volume.vtoc ∷ extents_of volume.sets) in
      let d = owners-cons t volume.vtoc (extents_of volume.sets) in
      let all = by_sets t volume.sets ∙ sym (sum_by-IsPermutation (λ (y : DataSet). owners t y.extents) volume.sets (x ∷ left) order) ∙ sum_by-cons (λ (y : DataSet). owners t y.extents) x left ∙ ap (λ (n : ℕ). owners t x.extents + n) (sym (by_sets t left)) in
      omega (arith, a, b, c, d, all)

  owned : OwnsOnce without
  owned t = let once = h.owned t in let split = owners_split t in omega (arith, once, split)

  freed : (t : ℕ) → is_unowned without t ≡ (is_unowned volume t || covers x.extents t)
  freed t =
      unowned_is without t
      ∙ of_both (owners t (owned_runs without)) (owners t x.extents) (owners t (owned_runs volume)) (owners_split t) (h.owned t)
      ∙ ap (λ b. b || not (owners t x.extents == 0)) (sym (unowned_is volume t))
      ∙ ap (λ b. is_unowned volume t || b) (sym (owned_is t x.extents))
    where
      of_both : (a b c : ℕ) → c ≡ a + b → c ≤ 1 → (a == 0) ≡ ((c == 0) || not (b == 0))
      of_both a b c e l = grind (arith, nat_tests)

  few_runs : length (free_runs without) ≤ length (free_runs volume) + length x.extents
  few_runs = more_runs (is_unowned volume) (is_unowned without) x.extents (usable_cylinders volume.geometry * (row_of volume.geometry.device).heads) freed

  -- one slot comes back, and at most sixteen runs more begin at most one more of 26
  fewer_slots : slots_needed without ≤ slots_needed volume
  unfolding slots_needed
  fewer_slots =
      let set = (found_all (IsLawfulSet volume.geometry) name volume.sets x h.sets at).0 in
      let few = set.few in
      let sets = length_permutation volume.sets (x ∷ left) order in
      let long = sym (sum_by-IsPermutation (λ (y : DataSet). cond (nat_lt 3 (length y.extents)) 1 0) volume.sets (x ∷ left) order) ∙ sum_by-cons (λ (y : DataSet). cond (nat_lt 3 (length y.extents)) 1 0) x left in
      slots (length (free_runs without)) (length (free_runs volume)) (length x.extents) (length left) (length volume.sets) (count_by (λ (y : DataSet). nat_lt 3 (length y.extents)) left) (count_by (λ (y : DataSet). nat_lt 3 (length y.extents)) volume.sets)
      (cond (nat_lt 3 (length x.extents)) 1 0) few_runs few sets long
    where
      slots : (new old e l s m k c : ℕ) → new ≤ old + e → e ≤ 16 → suc l ≡ s → k ≡ c + m → 1 + max 1 ((new + 25) / 26) + l + m ≤ 1 + max 1 ((old + 25) / 26) + s + k
      slots new old e l s m k c a b d f = let q = started new old (omega arith) in omega arith
        where
          started : (a b : ℕ) → a ≤ b + 16 → (a + 25) / 26 ≤ (b + 25) / 26 + 1
          started a b l = omega arith

  catalog_by : (b : Bool) → bytes_eq name catalog_name ≡ b → (list_any (has_name catalog_name) left ≡ is_some (if b then None else volume.catalog)) × IsLawfulCatalog (if b then None else volume.catalog)
  catalog_by true e = (ap (λ (n : List ℕ). list_any (has_name n) left) (sym ((bytes_eq-Decides name catalog_name).0 e)) ∙ none_named name volume.sets, tt)
  catalog_by false e = (sym (ap (λ b. b || list_any (has_name catalog_name) left) (other_named (has_name catalog_name x) refl)) ∙ sym (list_any-IsPermutation (has_name catalog_name) volume.sets (x ∷ left) order) ∙ h.has_catalog, h.catalog)
    where
      other_named : (b : Bool) → has_name catalog_name x ≡ b → b ≡ false
      other_named true f = let same : x.name.bytes ≡ name = (bytes_eq-Decides x.name.bytes name).0 (found_all (λ y. Unit {0}) name volume.sets x (units volume.sets) at).1 in
          let wrong = sym e ∙ ap (λ (n : List ℕ). bytes_eq n catalog_name) (sym same) ∙ f in cc
        where
          units : (sets : List DataSet) → AllByRecursion (λ y. Unit {0}) sets
          units [] = tt
          units (y ∷ sets) = (tt, units sets)
      other_named false f = refl

  scratched : IsLawfulVolume without
  scratched =
      let room = h.room in
      let fewer = fewer_slots in
      let tree = catalog_by (is_catalog name) refl in
      record {
        some = h.some;
        most = h.most;
        slots = h.slots;
        room = omega (arith, room, fewer);
        order = filter_ascending (λ (y : DataSet). not (has_name name y)) volume.sets h.order;
        sets = all_filter (IsLawfulSet volume.geometry) (λ (y : DataSet). not (has_name name y)) volume.sets h.sets;
        owned = owned;
        has_catalog = tree.0;
        catalog = tree.1;
      }

scratches : (dsn : Dsn) (volume w : Volume) → IsLawfulVolume volume → scratch_on dsn volume ≡ Ok w → IsLawfulVolume w
unfolding scratch_on
scratches dsn volume w h done =
    let found = found_ok (set_of dsn.bytes volume) (λ x. Ok (scratched_from dsn.bytes volume)) w done in
    subst IsLawfulVolume (ok_same (scratched_from dsn.bytes volume) w found.2) (scratched dsn volume found.0 h found.1)

pub scratch_lawful : (s t : Shelf) (v : ℕ) (dsn : Dsn) → IsLawful s → step s (Scratch v dsn) ≡ Ok t → IsLawful t
unfolding step_on
scratch_lawful s t v dsn h done = step_lawful s t (Scratch v dsn) (λ volume w. scratches dsn volume w) h done
