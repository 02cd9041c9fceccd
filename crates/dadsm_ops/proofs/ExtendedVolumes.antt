-- The volume one of whose data sets gets extents: why it is refused, what of it is free, and the slots that it needs.
use Rattle.std.proofs.Common.{◌≡◌, ◌+◌, ◌*◌, ◌/◌, ◌<◌, ◌≤◌, ℕ, max, Bool, true, false, cond, not, ◌||◌, ◌&&◌, List, [], ◌∷◌, ◌++◌, length, nat_lt, Option, Some, None, refl, sym, ap, subst, ◌∙◌, arith, length-append}
use Rattle.std.specs.Prelude.{◌==◌, Result, Ok, Err, find, nat_le}
use Rattle.std.specs.List.{AllByRecursion, list_any, sum_by}
use Rattle.std.proofs.lemmas.Bool.Decides.{nat_tests}
use Rattle.std.proofs.lemmas.List.Folds.{list_any-append}
use Rattle.std.proofs.lemmas.List.Sums.{sum_by-cons}
use Rattle.ckd_image.specs.Device.{row_of}
use Rattle.ebcdic_names.specs.declared.names.Dsn.{Dsn}
use Rattle.shelf_laws.proofs.Extending.{extend_lawful}
use Rattle.shelf_laws.proofs.SetChanges.{behind_named}
use Rattle.space_alloc.specs.Edits.{AreWithout}
use Rattle.vol_model.specs.declared.contents.Body.{Body}
use Rattle.vol_model.specs.declared.contents.Body.TheVariants as bodies
use Rattle.vol_model.specs.declared.contents.DataSet.{DataSet}
use Rattle.vol_model.specs.declared.contents.Run.{Run}
use Rattle.vol_model.specs.declared.contents.Shelf.{Shelf}
use Rattle.vol_model.specs.declared.contents.Volume.{Volume}
use Rattle.vol_model.specs.declared.refusals.Refusal.{Refusal}
use Rattle.vol_model.specs.declared.refusals.Refusal.TheVariants as refusals
use Rattle.vol_model.specs.Lawful.{IsLawful, IsLawfulVolume}
use Rattle.vol_model.specs.Order.{IsAscending, is_before}
use Rattle.vol_model.specs.Shelf.{changed, extend_on, extend_set, extended_by, has_name, if_readable, if_slots, is_catalog, on_choice, on_found, refuse, secondary_asked, secondary_choice, set_of, step, step_on, unreadable, with_extents, with_set, with_volume}
use Rattle.vol_model.specs.Slots.{slots_needed}
use Rattle.vol_model.specs.Space.{AreFreeRuns, covers, free_runs, is_in, is_unowned, usable_cylinders}
use Rattle.vol_model.proofs.FreeRuns.{AreRunsOf-runs_of, runs_of-AreRunsOf}
use Rattle.dadsm_ops.specs.Extending.{further_slots}
use Rattle.dadsm_ops.proofs.NewVolumes.{takes, taken_sum}

less : (a b : ℕ) → a < b → nat_lt a b ≡ true
less a b l = grind (arith, nat_tests)

not_less : (a b : ℕ) → b ≤ a → nat_lt a b ≡ false
not_less a b few = grind (arith, nat_tests)

-- ---- the operation

readable_is : {X : Type 0} (b : Body) (rest : Result X Refusal) → unreadable b ≡ None → if_readable b rest ≡ rest
readable_is (bodies.Seq bs) rest read = refl
readable_is (bodies.Part dir end es bs) rest read = refl
readable_is bodies.Catalog rest read = refl
readable_is bodies.Other rest read = refl
readable_is (bodies.Unreadable t) rest read = cc

module _ (dsn : Dsn) (volume : Volume) (x : DataSet) (found : set_of dsn.bytes volume ≡ Some x) (other : is_catalog dsn.bytes ≡ false) (readable : unreadable x.body ≡ None) where
  abbrev after : List Run → Volume
  after runs = with_set volume dsn.bytes (with_extents runs)

  extend_is : extend_on dsn volume ≡ on_choice (secondary_asked x.attr) (secondary_choice volume x.attr) (extended_by dsn volume x)
  unfolding extend_on
  extend_is =
      let chosen : Result Volume Refusal = on_choice (secondary_asked x.attr) (secondary_choice volume x.attr) (extended_by dsn volume x) in
      ap (λ (o : Option DataSet). on_found o (extend_set dsn volume)) found
      ∙ ap (λ (b : Bool). refuse b refusals.WrongKind (if_readable x.body chosen)) other
      ∙ readable_is x.body chosen readable

  -- no tracks serve the quantity
  pub extend_no_space : secondary_choice volume x.attr ≡ None → extend_on dsn volume ≡ Err (refusals.NoSpace (secondary_asked x.attr))
  extend_no_space none = extend_is ∙ ap (λ (o : Option (List Run)). on_choice (secondary_asked x.attr) o (extended_by dsn volume x)) none

  module _ (runs : List Run) (chosen : secondary_choice volume x.attr ≡ Some runs) where
    by_runs : extend_on dsn volume ≡ refuse (nat_lt 16 (length x.extents + length runs)) refusals.ExtentsFull (if_slots (after runs))
    by_runs = extend_is ∙ ap (λ (o : Option (List Run)). on_choice (secondary_asked x.attr) o (extended_by dsn volume x)) chosen

    -- there would be too many extents
    pub extend_extents_full : 16 < length x.extents + length runs → extend_on dsn volume ≡ Err refusals.ExtentsFull
    extend_extents_full more = by_runs ∙ ap (λ (b : Bool). refuse b refusals.ExtentsFull (if_slots (after runs))) (less 16 (length x.extents + length runs) more)

    module _ (few : length x.extents + length runs ≤ 16) where
      by_slots : extend_on dsn volume ≡ if_slots (after runs)
      by_slots = by_runs ∙ ap (λ (b : Bool). refuse b refusals.ExtentsFull (if_slots (after runs))) (not_less 16 (length x.extents + length runs) few)

      -- there are too few slots
      pub extend_full : volume.slots < slots_needed (after runs) → extend_on dsn volume ≡ Err (refusals.VtocFull (slots_needed (after runs)))
      extend_full more = by_slots ∙ ap (λ (b : Bool). refuse b (refusals.VtocFull (slots_needed (after runs))) (Ok (after runs))) (less volume.slots (slots_needed (after runs)) more)

      -- else it is done
      pub extend_ok : slots_needed (after runs) ≤ volume.slots → extend_on dsn volume ≡ Ok (after runs)
      extend_ok fits = by_slots ∙ ap (λ (b : Bool). refuse b (refusals.VtocFull (slots_needed (after runs))) (Ok (after runs))) (not_less volume.slots (slots_needed (after runs)) fits)

-- the volume that it leaves is lawful
pub extend_keeps : (dsn : Dsn) (volume later : Volume) → IsLawfulVolume volume → extend_on dsn volume ≡ Ok later → IsLawfulVolume later
unfolding step step_on
extend_keeps dsn volume later lawful done =
    let before : Shelf = record { volumes = volume ∷ [] } in
    let behind : Shelf = record { volumes = later ∷ [] } in
    let one : 1 ≤ 256 = omega arith in
    let whole : IsLawful before = record { few = one; volumes = (lawful, tt) } in
    let then : IsLawful behind = extend_lawful before behind 0 dsn whole (ap (λ (r : Result Volume Refusal). with_volume before 0 r) done) in
    then.volumes.0

-- ---- its free tracks

module _ (name : List ℕ) (runs : List Run) (t : ℕ) where
  abbrev owns : DataSet → Bool
  owns y = covers y.extents t

  more_covers : (y : DataSet) → covers (y.extents ++ runs) t ≡ (covers y.extents t || covers runs t)
  more_covers y = list_any-append (is_in t) y.extents runs

  or_false : (a : Bool) → (a || false) ≡ a
  or_false true = refl
  or_false false = refl

  or_true : (a : Bool) → (a || true) ≡ true
  or_true true = refl
  or_true false = refl

  -- a track that isn't added
  same_owns : covers runs t ≡ false → (sets : List DataSet) → list_any owns (changed name (with_extents runs) sets) ≡ list_any owns sets
  same_owns none [] = refl
  same_owns none (y ∷ sets) = ap (λ (b : Bool). b || list_any owns (changed name (with_extents runs) sets)) (one (has_name name y)) ∙ ap (λ (b : Bool). owns y || b) (same_owns none sets)
    where
      one : (b : Bool) → owns (cond b (with_extents runs y) y) ≡ owns y
      one true = more_covers y ∙ ap (λ (b : Bool). owns y || b) none ∙ or_false (owns y)
      one false = refl

  -- and one that is
  now_owns : covers runs t ≡ true → (sets : List DataSet) (x : DataSet) → find (has_name name) sets ≡ Some x → list_any owns (changed name (with_extents runs) sets) ≡ true
  now_owns added [] x found = cc
  now_owns added (y ∷ sets) x found = by_test (has_name name y) (now_owns added sets x) found
    where
      by_test : (b : Bool) → (find (has_name name) sets ≡ Some x → list_any owns (changed name (with_extents runs) sets) ≡ true) → cond b (Some y) (find (has_name name) sets) ≡ Some x
          → (owns (cond b (with_extents runs y) y) || list_any owns (changed name (with_extents runs) sets)) ≡ true
      by_test true rest at = ap (λ (b : Bool). b || list_any owns (changed name (with_extents runs) sets)) (more_covers y ∙ ap (λ (b : Bool). owns y || b) added ∙ or_true (owns y))
      by_test false rest at = ap (λ (b : Bool). owns y || b) (rest at) ∙ or_true (owns y)

  changed_owns : (sets : List DataSet) (x : DataSet) → find (has_name name) sets ≡ Some x → list_any owns (changed name (with_extents runs) sets) ≡ (list_any owns sets || covers runs t)
  changed_owns sets x found = by (covers runs t) refl
    where
      by : (b : Bool) → covers runs t ≡ b → list_any owns (changed name (with_extents runs) sets) ≡ (list_any owns sets || b)
      by true is = now_owns is sets x found ∙ sym (or_true (list_any owns sets))
      by false is = same_owns is sets ∙ sym (or_false (list_any owns sets))

module _ (name : List ℕ) (volume : Volume) (x : DataSet) (found : set_of name volume ≡ Some x) (runs : List Run) where
  abbrev w : Volume
  w = with_set volume name (with_extents runs)

  -- the added extents are free no more
  unowned_then : (t : ℕ) → is_unowned w t ≡ (is_unowned volume t && not (covers runs t))
  unowned_then t =
      ap (λ (b : Bool). not (t == 0 || (is_in t volume.vtoc || b))) (changed_owns name runs t volume.sets x found)
      ∙ neither (t == 0) (is_in t volume.vtoc) (list_any (λ (y : DataSet). covers y.extents t) volume.sets) (covers runs t)
    where
      neither : (a b d c : Bool) → not (a || (b || (d || c))) ≡ (not (a || (b || d)) && not c)
      neither true b d c = refl
      neither false true d c = refl
      neither false false true c = refl
      neither false false false true = refl
      neither false false false false = refl

  free_then : (free new : List Run) → AreFreeRuns volume free → AreWithout free runs new → AreFreeRuns w new
  free_then free new before without = record {
    maximal = without.maximal;
    within = without.within (usable_cylinders volume.geometry * (row_of volume.geometry.device).heads) before.within;
    same = λ t low. unowned_then t ∙ ap (λ b. b && not (covers runs t)) (before.same t low) ∙ sym (without.tracks t);
  }

  -- the free runs are those without them
  pub free_runs_then : (free new : List Run) → free ≡ free_runs volume → AreWithout free runs new → new ≡ free_runs (with_set volume name (with_extents runs))
  free_runs_then free new before without =
      let limit = usable_cylinders volume.geometry * (row_of volume.geometry.device).heads in
      sym (AreRunsOf-runs_of (is_unowned w) limit new
      (free_then free new (subst (AreFreeRuns volume) (sym before) (runs_of-AreRunsOf (is_unowned volume) limit)) without))

-- ---- the slots that it needs

-- no later set has the name
not_behind : (name : List ℕ) (f : DataSet → DataSet) (x : DataSet) (sets : List DataSet) → has_name name x ≡ true → AllByRecursion (λ y. is_before x y ≡ true) sets → changed name f sets ≡ sets
not_behind name f x [] named before = refl
not_behind name f x (y ∷ sets) named before = ap (λ (z : DataSet). z ∷ changed name f sets) (one (has_name name y) refl) ∙ ap (λ (l : List DataSet). y ∷ l) (not_behind name f x sets named before.1)
  where
    one : (b : Bool) → has_name name y ≡ b → cond b (f y) y ≡ y
    one true e = absurd (behind_named name x y named before.0 e)
    one false e = refl

module _ (name : List ℕ) (runs : List Run) where
  -- a set takes one slot more where it has more than three extents then, and hadn't
  takes_more : (x : DataSet) → takes (with_extents runs x) ≡ takes x + further_slots (length x.extents) runs
  takes_more x = by_counts (length x.extents) (length runs) (length (x.extents ++ runs)) (length-append x.extents runs)
    where
      by_tests : (a b c : Bool) (n r m : ℕ) → nat_lt 3 n ≡ a → nat_le n 3 ≡ b → nat_lt 3 (n + r) ≡ c → m ≡ n + r → ◌≡◌ {A = ℕ} (cond c 2 1) (cond a 2 1 + cond (b && c) 1 0)
      by_tests true true c n r m one two three all = absurd (grind (arith, nat_tests))
      by_tests true false true n r m one two three all = refl
      by_tests true false false n r m one two three all = absurd (grind (arith, nat_tests))
      by_tests false true true n r m one two three all = refl
      by_tests false true false n r m one two three all = refl
      by_tests false false c n r m one two three all = absurd (grind (arith, nat_tests))

      by_counts : (n r m : ℕ) → m ≡ n + r → ◌≡◌ {A = ℕ} (cond (nat_lt 3 m) 2 1) (cond (nat_lt 3 n) 2 1 + cond (nat_le n 3 && nat_lt 3 (n + r)) 1 0)
      by_counts n r m all = ap {B = ℕ} (λ (k : ℕ). cond (nat_lt 3 k) 2 1) all ∙ by_tests (nat_lt 3 n) (nat_le n 3) (nat_lt 3 (n + r)) n r m refl refl refl all

  takes_changed : (sets : List DataSet) (x : DataSet) → IsAscending sets → find (has_name name) sets ≡ Some x → sum_by takes (changed name (with_extents runs) sets) ≡ sum_by takes sets + further_slots (length x.extents) runs
  takes_changed [] x up found = cc
  takes_changed (y ∷ sets) x up found =
      sum_by-cons takes (cond (has_name name y) (with_extents runs y) y) (changed name (with_extents runs) sets)
      ∙ by_test (has_name name y) refl (λ at. takes_changed sets x up.1 at) found
      ∙ sym (ap (λ (n : ℕ). n + further_slots (length x.extents) runs) (sum_by-cons takes y sets))
    where
      by_test : (b : Bool) → has_name name y ≡ b → (find (has_name name) sets ≡ Some x → sum_by takes (changed name (with_extents runs) sets) ≡ sum_by takes sets + further_slots (length x.extents) runs) → cond b (Some y) (find (has_name name) sets) ≡ Some x
          → takes (cond b (with_extents runs y) y) + sum_by takes (changed name (with_extents runs) sets) ≡ takes y + sum_by takes sets + further_slots (length x.extents) runs
      by_test true is rest at =
          let same : y ≡ x = cc in
          let others = ap (sum_by takes) (not_behind name (with_extents runs) y sets is up.0) in
          let one = takes_more y in
          let count = ap (λ (z : DataSet). further_slots (length z.extents) runs) same in
          total (takes (with_extents runs y)) (takes y) (further_slots (length y.extents) runs) (further_slots (length x.extents) runs) (sum_by takes (changed name (with_extents runs) sets)) (sum_by takes sets) one count others
        where
          total : (a b c d e f : ℕ) → a ≡ b + c → c ≡ d → e ≡ f → a + e ≡ b + f + d
          total a b c d e f one two three = omega (arith, one, two, three)
      by_test false is rest at = let more = rest at in omega (arith, more)

-- the slots that the volume needs then
pub needed_then : (name : List ℕ) (volume : Volume) (x : DataSet) (runs : List Run) → IsAscending volume.sets → set_of name volume ≡ Some x
    → slots_needed (with_set volume name (with_extents runs)) ≡ 1 + max 1 ((length (free_runs (with_set volume name (with_extents runs))) + 25) / 26) + (sum_by takes volume.sets + further_slots (length x.extents) runs)
unfolding slots_needed
needed_then name volume x runs up found =
    let sets : List DataSet = changed name (with_extents runs) volume.sets in
    let both = taken_sum sets in
    let all = takes_changed name runs volume.sets x up found in
    total (1 + max 1 ((length (free_runs (with_set volume name (with_extents runs))) + 25) / 26)) _ _ _ _ both all
  where
    total : (a n t s u : ℕ) → n + t ≡ s → s ≡ u → a + n + t ≡ a + u
    total a n t s u e f = omega (arith, e, f)
