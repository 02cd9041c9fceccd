-- The runs that data sets own and the slots that they need, a set at a time.
use Rattle.std.proofs.Common.{◌≡◌, ℕ, ◌+◌, ◌<◌, ◌≤◌, Bool, true, false, cond, List, [], ◌∷◌, ◌++◌, length, map, take, get_or, Option, Some, None, Result, Ok, refl, sym, ap, subst, ◌∙◌, arith, append_assoc, length-append}
use Rattle.std.specs.Prelude.{Err, nat_lt}
use Rattle.std.specs.List.{AllByRecursion, cons_option, count_by, filter_map, flat_map}
use Rattle.std.proofs.lemmas.Grind.{flat_map-append}
use Rattle.std.proofs.lemmas.List.{append-nil, map-append, take_more}
use Rattle.std.proofs.lemmas.List.Elements.{filter_map-append}
use Rattle.std.proofs.lemmas.List.Sums.{sum_by-append, sum_by-cons}
use Rattle.ckd_image.specs.declared.header.Geometry.{Geometry}
use Rattle.dscb_codec.specs.declared.Dscb.{Dscb}
use Rattle.dscb_codec.specs.declared.Dscb.TheVariants as formats
use Rattle.dscb_codec.specs.declared.DscbErr.{DscbErr}
use Rattle.dscb_codec.specs.declared.F1.{F1}
use Rattle.pack_spec.specs.declared.slot.VtocSlot.{VtocSlot}
use Rattle.pack_spec.specs.Rules.{set_in}
use Rattle.pack_spec.specs.Volume.{data_set_of}
use Rattle.pack_spec.proofs.SetNames.{sets_among}
use Rattle.vol_model.specs.declared.contents.DataSet.{DataSet}
use Rattle.vol_model.specs.declared.contents.Run.{Run}
use Rattle.vol_model.specs.Lawful.{IsOnPack}
use Rattle.vtoc_index.specs.Owned.{AreOwned, HasMore}
use Rattle.vtoc_index.specs.declared.owned.Owned.{Owned}

both_inside : (g : Geometry) (rs ss : List Run) → AllByRecursion (IsOnPack g) rs → AllByRecursion (IsOnPack g) ss → AllByRecursion (IsOnPack g) (rs ++ ss)
both_inside g [] ss one other = other
both_inside g (r ∷ rs) ss one other = (one.0, both_inside g rs ss one.1 other)

-- track 0 and the VTOC are owned
pub owned_none : (g : Geometry) (vtoc : Run) (owned : Owned) → IsOnPack g vtoc → owned.runs.items ≡ record { start = 0; len = 1 } ∷ vtoc ∷ [] → owned.slots ≡ 0 → AreOwned g vtoc [] owned
owned_none g vtoc owned on_pack runs slots = record {
  runs = runs;
  slots = slots;
  inside = subst (AllByRecursion (IsOnPack g)) (sym runs) ((omega arith, omega (arith, on_pack.0, on_pack.1)), (on_pack, tt));
}

-- one data set more
pub owned_more : (g : Geometry) (vtoc : Run) (sets : List DataSet) (x : DataSet) (old new : Owned) → AreOwned g vtoc sets old → HasMore g x old new → AreOwned g vtoc (sets ++ x ∷ []) new
owned_more g vtoc sets x old new owned more = record {
  runs =
      more.runs ∙ ap (λ (l : List Run). l ++ x.extents) owned.runs
      ∙ ap (λ (l : List Run). record { start = 0; len = 1 } ∷ vtoc ∷ (flat_map extents_of sets ++ l)) (sym (append-nil x.extents))
      ∙ sym (ap (λ (l : List Run). record { start = 0; len = 1 } ∷ vtoc ∷ l) (flat_map-append extents_of sets (x ∷ [])));
  slots =
      more.slots ∙ ap (λ (n : ℕ). n + cond (is_long x) 2 1) owned.slots
      ∙ by_test (is_long x) (length sets) (count_by is_long sets) (length (sets ++ x ∷ [])) (count_by is_long (sets ++ x ∷ [])) (length-append sets (x ∷ []))
      (sum_by-append (λ (y : DataSet). cond (is_long y) 1 0) sets (x ∷ []) ∙ ap (λ (n : ℕ). count_by is_long sets + n) (sum_by-cons (λ (y : DataSet). cond (is_long y) 1 0) x []));
  inside = subst (AllByRecursion (IsOnPack g)) (sym more.runs) (both_inside g old.runs.items x.extents owned.inside more.inside);
}
  where
    extents_of : DataSet → List Run
    extents_of y = y.extents

    is_long : DataSet → Bool
    is_long y = nat_lt 3 (length y.extents)

    by_test : (b : Bool) (n k m j : ℕ) → m ≡ n + 1 → j ≡ k + (cond b 1 0 + 0) → n + k + cond b 2 1 ≡ m + j
    by_test true n k m j one other = omega (arith, one, other)
    by_test false n k m j one other = omega (arith, one, other)

-- one slot more
module _ (ss : List VtocSlot) (i : ℕ) (d : VtocSlot) (low : i < length ss) where
  sets_more : sets_among (take (i + 1) ss) ≡ sets_among (take i ss) ++ cons_option (set_in (get_or ss i d).content) []
  sets_more = ap sets_among (take_more ss i d low) ∙ filter_map-append (λ (s : VtocSlot). set_in s.content) (take i ss) (get_or ss i d ∷ [])

  -- which holds a data set
  pub set_more : (h : F1 → DataSet) (f : F1) → set_in (get_or ss i d).content ≡ Some f → map h (sets_among (take i ss)) ++ h f ∷ [] ≡ map h (sets_among (take (i + 1) ss))
  set_more h f is =
      sym (ap (map h) (sets_more ∙ ap (λ (o : Option F1). sets_among (take i ss) ++ cons_option o []) is) ∙ map-append h (sets_among (take i ss)) (f ∷ []))

  -- or none
  pub set_same : (h : F1 → DataSet) → set_in (get_or ss i d).content ≡ None → map h (sets_among (take i ss)) ≡ map h (sets_among (take (i + 1) ss))
  set_same h is = sym (ap (map h) (sets_more ∙ ap (λ (o : Option F1). sets_among (take i ss) ++ cons_option o []) is ∙ append-nil (sets_among (take i ss))))
