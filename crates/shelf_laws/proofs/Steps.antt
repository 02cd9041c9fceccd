-- What an operation that isn't refused has found, and a shelf one of whose volumes is changed.
use Rattle.std.proofs.Common.{◌≡◌, ◌≤◌, nat_lt, ℕ, zero, suc, Bool, true, false, List, [], ◌∷◌, length, refl, ap, subst, arith}
use Rattle.std.proofs.lemmas.Bool.Decides.{nat_tests}
use Rattle.std.specs.Prelude.{Option, Some, None, Result, Ok, Err, slice_get, slice_set}
use Rattle.std.specs.List.{AllByRecursion}
use Rattle.vol_model.specs.declared.contents.DataSet.{DataSet}
use Rattle.vol_model.specs.declared.contents.Shelf.{Shelf}
use Rattle.vol_model.specs.declared.contents.Volume.{Volume}
use Rattle.vol_model.specs.declared.refusals.Refusal.{Refusal}
use Rattle.vol_model.specs.declared.requests.Op.{Op}
use Rattle.vol_model.specs.Lawful.{IsLawful, IsLawfulVolume}
use Rattle.vol_model.specs.Shelf.{on_found, on_volume, refuse, step, step_on, volume_number, with_volume}

pub not_more : (n m : ℕ) → nat_lt n m ≡ false → m ≤ n
not_more n m e = grind (arith, nat_tests)

pub refuse_ok : {X : Type 0} (b : Bool) (r : Refusal) (rest : Result X Refusal) (y : X) → refuse b r rest ≡ Ok y → (b ≡ false) × (rest ≡ Ok y)
refuse_ok true r rest y h = cc
refuse_ok false r rest y h = (refl, h)

pub found_ok : {X : Type 0} (o : Option DataSet) (f : DataSet → Result X Refusal) (y : X) → on_found o f ≡ Ok y → (x : DataSet) × (o ≡ Some x) × (f x ≡ Ok y)
found_ok None f y h = cc
found_ok (Some x) f y h = (x, refl, h)

pub ok_same : {X : Type 0} (x y : X) → (let r : Result X Refusal = Ok x in r) ≡ Ok y → x ≡ y
ok_same x y h = cc

module _ {X : Type 0} (P : X → Type 0) where
  pub each_at : (xs : List X) (i : ℕ) (x : X) → AllByRecursion P xs → slice_get xs i ≡ Some x → P x
  each_at [] i x all at = cc
  each_at (y ∷ xs) zero x all at = let same : y ≡ x = cc in subst P same all.0
  each_at (y ∷ xs) (suc i) x all at = each_at xs i x all.1 at

  each_set : (xs : List X) (i : ℕ) (x : X) → AllByRecursion P xs → P x → AllByRecursion P (slice_set xs i x)
  each_set [] i x all h = tt
  each_set (y ∷ xs) zero x all h = (h, all.1)
  each_set (y ∷ xs) (suc i) x all h = (all.0, each_set xs i x all.1 h)

set_length : {X : Type 0} (xs : List X) (i : ℕ) (x : X) → length (slice_set xs i x) ≡ length xs
set_length [] i x = refl
set_length (y ∷ xs) zero x = refl
set_length (y ∷ xs) (suc i) x = ap suc (set_length xs i x)

-- a shelf is lawful after a step whose operation keeps the volume lawful on which it is
pub step_lawful_at : (s t : Shelf) (op : Op) → ((volume w : Volume) → slice_get s.volumes (volume_number op) ≡ Some volume → IsLawfulVolume volume → step_on op volume ≡ Ok w → IsLawfulVolume w) → IsLawful s → step s op ≡ Ok t → IsLawful t
unfolding step
step_lawful_at s t op keeps h done = by_volume (slice_get s.volumes (volume_number op)) refl done
  where
    by_result : (volume : Volume) → slice_get s.volumes (volume_number op) ≡ Some volume → (r : Result Volume Refusal) → step_on op volume ≡ r → with_volume s (volume_number op) r ≡ Ok t → IsLawful t
    by_result volume at (Err r) is done = cc
    by_result volume at (Ok w) is done =
        let v = volume_number op in
        let lawful = keeps volume w at (each_at IsLawfulVolume s.volumes v volume h.volumes at) is in
        let few = h.few in
        let after : Shelf = record { volumes = slice_set s.volumes v w } in
        let same : after ≡ t = ok_same after t done in
        subst IsLawful same (record { few = omega (arith, few, set_length s.volumes v w); volumes = each_set IsLawfulVolume s.volumes v w h.volumes lawful })

    by_volume : (o : Option Volume) → slice_get s.volumes (volume_number op) ≡ o → on_volume s (volume_number op) (step_on op) o ≡ Ok t → IsLawful t
    by_volume None at done = cc
    by_volume (Some volume) at done = by_result volume at (step_on op volume) refl done

-- so it is where the operation keeps all lawful volumes lawful
pub step_lawful : (s t : Shelf) (op : Op) → ((volume w : Volume) → IsLawfulVolume volume → step_on op volume ≡ Ok w → IsLawfulVolume w) → IsLawful s → step s op ≡ Ok t → IsLawful t
step_lawful s t op keeps h done = step_lawful_at s t op (λ volume w at lawful is. keeps volume w lawful is) h done
