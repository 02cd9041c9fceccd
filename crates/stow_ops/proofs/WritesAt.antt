-- The write of a number among those of a plan, and the place of a number among those of a directory.
use Rattle.std.proofs.Common.{◌≡◌, ◌<◌, ℕ, zero, suc, List, [], ◌∷◌, length, map, get_or, Some, refl, sym, ap, subst, arith}
use Rattle.std.specs.Prelude.{slice_get}
use Rattle.std.specs.List.{AllByRecursion}
use Rattle.vol_model.specs.declared.contents.Block.{Block}
use Rattle.vol_model.specs.declared.contents.Place.{Place}

pub mapped_at : {X Y : Type 0} (h : X → Y) (xs : List X) (k : ℕ) (x d : X) → k < length xs → x ≡ get_or xs k d → slice_get (map h xs) k ≡ Some (h x)
mapped_at h [] k x d low is = absurd (omega (arith, low))
mapped_at h (y ∷ xs) zero x d low is = ap (λ z. Some (h z)) (sym is)
mapped_at h (y ∷ xs) (suc k) x d low is = mapped_at h xs k x d (omega (arith, low)) is

pub all_at : {X : Type 0} (P : X → Type 0) (xs : List X) (k : ℕ) (x : X) → AllByRecursion P xs → slice_get xs k ≡ Some x → P x
all_at P [] k x all is = cc
all_at P (y ∷ xs) zero x all is = let same : y ≡ x = cc in subst P same all.0
all_at P (y ∷ xs) (suc k) x all is = all_at P xs k x all.1 is

pub place_at : (bs : List Block) (k : ℕ) (p d : Place) → k < length (map (λ (b : Block). b.place) bs) → p ≡ get_or (map (λ (b : Block). b.place) bs) k d → (b : Block) × (slice_get bs k ≡ Some b) × (b.place ≡ p)
place_at [] k p d low is = absurd (omega (arith, low))
place_at (b ∷ bs) zero p d low is = (b, refl, sym is)
place_at (b ∷ bs) (suc k) p d low is = place_at bs k p d (omega (arith, low)) is
