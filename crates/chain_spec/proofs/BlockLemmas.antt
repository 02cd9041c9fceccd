-- The blocks of a cut, one by one.
use Rattle.std.proofs.Common.{◌≡◌, ℕ, zero, suc, ◌+◌, ◌<◌, ◌≤◌, List, [], ◌∷◌, subst, arith, length, get_or, Some}
use Rattle.std.proofs.lemmas.Option.{get_or_from_slice_get, slice_get_within}
use Rattle.std.specs.Prelude.{slice_get}
use Rattle.chain_spec.proofs.KeptLemmas.{rises_front, rises_rest}
use Rattle.chain_spec.specs.Cut.{AllFit, IsFull, first_size, total}
use Rattle.chain_spec.specs.Kept.{Rises, joined}

module _ {E : Type 0} (size : E → ℕ) (room end : ℕ) where
  fits_from : (bs : List (List E)) (i : ℕ) → AllFit size room end bs → i < length bs → total size (get_or bs i []) ≤ room
  fits_from [] i fits h = absurd fits
  fits_from (b ∷ []) zero fits h = omega (arith, fits)
  fits_from (b ∷ []) (suc i) fits h = absurd (omega (arith, h))
  fits_from (b ∷ c ∷ cs) zero fits h = fits.0
  fits_from (b ∷ c ∷ cs) (suc i) fits h = fits_from (c ∷ cs) i fits.1 (omega (arith, h))

  last_from : (bs : List (List E)) (i : ℕ) → AllFit size room end bs → suc i ≡ length bs → total size (get_or bs i []) + end ≤ room
  last_from [] i fits h = absurd fits
  last_from (b ∷ []) zero fits h = fits
  last_from (b ∷ []) (suc i) fits h = absurd (omega (arith, h))
  last_from (b ∷ c ∷ cs) zero fits h = absurd (omega (arith, h))
  last_from (b ∷ c ∷ cs) (suc i) fits h = last_from (c ∷ cs) i fits.1 (omega (arith, h))

  -- a block fits the room
  pub fits_at : (bs : List (List E)) (i : ℕ) (b : List E) → AllFit size room end bs → slice_get bs i ≡ Some b → total size b ≤ room
  fits_at bs i b fits is = subst (λ (c : List E). total size c ≤ room) (get_or_from_slice_get bs i b [] is) (fits_from bs i fits (slice_get_within bs i b is))

  -- the last fits together with the end entry
  pub last_fits_at : (bs : List (List E)) (i : ℕ) (b : List E) → AllFit size room end bs → slice_get bs i ≡ Some b → suc i ≡ length bs → total size b + end ≤ room
  last_fits_at bs i b fits is last = subst (λ (c : List E). total size c + end ≤ room) (get_or_from_slice_get bs i b [] is) (last_from bs i fits last)

  filled_from : (bs : List (List E)) (i : ℕ) → ((e : E) → size e ≤ room) → end ≤ room → IsFull size room end bs → suc i < length bs → 0 < length (get_or bs i [])
  filled_from [] i sizes within full h = absurd (omega (arith, h))
  filled_from (b ∷ []) i sizes within full h = absurd (omega (arith, h))
  filled_from ([] ∷ c ∷ cs) zero sizes within full h = absurd (omega (arith, full.0, first c cs))
    where
      first : (d : List E) (ds : List (List E)) → first_size size end d ds ≤ room
      first [] [] = within
      first [] (x ∷ xs) = omega arith
      first (e ∷ d) ds = sizes e
  filled_from ((e ∷ b) ∷ c ∷ cs) zero sizes within full h = omega arith
  filled_from (b ∷ c ∷ cs) (suc i) sizes within full h = filled_from (c ∷ cs) i sizes within full.1 (omega (arith, h))

  -- the others hold an entry
  pub filled_at : (bs : List (List E)) (i : ℕ) (b : List E) → ((e : E) → size e ≤ room) → end ≤ room → IsFull size room end bs → slice_get bs i ≡ Some b → suc i < length bs → 0 < length b
  filled_at bs i b sizes within full is h = subst (λ (c : List E). 0 < length c) (get_or_from_slice_get bs i b [] is) (filled_from bs i sizes within full h)

module _ {E : Type 0} (name : E → ℕ) where
  rises_from : (bs : List (List E)) (i : ℕ) → Rises name (joined bs) → i < length bs → Rises name (get_or bs i [])
  rises_from [] i rises h = absurd (omega (arith, h))
  rises_from (b ∷ bs) zero rises h = rises_front name 0 b (joined bs) rises
  rises_from (b ∷ bs) (suc i) rises h = rises_from bs i (rises_rest name 0 b (joined bs) rises) (omega (arith, h))

  -- the names of a block rise where those of all blocks do
  pub rises_at : (bs : List (List E)) (i : ℕ) (b : List E) → Rises name (joined bs) → slice_get bs i ≡ Some b → Rises name b
  rises_at bs i b rises is = subst (Rises name) (get_or_from_slice_get bs i b [] is) (rises_from bs i rises (slice_get_within bs i b is))
