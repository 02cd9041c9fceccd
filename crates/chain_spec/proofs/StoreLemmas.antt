-- Lemmas on chains as they stand on a pack.
use Rattle.std.proofs.Common.{◌≡◌, List, [], ◌∷◌, ◌++◌, refl, ap, sym, ◌∙◌, arith, append-nil, length, ℕ, zero, suc, ◌<◌, Option, Some, ⊎_elim, get_or, true, false}
use Rattle.std.proofs.lemmas.Bool.Decides.{eqb_tells}
use Rattle.std.proofs.lemmas.Option.{get_or_from_slice_get, slice_get_within}
use Rattle.std.specs.Prelude.{option_map, nat_eq, slice_get}
use Rattle.chain_spec.specs.Cut.{AllFit}
use Rattle.chain_spec.specs.Kept.{joined, kept}
use Rattle.chain_spec.specs.Store.{Block, reads, stored, up_to_end}

-- what stands in the store of a chain is found
pub up_to_end-stored : {E : Type 0} (size : E → ℕ) (room end : ℕ) (bs : List (List E)) (t : List (Option (Block E))) → AllFit size room end bs → up_to_end (stored bs ++ t) ≡ Some (joined bs)
up_to_end-stored size room end [] t fits = absurd fits
up_to_end-stored size room end (b ∷ []) t fits = ap Some (sym (append-nil b))
up_to_end-stored size room end (b ∷ c ∷ cs) t fits = ap (option_map (λ es. b ++ es)) (up_to_end-stored size room end (c ∷ cs) t fits.1)

pub reads-stored : {E : Type 0} (name size : E → ℕ) (room end : ℕ) (bs : List (List E)) (t : List (Option (Block E))) → AllFit size room end bs → reads name (stored bs ++ t) ≡ Some (kept name (joined bs))
reads-stored name size room end bs t fits = ap (option_map (kept name)) (up_to_end-stored size room end bs t fits)

pub length-stored : {E : Type 0} (cs : List (List E)) → length (stored cs) ≡ length cs
length-stored [] = refl
length-stored (c ∷ []) = refl
length-stored (c ∷ d ∷ ds) = omega (arith, length-stored (d ∷ ds))

pub is_last : (i n : ℕ) → n ≡ i → nat_eq i n ≡ true
is_last i n h = ⊎_elim (λ is. is.0) (λ is. absurd (is.1 (sym h))) (eqb_tells i n)

pub not_last : (i n : ℕ) → i < n → nat_eq i n ≡ false
not_last i n h = ⊎_elim (λ is. absurd (omega (arith, h, is.1))) (λ is. is.0) (eqb_tells i n)

next_alike : (i n : ℕ) → nat_eq (suc i) (suc n) ≡ nat_eq i n
next_alike i n = ⊎_elim
    (λ is. is_last (suc i) (suc n) (omega (arith, is.1)) ∙ sym is.0)
    (λ is. ⊎_elim (λ k. absurd (is.1 (omega (arith, k.1)))) (λ k. k.0) (eqb_tells (suc i) (suc n)) ∙ sym is.0)
    (eqb_tells i n)

-- a block of a chain as it stands
pub stored_at : {E : Type 0} (bs : List (List E)) (i : ℕ) (b : List E) (t : List (Option (Block E))) (d : Option (Block E)) → slice_get bs i ≡ Some b → get_or (stored bs ++ t) i d ≡ Some (record { entries = b; ends = nat_eq (suc i) (length bs) })
stored_at {E = E} bs i b t d is = at bs i (slice_get_within bs i b is) ∙ ap (λ (c : List E). Some (record { entries = c; ends = nat_eq (suc i) (length bs) })) (get_or_from_slice_get bs i b [] is)
  where
    at : (cs : List (List E)) (k : ℕ) → k < length cs → get_or (stored cs ++ t) k d ≡ Some (record { entries = get_or cs k []; ends = nat_eq (suc k) (length cs) })
    at [] k h = absurd (omega (arith, h))
    at (c ∷ []) zero h = refl
    at (c ∷ []) (suc k) h = absurd (omega (arith, h))
    at (c ∷ e ∷ es) zero h = let more : nat_eq 1 (length (c ∷ e ∷ es)) ≡ false = not_last 1 (length (c ∷ e ∷ es)) (omega arith) in rw more refl
    at (c ∷ e ∷ es) (suc k) h = at (e ∷ es) k (omega (arith, h)) ∙ ap (λ b. Some (record { entries = get_or (e ∷ es) k []; ends = b })) (sym (next_alike (suc k) (length (e ∷ es))))
