-- What stands in the store after some of a plan's writes.
use Rattle.std.proofs.Common.{◌≡◌, ℕ, zero, suc, ◌+◌, ◌≤◌, true, false, eqb, List, [], ◌∷◌, ◌++◌, refl, ap, sym, ◌∙◌, arith, ⊎_elim, append_assoc, take, drop, length, set, reverse, Option, Some, length-append}
use Rattle.std.proofs.lemmas.List.{take_all, take-append-le, set_at}
use Rattle.std.proofs.lemmas.Bool.{cases_lt}
use Rattle.std.proofs.lemmas.Grind.{reverse_onto}
use Rattle.chain_spec.proofs.StoreLemmas.{is_last, not_last}
use Rattle.chain_spec.specs.Store.{Block, stored}
use Rattle.sorted_chain.specs.Cutting.{forward_writes}
use Rattle.sorted_chain.specs.Plan.{after_write, after_writes}

module _ {E : Type 0} where
  -- the first block of a chain as the write at its place has it
  stored_more : (i n : ℕ) (c : List E) (cs : List (List E)) → n ≡ i + length (c ∷ cs) → stored (c ∷ cs) ≡ Some (record { entries = c; ends = eqb (suc i) n }) ∷ stored cs
  stored_more i n c [] h = let e : eqb (suc i) n ≡ true = is_last (suc i) n (omega (arith, h)) in rw e refl
  stored_more i n c (d ∷ ds) h = let e : eqb (suc i) n ≡ false = not_last (suc i) n (omega (arith, h)) in rw e refl

  pub after_writes-append : (n : ℕ) (xs ys : List (ℕ × List E)) (s : List (Option (Block E))) → after_writes n (xs ++ ys) s ≡ after_writes n ys (after_writes n xs s)
  after_writes-append n [] ys s = refl
  after_writes-append n (x ∷ xs) ys s = after_writes-append n xs ys (after_write n x s)

  longer : (front : List (Option (Block E))) (b : Option (Block E)) → length (front ++ (b ∷ [])) ≡ suc (length front)
  longer front b = omega (arith, length-append front (b ∷ []))

  -- after the first writes of a chain from the first to the last, after these blocks
  pub forward_so_far : (n i : ℕ) (front : List (Option (Block E))) (cs : List (List E)) (s : List (Option (Block E))) (k : ℕ) → length front ≡ i → n ≡ i + length cs → length cs ≤ length s →
      (j : ℕ) × (after_writes n (take k (forward_writes i cs)) (front ++ s) ≡ front ++ (take j (stored cs) ++ drop j s))
  forward_so_far n i front [] s zero at all fits = (zero, refl)
  forward_so_far n i front [] s (suc k) at all fits = (zero, refl)
  forward_so_far n i front (c ∷ cs) s zero at all fits = (zero, refl)
  forward_so_far n i front (c ∷ cs) [] (suc k) at all fits = absurd (omega (arith, fits))
  forward_so_far n i front (c ∷ cs) (y ∷ s) (suc k) at all fits =
      let b : Option (Block E) = Some (record { entries = c; ends = eqb (suc i) n }) in
      let inner = forward_so_far n (suc i) (front ++ (b ∷ [])) cs s k (omega (arith, longer front b, at)) (omega (arith, all)) (omega (arith, fits)) in
      let wrote : set (front ++ (y ∷ s)) i b ≡ (front ++ (b ∷ [])) ++ s = set_at front y s b i at ∙ sym (append_assoc front (b ∷ []) s) in
      (suc (inner.0), ap (after_writes n (take k (forward_writes (suc i) cs))) wrote ∙ inner.1 ∙ append_assoc front (b ∷ []) (take (inner.0) (stored cs) ++ drop (inner.0) s) ∙ ap (λ st. front ++ (take (suc (inner.0)) st ++ drop (inner.0) s)) (sym (stored_more i n c cs all)))

  -- after all writes of a chain from the last to the first
  pub backward_all : (n i : ℕ) (front : List (Option (Block E))) (cs : List (List E)) (s : List (Option (Block E))) → length front ≡ i → n ≡ i + length cs → length cs ≤ length s →
      after_writes n (reverse (forward_writes i cs)) (front ++ s) ≡ front ++ (stored cs ++ drop (length cs) s)
  backward_all n i front [] s at all fits = refl
  backward_all n i front (c ∷ cs) [] at all fits = absurd (omega (arith, fits))
  backward_all n i front (c ∷ cs) (y ∷ s) at all fits =
      let b : Option (Block E) = Some (record { entries = c; ends = eqb (suc i) n }) in
      let inner = backward_all n (suc i) (front ++ (y ∷ [])) cs s (omega (arith, longer front y, at)) (omega (arith, all)) (omega (arith, fits)) in
      let rest = stored cs ++ drop (length cs) s in
      let before : after_writes n (reverse (forward_writes (suc i) cs)) (front ++ (y ∷ s)) ≡ front ++ (y ∷ rest) = ap (after_writes n (reverse (forward_writes (suc i) cs))) (sym (append_assoc front (y ∷ []) s)) ∙ inner ∙ append_assoc front (y ∷ []) rest in
      ap (λ ws. after_writes n ws (front ++ (y ∷ s))) (reverse_onto (forward_writes (suc i) cs) (i, c) []) ∙ after_writes-append n (reverse (forward_writes (suc i) cs)) ((i, c) ∷ []) (front ++ (y ∷ s)) ∙ ap (after_write n (i, c)) before ∙ set_at front y rest b i at ∙ ap (λ st. front ++ (st ++ drop (length cs) s)) (sym (stored_more i n c cs all))

  -- after the first writes of a chain from the last to the first, after these blocks
  pub backward_so_far : (n i : ℕ) (front : List (Option (Block E))) (cs : List (List E)) (s : List (Option (Block E))) (k : ℕ) → length front ≡ i → n ≡ i + length cs → length cs ≤ length s →
      (j : ℕ) × (after_writes n (take k (reverse (forward_writes i cs))) (front ++ s) ≡ front ++ (take j s ++ drop j (stored cs ++ drop (length cs) s)))
  backward_so_far n i front [] s k at all fits = (zero, ap (λ ws. after_writes n ws (front ++ s)) (take_all k [] (omega arith)))
  backward_so_far n i front (c ∷ cs) [] k at all fits = absurd (omega (arith, fits))
  backward_so_far n i front (c ∷ cs) (y ∷ s) k at all fits = ⊎_elim
      (λ past. (zero, ap (λ ws. after_writes n ws (front ++ (y ∷ s))) (take_all k (reverse (forward_writes i (c ∷ cs))) (omega (arith, past, ap length onto, length-append later ((i, c) ∷ [])))) ∙ backward_all n i front (c ∷ cs) (y ∷ s) at all fits))
      (λ within.
      let inner = backward_so_far n (suc i) (front ++ (y ∷ [])) cs s k (omega (arith, longer front y, at)) (omega (arith, all)) (omega (arith, fits)) in
      let first : take k (reverse (forward_writes i (c ∷ cs))) ≡ take k later = ap (take k) onto ∙ take-append-le k later ((i, c) ∷ []) within in
      (suc (inner.0), ap (λ ws. after_writes n ws (front ++ (y ∷ s))) first ∙ ap (after_writes n (take k later)) (sym (append_assoc front (y ∷ []) s)) ∙ inner.1 ∙ append_assoc front (y ∷ []) (take (inner.0) s ++ drop (inner.0) (stored cs ++ drop (length cs) s)) ∙ ap (λ st. front ++ ((y ∷ take (inner.0) s) ++ drop (suc (inner.0)) (st ++ drop (length cs) s))) (sym (stored_more i n c cs all))))
      (cases_lt (length later) k)
    where
      later : List (ℕ × List E)
      later = reverse (forward_writes (suc i) cs)

      onto : reverse (forward_writes i (c ∷ cs)) ≡ later ++ ((i, c) ∷ [])
      onto = reverse_onto (forward_writes (suc i) cs) (i, c) []

  -- after all writes of a chain from the first to the last
  pub forward_all : (n i : ℕ) (front : List (Option (Block E))) (cs : List (List E)) (s : List (Option (Block E))) → length front ≡ i → n ≡ i + length cs → length cs ≤ length s →
      after_writes n (forward_writes i cs) (front ++ s) ≡ front ++ (stored cs ++ drop (length cs) s)
  forward_all n i front [] s at all fits = refl
  forward_all n i front (c ∷ cs) [] at all fits = absurd (omega (arith, fits))
  forward_all n i front (c ∷ cs) (y ∷ s) at all fits =
      let b : Option (Block E) = Some (record { entries = c; ends = eqb (suc i) n }) in
      let inner = forward_all n (suc i) (front ++ (b ∷ [])) cs s (omega (arith, longer front b, at)) (omega (arith, all)) (omega (arith, fits)) in
      let wrote : set (front ++ (y ∷ s)) i b ≡ (front ++ (b ∷ [])) ++ s = set_at front y s b i at ∙ sym (append_assoc front (b ∷ []) s) in
      ap (after_writes n (forward_writes (suc i) cs)) wrote ∙ inner ∙ append_assoc front (b ∷ []) (stored cs ++ drop (length cs) s) ∙ ap (λ st. front ++ (st ++ drop (length cs) s)) (sym (stored_more i n c cs all))
