-- The choice of several runs, step by step.
use Rattle.std.proofs.Common.{◌≡◌, ◌≤◌, ◌<◌, ◌-◌, ◌≢◌, ℕ, zero, suc, Bool, true, false, List, [], ◌∷◌, ◌++◌, refl, sym, ap, ◌∙◌, arith}
use Rattle.std.specs.Prelude.{Option, Some, None, nat_le, if◌then◌else◌}
use Rattle.vol_model.specs.declared.contents.Run.{Run}
use Rattle.vol_model.specs.Space.{extent_of, left_after, longest_first, longest_from, with_longest}

module _ (size : ℕ) (last : Option Run) (runs taken : List Run) (n : ℕ) where
  pub longest_none : longest_first size 0 last runs taken n ≡ None
  unfolding longest_first
  longest_none = refl

  by_found : (k : ℕ) (found : Option Run) → longest_from None (left_after last runs) ≡ found
      → longest_first size (suc k) last runs taken n ≡ with_longest size taken n (λ r. longest_first size k (Some r) runs (taken ++ extent_of size r.len r ∷ []) (n - r.len)) found
  unfolding longest_first
  by_found k found is = ap (with_longest size taken n (λ r. longest_first size k (Some r) runs (taken ++ extent_of size r.len r ∷ []) (n - r.len))) is

  pub longest_end : (k : ℕ) → 0 < k → None ≡ longest_from None (left_after last runs) → longest_first size k last runs taken n ≡ None
  longest_end zero some is = absurd (omega (arith, some))
  longest_end (suc k) some is = by_found k None (sym is)

  by_test : (k : ℕ) (r : Run) (b : Bool) → nat_le n r.len ≡ b
      → with_longest size taken n (λ r. longest_first size k (Some r) runs (taken ++ extent_of size r.len r ∷ []) (n - r.len)) (Some r)
      ≡ (if b then Some (taken ++ extent_of size n r ∷ []) else longest_first size k (Some r) runs (taken ++ extent_of size r.len r ∷ []) (n - r.len))
  by_test k r b is = ap (λ b. if b then Some (taken ++ extent_of size n r ∷ []) else longest_first size k (Some r) runs (taken ++ extent_of size r.len r ∷ []) (n - r.len)) is

  pub longest_fit : (k : ℕ) (r : Run) → 0 < k → Some r ≡ longest_from None (left_after last runs) → n ≤ r.len → longest_first size k last runs taken n ≡ Some (taken ++ extent_of size n r ∷ [])
  longest_fit zero r some is fits = absurd (omega (arith, some))
  longest_fit (suc k) r some is fits = by_found k (Some r) (sym is) ∙ by_test k r true (holds n r.len fits)
    where
      holds : (a b : ℕ) → a ≤ b → nat_le a b ≡ true
      holds a b le = grind (arith, le)

  pub longest_next : (k : ℕ) (r : Run) → 0 < k → Some r ≡ longest_from None (left_after last runs) → r.len < n → longest_first size k last runs taken n ≡ longest_first size (k - 1) (Some r) runs (taken ++ extent_of size r.len r ∷ []) (n - r.len)
  longest_next zero r some is more = absurd (omega (arith, some))
  longest_next (suc k) r some is more =
      let back : k ≡ suc k - 1 = omega arith in
      by_found k (Some r) (sym is) ∙ by_test k r false (fails n r.len more) ∙ ap (λ j. longest_first size j (Some r) runs (taken ++ extent_of size r.len r ∷ []) (n - r.len)) back
    where
      fails : (a b : ℕ) → b < a → nat_le a b ≡ false
      fails a b lt = grind (arith, lt)
