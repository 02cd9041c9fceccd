-- Lemmas on the kept entries of a list.
use Rattle.std.proofs.Common.{◌≡◌, ℕ, suc, ◌<◌, ◌≤◌, List, [], ◌∷◌, ◌++◌, refl, ap, sym, ◌∙◌, arith, ◌⊎◌, ⊎_elim, inl, inr, append-nil, subst}
use Rattle.std.proofs.lemmas.Bool.Decides.{leb_tells}
use Rattle.chain_spec.specs.Kept.{bound_after, kept_from, RisesFrom}

module _ {E : Type 0} (name : E → ℕ) where
  -- the two ways of an entry
  pub keeps : (t : ℕ) (e : E) (es : List E) → t ≤ name e → kept_from name t (e ∷ es) ≡ e ∷ kept_from name (suc (name e)) es
  keeps t e es h = ⊎_elim (λ is. rw is.0 refl) (λ is. absurd (omega (arith, is.1, h))) (leb_tells t (name e))

  pub passes : (t : ℕ) (e : E) (es : List E) → name e < t → kept_from name t (e ∷ es) ≡ kept_from name t es
  passes t e es h = ⊎_elim (λ is. absurd (omega (arith, is.1, h))) (λ is. rw is.0 refl) (leb_tells t (name e))

  pub order : (t n : ℕ) → (t ≤ n) ⊎ (n < t)
  order t n = ⊎_elim (λ is. inl is.1) (λ is. inr is.1) (leb_tells t n)

  -- the bound after these entries
  abbrev pub after : ℕ → List E → ℕ
  after t es = bound_after name t es

  after_keeps : (t : ℕ) (e : E) (es : List E) → t ≤ name e → after t (e ∷ es) ≡ after (suc (name e)) es
  after_keeps t e es h = ⊎_elim (λ is. rw is.0 refl) (λ is. absurd (omega (arith, is.1, h))) (leb_tells t (name e))

  after_passes : (t : ℕ) (e : E) (es : List E) → name e < t → after t (e ∷ es) ≡ after t es
  after_passes t e es h = ⊎_elim (λ is. absurd (omega (arith, is.1, h))) (λ is. rw is.0 refl) (leb_tells t (name e))

  pub after_rises : (t : ℕ) (es : List E) → t ≤ after t es
  after_rises t [] = omega arith
  after_rises t (e ∷ es) = ⊎_elim
      (λ h. rw (after_keeps t e es h) (omega (arith, after_rises (suc (name e)) es)))
      (λ h. rw (after_passes t e es h) (after_rises t es))
      (order t (name e))

  pub kept-append : (t : ℕ) (xs ys : List E) → kept_from name t (xs ++ ys) ≡ kept_from name t xs ++ kept_from name (after t xs) ys
  kept-append t [] ys = refl
  kept-append t (e ∷ xs) ys = ⊎_elim
      (λ h. rw (keeps t e (xs ++ ys) h, keeps t e xs h, after_keeps t e xs h) (ap (λ zs. e ∷ zs) (kept-append (suc (name e)) xs ys)))
      (λ h. rw (passes t e (xs ++ ys) h, passes t e xs h, after_passes t e xs h) (kept-append t xs ys))
      (order t (name e))

  pub kept_rises : (t : ℕ) (es : List E) → RisesFrom name t (kept_from name t es)
  kept_rises t [] = tt
  kept_rises t (e ∷ es) = ⊎_elim
      (λ h. rw (keeps t e es h) (h, kept_rises (suc (name e)) es))
      (λ h. rw (passes t e es h) (kept_rises t es))
      (order t (name e))

  -- of rising entries all are kept, at a lower bound too
  pub kept_all : (t u : ℕ) (es : List E) → t ≤ u → RisesFrom name u es → kept_from name t es ≡ es
  kept_all t u [] h r = refl
  kept_all t u (e ∷ es) h r = let l : t ≤ name e = omega (arith, r.0, h) in
      rw (keeps t e es l) (ap (λ zs. e ∷ zs) (kept_all (suc (name e)) (suc (name e)) es (omega arith) r.1))

  -- of the kept entries those above a higher bound are the ones that it keeps itself
  pub kept_again : (t u : ℕ) (es : List E) → t ≤ u → kept_from name u es ≡ kept_from name u (kept_from name t es)
  kept_again t u [] h = refl
  kept_again t u (e ∷ es) h = ⊎_elim
      (λ k. let l : t ≤ name e = omega (arith, h, k) in
      let same : suc (name e) ≤ suc (name e) = omega arith in
      rw (keeps t e es l, keeps u e es k, keeps u e (kept_from name (suc (name e)) es) k) (ap (λ zs. e ∷ zs) (kept_again (suc (name e)) (suc (name e)) es same)))
      (λ k. ⊎_elim
      (λ l. rw (keeps t e es l, passes u e es k, passes u e (kept_from name (suc (name e)) es) k) (kept_again (suc (name e)) u es k))
      (λ l. rw (passes t e es l, passes u e es k) (kept_again t u es h))
      (order t (name e)))
      (order u (name e))

  -- the bound after the kept entries is that after all
  pub after_kept : (t : ℕ) (es : List E) → after t (kept_from name t es) ≡ after t es
  after_kept t [] = refl
  after_kept t (e ∷ es) = ⊎_elim
      (λ h. rw (keeps t e es h, after_keeps t e es h, after_keeps t e (kept_from name (suc (name e)) es) h) (after_kept (suc (name e)) es))
      (λ h. rw (passes t e es h, after_passes t e es h) (after_kept t es))
      (order t (name e))

  pub after-append : (t : ℕ) (xs ys : List E) → after t (xs ++ ys) ≡ after (after t xs) ys
  after-append t [] ys = refl
  after-append t (e ∷ xs) ys = ⊎_elim
      (λ h. rw (after_keeps t e (xs ++ ys) h, after_keeps t e xs h) (after-append (suc (name e)) xs ys))
      (λ h. rw (after_passes t e (xs ++ ys) h, after_passes t e xs h) (after-append t xs ys))
      (order t (name e))

  -- after the first of rising entries the others are kept
  pub kept_behind : (t : ℕ) (xs ys : List E) → RisesFrom name t (xs ++ ys) → kept_from name (after t xs) (xs ++ ys) ≡ ys
  kept_behind t [] ys r = kept_all t t ys (omega arith) r
  kept_behind t (e ∷ xs) ys r = rw (after_keeps t e xs r.0)
      (let l : name e < after (suc (name e)) xs = after_rises (suc (name e)) xs in
      rw (passes (after (suc (name e)) xs) e (xs ++ ys) l) (kept_behind (suc (name e)) xs ys r.1))

  pub rises_front : (t : ℕ) (xs ys : List E) → RisesFrom name t (xs ++ ys) → RisesFrom name t xs
  rises_front t [] ys r = tt
  rises_front t (e ∷ xs) ys r = (r.0, rises_front (suc (name e)) xs ys r.1)

  -- the last of rising entries sets the bound
  pub after_last : (t : ℕ) (xs : List E) (e : E) → RisesFrom name t (xs ++ (e ∷ [])) → after t (xs ++ (e ∷ [])) ≡ suc (name e)
  after_last t [] e r = after_keeps t e [] r.0
  after_last t (x ∷ xs) e r = after_keeps t x (xs ++ (e ∷ [])) r.0 ∙ after_last (suc (name x)) xs e r.1

  pub kept_last : (t : ℕ) (es xs : List E) (e : E) → kept_from name t es ≡ xs ++ (e ∷ []) → after t es ≡ suc (name e)
  kept_last t es xs e same = sym (after_kept t es) ∙ ap (after t) same ∙ after_last t xs e (subst (RisesFrom name t) same (kept_rises t es))

  pub kept_none : (t : ℕ) (es : List E) → kept_from name t es ≡ [] → after t es ≡ t
  kept_none t es same = sym (after_kept t es) ∙ ap (after t) same

  pub kept_push : (t : ℕ) (es : List E) (e : E) → after t es ≤ name e → kept_from name t (es ++ (e ∷ [])) ≡ kept_from name t es ++ (e ∷ [])
  kept_push t es e h = kept-append t es (e ∷ []) ∙ ap (λ zs. kept_from name t es ++ zs) (keeps (after t es) e [] h)

  pub kept_pass : (t : ℕ) (es : List E) (e : E) → name e < after t es → kept_from name t (es ++ (e ∷ [])) ≡ kept_from name t es
  kept_pass t es e h = kept-append t es (e ∷ []) ∙ ap (λ zs. kept_from name t es ++ zs) (passes (after t es) e [] h) ∙ append-nil (kept_from name t es)

  pub rises_lower : (t u : ℕ) (es : List E) → t ≤ u → RisesFrom name u es → RisesFrom name t es
  rises_lower t u [] h rises = tt
  rises_lower t u (e ∷ es) h rises = (omega (arith, h, rises.0), rises.1)

  pub rises_rest : (t : ℕ) (xs ys : List E) → RisesFrom name t (xs ++ ys) → RisesFrom name 0 ys
  rises_rest t [] ys r = rises_lower 0 t ys (omega arith) r
  rises_rest t (e ∷ xs) ys r = rises_rest (suc (name e)) xs ys r.1
