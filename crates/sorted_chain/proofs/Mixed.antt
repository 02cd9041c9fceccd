-- A chain that is cut in front and as it was after.
use Rattle.std.proofs.Common.{◌≡◌, ℕ, zero, suc, ◌+◌, ◌<◌, ◌≤◌, List, [], ◌∷◌, ◌++◌, refl, ap, sym, ◌∙◌, arith, ⊎_elim, append-nil, take, drop, length, subst, Option, Some}
use Rattle.std.specs.Prelude.{option_map}
use Rattle.chain_spec.proofs.KeptLemmas
use Rattle.chain_spec.proofs.KeptLemmas.{after, kept-append, kept_rises, kept_all, kept_again, after_kept, after-append, after_rises, kept_behind, rises_front}
use Rattle.chain_spec.proofs.CutLemmas.{total-append, covers, first_size_within, full_before}
use Rattle.chain_spec.proofs.StoreLemmas.{up_to_end-stored}
use Rattle.chain_spec.specs.Cut.{total, first_size, AllFit, IsFull}
use Rattle.chain_spec.specs.Kept.{kept_from, RisesFrom, joined}
use Rattle.chain_spec.specs.Store.{Block, stored, up_to_end}

module _ {E : Type 0} (name size : E → ℕ) where
  pub kept_within : (t : ℕ) (es : List E) → total size (kept_from name t es) ≤ total size es
  kept_within t [] = omega arith
  kept_within t (e ∷ es) = ⊎_elim
      (λ h. rw (KeptLemmas.keeps name t e es h) (omega (arith, kept_within (suc (name e)) es)))
      (λ h. rw (KeptLemmas.passes name t e es h) (omega (arith, kept_within t es)))
      (KeptLemmas.order name t (name e))

  -- a cut of two blocks or more has its kept entries from two blocks or more
  pub not_from_one : (u room end : ℕ) (f c : List E) (cs : List (List E)) (b : List E) → room < total size f + first_size size end c cs → total size b + end ≤ room → kept_from name u (b ++ []) ≡ f ++ joined (c ∷ cs) → ⊥
  not_from_one u room end f c cs b full fits same =
      let sums : total size (kept_from name u (b ++ [])) ≡ total size (f ++ joined (c ∷ cs)) = ap (total size) same in
      omega (arith, sums, kept_within u (b ++ []), total-append size b [], total-append size f (joined (c ∷ cs)), first_size_within size end c cs, full, fits)

  -- after the first block of the cut the kept entries come from the blocks after the first
  pub next : (u room end : ℕ) (f c : List E) (cs : List (List E)) (b d : List E) (ds : List (List E)) →
      AllFit size room end (f ∷ c ∷ cs) → IsFull size room end (f ∷ c ∷ cs) → AllFit size room end (b ∷ d ∷ ds) →
      kept_from name u (joined (b ∷ d ∷ ds)) ≡ joined (f ∷ c ∷ cs) →
      kept_from name (after name u f) (joined (d ∷ ds)) ≡ joined (c ∷ cs)
  next u room end f c cs b d ds fits full from same =
      let w = after name u b in
      let rest = joined (d ∷ ds) in
      let later = joined (c ∷ cs) in
      let split : kept_from name u b ++ kept_from name w rest ≡ f ++ later = sym (kept-append name u b rest) ∙ same in
      let beyond = λ (y : E) (r : List E) (is : later ≡ y ∷ r). let h : room < total size f + size y = full_before size room end f c cs full.0 fits.0 full.1 y r is in let less : total size (kept_from name u b) < total size f + size y = omega (arith, h, kept_within u b, from.0) in less in
      let got = covers size f later (kept_from name u b) (kept_from name w rest) split beyond in
      let m = got.0 in
      let bound : after name u f ≡ after name w m = ap (after name u) got.1 ∙ after-append name u (kept_from name u b) m ∙ ap (λ t. after name t m) (after_kept name u b) in
      let rises : RisesFrom name w (m ++ later) = subst (RisesFrom name w) got.2 (kept_rises name w rest) in
      rw bound (kept_again name w (after name w m) rest (after_rises name w m) ∙ ap (kept_from name (after name w m)) got.2 ∙ kept_behind name w m later rises)

  -- the store is read, and these are kept
  abbrev pub Finds : ℕ → List (Option (Block E)) → List E → Type 0
  Finds u store list = (es : List E) × (up_to_end store ≡ Some es) × (kept_from name u es ≡ list)

  -- a cut of the kept entries in front, the blocks as they were after: the kept entries stay
  pub kept_mixed : (u room end : ℕ) (cut blocks : List (List E)) (t s : List (Option (Block E))) (j : ℕ) →
      AllFit size room end cut → IsFull size room end cut → AllFit size room end blocks →
      kept_from name u (joined blocks) ≡ joined cut →
      Finds u (take j (stored cut ++ t) ++ drop j (stored blocks ++ s)) (joined cut)
  kept_mixed u room end [] blocks t s j fits full from same = absurd fits
  kept_mixed u room end (f ∷ []) blocks t s zero fits full from same = (joined blocks, up_to_end-stored size room end blocks s from, same)
  kept_mixed u room end (f ∷ []) blocks t s (suc j) fits full from same = (f, refl, kept_all name u u f (omega arith) (rises_front name u f [] (subst (RisesFrom name u) same (kept_rises name u (joined blocks)))) ∙ sym (append-nil f))
  kept_mixed u room end (f ∷ c ∷ cs) [] t s j fits full from same = absurd from
  kept_mixed u room end (f ∷ c ∷ cs) (b ∷ []) t s j fits full from same = absurd (not_from_one u room end f c cs b full.0 from same)
  kept_mixed u room end (f ∷ c ∷ cs) (b ∷ d ∷ ds) t s zero fits full from same = (joined (b ∷ d ∷ ds), up_to_end-stored size room end (b ∷ d ∷ ds) s from, same)
  kept_mixed u room end (f ∷ c ∷ cs) (b ∷ d ∷ ds) t s (suc j) fits full from same =
      let inner = kept_mixed (after name u f) room end (c ∷ cs) (d ∷ ds) t s j fits.1 full.1 from.1 (next u room end f c cs b d ds fits full from same) in
      let own : kept_from name u f ≡ f = kept_all name u u f (omega arith) (rises_front name u f (joined (c ∷ cs)) (subst (RisesFrom name u) same (kept_rises name u (joined (b ∷ d ∷ ds))))) in
      (f ++ inner.0, ap (option_map (λ es. f ++ es)) inner.1, kept-append name u f inner.0 ∙ ap (λ xs. xs ++ kept_from name (after name u f) inner.0) own ∙ ap (λ xs. f ++ xs) inner.2)

  -- the cut of the kept entries has no more blocks
  pub no_more_blocks : (u room end : ℕ) (cut blocks : List (List E)) →
      AllFit size room end cut → IsFull size room end cut → AllFit size room end blocks →
      kept_from name u (joined blocks) ≡ joined cut → length cut ≤ length blocks
  no_more_blocks u room end [] blocks fits full from same = absurd fits
  no_more_blocks u room end cut [] fits full from same = absurd from
  no_more_blocks u room end (f ∷ []) (b ∷ bs) fits full from same = omega arith
  no_more_blocks u room end (f ∷ c ∷ cs) (b ∷ []) fits full from same = absurd (not_from_one u room end f c cs b full.0 from same)
  no_more_blocks u room end (f ∷ c ∷ cs) (b ∷ d ∷ ds) fits full from same =
      omega (arith, no_more_blocks (after name u f) room end (c ∷ cs) (d ∷ ds) fits.1 full.1 from.1 (next u room end f c cs b d ds fits full from same))
