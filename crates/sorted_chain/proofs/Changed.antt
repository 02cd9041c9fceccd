-- A chain of one entry more, or of one that is larger, after a cut without it.
use Rattle.std.proofs.Common.{◌≡◌, ℕ, zero, suc, ◌<◌, ◌≤◌, Bool, true, false, cond, List, [], ◌∷◌, ◌++◌, refl, ap, sym, ◌∙◌, arith, ◌⊎◌, ⊎_elim, inl, inr, append_assoc, take, drop, length, subst, Option, Some, None}
use Rattle.std.proofs.lemmas.List.{append_cancel_right}
use Rattle.std.specs.Prelude.{option_map}
use Rattle.chain_spec.proofs.KeptLemmas
use Rattle.chain_spec.proofs.CutLemmas.{total-append}
use Rattle.chain_spec.proofs.KeptLemmas.{after, kept-append, kept_all, rises_lower}
use Rattle.chain_spec.proofs.StoreLemmas.{up_to_end-stored}
use Rattle.chain_spec.specs.Cut.{total, AllFit, IsFull}
use Rattle.chain_spec.specs.Kept.{kept_from, kept, Rises, RisesFrom, joined}
use Rattle.chain_spec.specs.Store.{Block, stored, up_to_end}
use Rattle.sorted_chain.proofs.Mixed.{Finds, kept_mixed, no_more_blocks}

-- what stands in an entry's place: nothing, or an entry of its name that is no larger
abbrev pub StandsFor : {E : Type 0} → (E → ℕ) → (E → ℕ) → E → List E → Type 0
StandsFor name size x [] = Unit {0}
StandsFor name size x (y ∷ []) = (name y ≡ name x) × (size y ≤ size x)
StandsFor name size x (y ∷ z ∷ zs) = ⊥

-- where an entry stands of two joined lists
in_which : {E : Type 0} (b a : List E) (x : E) (z r : List E) → b ++ r ≡ a ++ (x ∷ z) → ((q : List E) × (b ≡ a ++ (x ∷ q)) × (z ≡ q ++ r)) ⊎ ((c : List E) × (a ≡ b ++ c) × (r ≡ c ++ (x ∷ z)))
in_which [] a x z r same = inr (a, refl, same)
in_which (e ∷ b) [] x z r same = inl (b, cc, cc)
in_which (e ∷ b) (f ∷ a) x z r same =
    let first : e ≡ f = cc in
    let rest : b ++ r ≡ a ++ (x ∷ z) = cc in
    ⊎_elim (λ h. inl (h.0, cc (first, h.1), h.2)) (λ h. inr (h.0, cc (first, h.1), h.2)) (in_which b a x z r rest)

nothing_in : {E : Type 0} (c : List E) (x : E) (z : List E) → [] ≡ c ++ (x ∷ z) → ⊥
nothing_in [] x z same = cc
nothing_in (e ∷ c) x z same = cc

-- the same entries, or those with the entry and those with what stands for it
abbrev Near : {E : Type 0} → E → List E → List E → Option (List E) → Option (List E) → Type 0
Near {E = E} x ys z r s = (r ≡ s) ⊎ ((p : List E) × (r ≡ Some (p ++ (x ∷ z))) × (s ≡ Some (p ++ (ys ++ z))))

-- blocks without the entry, which differ in one block alone
record Thinned {E : Type 0} (size : E → ℕ) (room end : ℕ) (a : List E) (x : E) (ys z : List E) (whole : List (List E)) : Type 0 where
  blocks : List (List E)
  holds : joined blocks ≡ a ++ (ys ++ z)
  fits : AllFit size room end blocks
  as_many : length blocks ≡ length whole
  near : (s : List (Option (Block E))) (j : ℕ) → Near x ys z (up_to_end (drop j (stored whole ++ s))) (up_to_end (drop j (stored blocks ++ s)))

module _ {E : Type 0} (name size : E → ℕ) where
  no_larger : (x : E) (ys : List E) → StandsFor name size x ys → total size ys ≤ size x
  no_larger x [] h = omega arith
  no_larger x (y ∷ []) h = omega (arith, h.1)
  no_larger x (y ∷ z ∷ zs) h = absurd h

  less_in : (a : List E) (x : E) (ys q : List E) → StandsFor name size x ys → total size (a ++ (ys ++ q)) ≤ total size (a ++ (x ∷ q))
  less_in a x ys q h = omega (arith, no_larger x ys h, total-append size a (ys ++ q), total-append size a (x ∷ q), total-append size ys q)

  regrouped : (a ys q r : List E) → (a ++ (ys ++ q)) ++ r ≡ a ++ (ys ++ (q ++ r))
  regrouped a ys q r = simp append_assoc

  thinned : (room end : ℕ) (whole : List (List E)) (a : List E) (x : E) (ys z : List E) → StandsFor name size x ys → AllFit size room end whole → joined whole ≡ a ++ (x ∷ z) → Thinned size room end a x ys z whole
  thinned room end [] a x ys z stands fits same = absurd fits
  thinned room end (b ∷ []) a x ys z stands fits same = ⊎_elim
      (λ h. let holds : (a ++ (ys ++ h.0)) ++ [] ≡ a ++ (ys ++ z) = regrouped a ys h.0 [] ∙ ap (λ q. a ++ (ys ++ q)) (sym h.2) in
      let sums : total size b ≡ total size (a ++ (x ∷ h.0)) = ap (total size) h.1 in
      record {
        blocks = (a ++ (ys ++ h.0)) ∷ [];
        holds = holds;
        fits = omega (arith, fits, sums, less_in a x ys h.0 stands);
        as_many = refl;
        near = λ s. elim [ zero ↦ inr (a, up_to_end-stored size room end (b ∷ []) s fits ∙ ap Some same, up_to_end-stored size room end ((a ++ (ys ++ h.0)) ∷ []) s (omega (arith, fits, sums, less_in a x ys h.0 stands)) ∙ ap Some holds) | suc j ↦ inl refl ];
      })
      (λ h. absurd (nothing_in h.0 x z h.2))
      (in_which b a x z [] same)
  thinned room end (b ∷ c ∷ cs) a x ys z stands fits same = ⊎_elim
      (λ h. let holds : (a ++ (ys ++ h.0)) ++ joined (c ∷ cs) ≡ a ++ (ys ++ z) = regrouped a ys h.0 (joined (c ∷ cs)) ∙ ap (λ q. a ++ (ys ++ q)) (sym h.2) in
      let sums : total size b ≡ total size (a ++ (x ∷ h.0)) = ap (total size) h.1 in
      let less : total size (a ++ (ys ++ h.0)) ≤ room = omega (arith, fits.0, sums, less_in a x ys h.0 stands) in
      record {
        blocks = (a ++ (ys ++ h.0)) ∷ c ∷ cs;
        holds = holds;
        fits = (less, fits.1);
        as_many = refl;
        near = λ s. elim [ zero ↦ inr (a, up_to_end-stored size room end (b ∷ c ∷ cs) s fits ∙ ap Some same, up_to_end-stored size room end ((a ++ (ys ++ h.0)) ∷ c ∷ cs) s (less, fits.1) ∙ ap Some holds) | suc j ↦ inl refl ];
      })
      (λ h. behind h.0 h.1 (thinned room end (c ∷ cs) h.0 x ys z stands fits.1 h.2))
      (in_which b a x z (joined (c ∷ cs)) same)
    where
      joins : (d : List E) → a ≡ b ++ d → (bs : List (List E)) → joined bs ≡ d ++ (ys ++ z) → b ++ joined bs ≡ a ++ (ys ++ z)
      joins d is bs h = rw is (ap (λ es. b ++ es) h ∙ sym (append_assoc b d (ys ++ z)))

      at : (d : List E) → a ≡ b ++ d → (bs : List (List E)) → joined bs ≡ d ++ (ys ++ z) → AllFit size room end bs → length bs ≡ length (c ∷ cs) → ((s : List (Option (Block E))) (j : ℕ) → Near x ys z (up_to_end (drop j (stored (c ∷ cs) ++ s))) (up_to_end (drop j (stored bs ++ s)))) → Thinned size room end a x ys z (b ∷ c ∷ cs)
      at d is [] holds within many near = absurd within
      at d is (e ∷ es) holds within many near = record {
        blocks = b ∷ e ∷ es;
        holds = joins d is (e ∷ es) holds;
        fits = (fits.0, within);
        as_many = omega (arith, many);
        near = λ s. elim [ zero ↦ inr (a, up_to_end-stored size room end (b ∷ c ∷ cs) s fits ∙ ap Some same, up_to_end-stored size room end (b ∷ e ∷ es) s (fits.0, within) ∙ ap Some (joins d is (e ∷ es) holds)) | suc j ↦ near s j ];
      }

      behind : (d : List E) → a ≡ b ++ d → Thinned size room end d x ys z (c ∷ cs) → Thinned size room end a x ys z (b ∷ c ∷ cs)
      behind d is t = at d is t.blocks t.holds t.fits t.as_many t.near

  -- blocks in front change nothing of that
  near_behind : (front s t : List (Option (Block E))) (x : E) (ys z : List E) → Near x ys z (up_to_end s) (up_to_end t) → Near x ys z (up_to_end (front ++ s)) (up_to_end (front ++ t))
  near_behind [] s t x ys z near = near
  near_behind (None ∷ front) s t x ys z near = inl refl
  near_behind (Some b ∷ front) s t x ys z near = at b.ends (near_behind front s t x ys z near)
    where
      at : (ends : Bool) → Near x ys z (up_to_end (front ++ s)) (up_to_end (front ++ t)) → Near x ys z (cond ends (Some b.entries) (option_map (λ es. b.entries ++ es) (up_to_end (front ++ s)))) (cond ends (Some b.entries) (option_map (λ es. b.entries ++ es) (up_to_end (front ++ t))))
      at true h = inl refl
      at false h = ⊎_elim (λ same. inl (ap (option_map (λ es. b.entries ++ es)) same)) (λ k. inr (b.entries ++ k.0, ap (option_map (λ es. b.entries ++ es)) k.1 ∙ ap Some (sym (append_assoc b.entries k.0 (x ∷ z))), ap (option_map (λ es. b.entries ++ es)) k.2 ∙ ap Some (sym (append_assoc b.entries k.0 (ys ++ z))))) h

  rises_behind : (t : ℕ) (a : List E) (x : E) (z : List E) → RisesFrom name t (a ++ (x ∷ z)) → RisesFrom name (suc (name x)) z
  rises_behind t [] x z rises = rises.1
  rises_behind t (e ∷ a) x z rises = rises_behind (suc (name e)) a x z rises.1

  rises_without : (t : ℕ) (a : List E) (x : E) (ys z : List E) → StandsFor name size x ys → RisesFrom name t (a ++ (x ∷ z)) → RisesFrom name t (a ++ (ys ++ z))
  rises_without t [] x [] z stands rises = rises_lower name t (suc (name x)) z (omega (arith, rises.0)) rises.1
  rises_without t [] x (y ∷ []) z stands rises = (omega (arith, stands.0, rises.0), subst (λ n. RisesFrom name (suc n) z) (sym stands.0) rises.1)
  rises_without t [] x (y ∷ w ∷ ws) z stands rises = absurd stands
  rises_without t (e ∷ a) x ys z stands rises = (rises.0, rises_without (suc (name e)) a x ys z stands rises.1)

  -- what stands for a name is passed or kept as the entry is
  passed : (t : ℕ) (x : E) (ys z : List E) → StandsFor name size x ys → name x < t → kept_from name t (ys ++ z) ≡ kept_from name t z
  passed t x [] z stands h = refl
  passed t x (y ∷ []) z stands h = KeptLemmas.passes name t y z (omega (arith, stands.0, h))
  passed t x (y ∷ w ∷ ws) z stands h = absurd stands

  held : (t : ℕ) (x : E) (ys z : List E) → StandsFor name size x ys → t ≤ name x → RisesFrom name (suc (name x)) z → kept_from name t (ys ++ z) ≡ ys ++ z
  held t x [] z stands h rises = kept_all name t (suc (name x)) z (omega (arith, h)) rises
  held t x (y ∷ []) z stands h rises = kept_all name t t (y ∷ z) (omega arith) (omega (arith, stands.0, h), subst (λ n. RisesFrom name (suc n) z) (sym stands.0) rises)
  held t x (y ∷ w ∷ ws) z stands h rises = absurd stands

  -- with the entry in its place, what is kept is as without it or as with it
  with_the_entry : (p a : List E) (x : E) (ys z : List E) → StandsFor name size x ys → Rises name (a ++ (x ∷ z)) → kept name (p ++ (ys ++ z)) ≡ a ++ (ys ++ z) → (kept name (p ++ (x ∷ z)) ≡ a ++ (ys ++ z)) ⊎ (kept name (p ++ (x ∷ z)) ≡ a ++ (x ∷ z))
  with_the_entry p a x ys z stands rises same = ⊎_elim
      (λ h. let front : kept_from name 0 p ≡ a = append_cancel_right (kept_from name 0 p) a (ys ++ z) (ap (λ es. kept_from name 0 p ++ es) (sym (held t x ys z stands h up)) ∙ sym (kept-append name 0 p (ys ++ z)) ∙ same) in
      inr (kept-append name 0 p (x ∷ z) ∙ ap (λ es. kept_from name 0 p ++ es) (kept_all name t t (x ∷ z) (omega arith) (h, up)) ∙ ap (λ es. es ++ (x ∷ z)) front))
      (λ h. inl (kept-append name 0 p (x ∷ z) ∙ ap (λ es. kept_from name 0 p ++ es) (KeptLemmas.passes name t x z h ∙ sym (passed t x ys z stands h)) ∙ sym (kept-append name 0 p (ys ++ z)) ∙ same))
      (KeptLemmas.order name t (name x))
    where
      t : ℕ
      t = after name 0 p

      up : RisesFrom name (suc (name x)) z
      up = rises_behind 0 a x z rises

  -- a cut in front without the entry, blocks after with it: one of both is found
  pub changed_mixed : (room end : ℕ) (cut whole : List (List E)) (a : List E) (x : E) (ys z : List E) (t s : List (Option (Block E))) (j : ℕ) →
      StandsFor name size x ys → Rises name (a ++ (x ∷ z)) →
      AllFit size room end cut → IsFull size room end cut → joined cut ≡ a ++ (ys ++ z) →
      AllFit size room end whole → joined whole ≡ a ++ (x ∷ z) →
      Finds name size 0 (take j (stored cut ++ t) ++ drop j (stored whole ++ s)) (a ++ (ys ++ z)) ⊎ Finds name size 0 (take j (stored cut ++ t) ++ drop j (stored whole ++ s)) (a ++ (x ∷ z))
  changed_mixed room end cut whole a x ys z t s j stands rises fits full small from great =
      let thin = thinned room end whole a x ys z stands from great in
      let all : kept name (joined thin.blocks) ≡ joined cut = ap (kept name) thin.holds ∙ kept_all name 0 0 (a ++ (ys ++ z)) (omega arith) (rises_without 0 a x ys z stands rises) ∙ sym small in
      let without = kept_mixed name size 0 room end cut thin.blocks t s j fits full thin.fits all in
      ⊎_elim
      (λ same. inl (without.0, same ∙ without.1, without.2 ∙ small))
      (λ k.
      let these : Some without.0 ≡ Some (k.0 ++ (ys ++ z)) = sym without.1 ∙ k.2 in
      let entries : without.0 ≡ k.0 ++ (ys ++ z) = cc in
      ⊎_elim (λ h. inl (k.0 ++ (x ∷ z), k.1, h)) (λ h. inr (k.0 ++ (x ∷ z), k.1, h)) (with_the_entry k.0 a x ys z stands rises (ap (kept name) (sym entries) ∙ without.2 ∙ small)))
      (near_behind (take j (stored cut ++ t)) (drop j (stored whole ++ s)) (drop j (stored thin.blocks ++ s)) x ys z (thin.near s j))

  -- the cut without the entry has no more blocks
  pub no_more_without : (room end : ℕ) (cut whole : List (List E)) (a : List E) (x : E) (ys z : List E) →
      StandsFor name size x ys → Rises name (a ++ (x ∷ z)) →
      AllFit size room end cut → IsFull size room end cut → joined cut ≡ a ++ (ys ++ z) →
      AllFit size room end whole → joined whole ≡ a ++ (x ∷ z) → length cut ≤ length whole
  no_more_without room end cut whole a x ys z stands rises fits full small from great =
      let thin = thinned room end whole a x ys z stands from great in
      let all : kept name (joined thin.blocks) ≡ joined cut = ap (kept name) thin.holds ∙ kept_all name 0 0 (a ++ (ys ++ z)) (omega arith) (rises_without 0 a x ys z stands rises) ∙ sym small in
      let less : length cut ≤ length thin.blocks = no_more_blocks name size 0 room end cut thin.blocks fits full thin.fits all in
      omega (arith, less, thin.as_many)
