-- How many blocks the cut has, counted.
use Rattle.std.proofs.Common.{◌≡◌, ℕ, suc, ◌+◌, ◌<◌, ◌≤◌, List, [], ◌∷◌, ◌++◌, refl, ap, sym, ◌∙◌, arith, ⊎_elim, length}
use Rattle.std.proofs.lemmas.Bool.Decides.{leb_tells}
use Rattle.chain_spec.specs.Cut.{AllFit, IsCut, IsFull, needed, needed_from, total}
use Rattle.chain_spec.specs.Kept.{joined}

module _ {E : Type 0} (size : E → ℕ) (room end : ℕ) where
  stays : (used : ℕ) (e : E) (es : List E) → used + size e ≤ room → needed_from size room end used (e ∷ es) ≡ needed_from size room end (used + size e) es
  stays used e es h = ⊎_elim (λ is. rw is.0 refl) (λ is. absurd (omega (arith, is.1, h))) (leb_tells (used + size e) room)

  opens : (used : ℕ) (e : E) (es : List E) → room < used + size e → needed_from size room end used (e ∷ es) ≡ suc (needed_from size room end (size e) es)
  opens used e es h = ⊎_elim (λ is. absurd (omega (arith, is.1, h))) (λ is. rw is.0 refl) (leb_tells (used + size e) room)

  closes : (used : ℕ) → used + end ≤ room → needed_from size room end used [] ≡ 1
  closes used h = ⊎_elim (λ is. rw is.0 refl) (λ is. absurd (omega (arith, is.1, h))) (leb_tells (used + end) room)

  ends_behind : (used : ℕ) → room < used + end → needed_from size room end used [] ≡ 2
  ends_behind used h = ⊎_elim (λ is. absurd (omega (arith, is.1, h))) (λ is. rw is.0 refl) (leb_tells (used + end) room)

  through : (used : ℕ) (b es : List E) → used + total size b ≤ room → needed_from size room end used (b ++ es) ≡ needed_from size room end (used + total size b) es
  through used [] es h = let e : used ≡ used + 0 = omega arith in ap (λ u. needed_from size room end u es) e
  through used (x ∷ b) es h =
      let e : (used + size x) + total size b ≡ used + (size x + total size b) = omega arith in
      stays used x (b ++ es) (omega (arith, h)) ∙ through (used + size x) b es (omega (arith, h)) ∙ ap (λ u. needed_from size room end u es) e

  counted : (bs : List (List E)) → AllFit size room end bs → IsFull size room end bs → needed_from size room end 0 (joined bs) ≡ length bs
  counted [] fits full = absurd fits
  counted (b ∷ []) fits full = through 0 b [] (omega (arith, fits)) ∙ closes (0 + total size b) (omega (arith, fits))
  counted (b ∷ [] ∷ []) fits full = through 0 b [] (omega (arith, fits.0)) ∙ ends_behind (0 + total size b) (omega (arith, full.0))
  counted (b ∷ [] ∷ d ∷ ds) fits full = absurd (omega (arith, fits.0, full.0))
  counted (b ∷ (e ∷ c) ∷ []) fits full =
      let last = counted ((e ∷ c) ∷ []) fits.1 full.1 in
      let one : 0 + size e ≡ size e = omega arith in
      let small : 0 + size e ≤ room = omega (arith, fits.1) in
      through 0 b (e ∷ (c ++ [])) (omega (arith, fits.0)) ∙ opens (0 + total size b) e (c ++ []) (omega (arith, full.0)) ∙ ap suc (ap (λ u. needed_from size room end u (c ++ [])) (sym one) ∙ sym (stays 0 e (c ++ []) small) ∙ last)
  counted (b ∷ (e ∷ c) ∷ d ∷ ds) fits full =
      let last = counted ((e ∷ c) ∷ d ∷ ds) fits.1 full.1 in
      let one : 0 + size e ≡ size e = omega arith in
      let small : 0 + size e ≤ room = omega (arith, fits.1.0) in
      through 0 b (e ∷ (c ++ joined (d ∷ ds))) (omega (arith, fits.0)) ∙ opens (0 + total size b) e (c ++ joined (d ∷ ds)) (omega (arith, full.0)) ∙ ap suc (ap (λ u. needed_from size room end u (c ++ joined (d ∷ ds))) (sym one) ∙ sym (stays 0 e (c ++ joined (d ∷ ds)) small) ∙ last)

  pub needed_is_length : (bs : List (List E)) (es : List E) → IsCut size room end bs es → needed size room end es ≡ length bs
  needed_is_length bs es is = ap (needed_from size room end 0) (sym is.holds) ∙ counted bs is.fits is.full
