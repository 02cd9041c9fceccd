-- What one more entry does to the least name that is kept, and to whether all fit a group.
use Rattle.std.proofs.Common.{◌≡◌, ◌<◌, ℕ, suc, Bool, true, false, cond, List, [], ◌∷◌, length, drop, get_or, refl, sym, ap, ◌∙◌}
use Rattle.std.specs.Prelude.{◌+◌, ◌&&◌, nat_le, not}
use Rattle.std.specs.List.{list_all}
use Rattle.std.proofs.lemmas.List.{drop_more}
use Rattle.chain_spec.specs.Kept.{bound_after, kept_from}
use Rattle.catalog_blocks.specs.declared.blocks.CatEntry.{CatEntry}
use Rattle.catalog_blocks.specs.Blocks.{name_number}
use Rattle.catalog_blocks.specs.Trees.{fits_group}

-- the entry at an index, and those after it
pub at_entry : (i : ℕ) (es : List CatEntry) (e : CatEntry) → i < length es → e ≡ get_or es i e → drop i es ≡ e ∷ drop (i + 1) es
at_entry i es e within item = drop_more es i e within ∙ ap (λ (x : CatEntry). x ∷ drop (i + 1) es) (sym item)

pub bound_step : (t : ℕ) (e : CatEntry) (es : List CatEntry) → bound_after name_number t (e ∷ es) ≡ bound_after name_number (bound_after name_number t (e ∷ [])) es
bound_step t e es = on (nat_le t (name_number e))
  where
    on : (b : Bool) → cond b (bound_after name_number (suc (name_number e)) es) (bound_after name_number t es) ≡ bound_after name_number (cond b (suc (name_number e)) t) es
    on true = refl
    on false = refl

module _ (t : ℕ) (e : CatEntry) (es : List CatEntry) where
  -- whether those that are kept fit, where they are kept from this number on
  abbrev fit_from : ℕ → Bool
  fit_from u = list_all fits_group (kept_from name_number u es)

  first_of : list_all fits_group (kept_from name_number t (e ∷ es)) ≡ cond (nat_le t (name_number e)) (fits_group e && fit_from (suc (name_number e))) (fit_from t)
  first_of = on (nat_le t (name_number e))
    where
      on : (b : Bool) → list_all fits_group (cond b (e ∷ kept_from name_number (suc (name_number e)) es) (kept_from name_number t es)) ≡ cond b (fits_group e && fit_from (suc (name_number e))) (fit_from t)
      on true = refl
      on false = refl

  -- an entry that fits a group, or isn't kept
  pub fits_step : (nat_le t (name_number e) && not (fits_group e)) ≡ false → list_all fits_group (kept_from name_number t (e ∷ es)) ≡ fit_from (bound_after name_number t (e ∷ []))
  fits_step fits = first_of ∙ on (nat_le t (name_number e)) (fits_group e) fits
    where
      on : (b f : Bool) → (b && not f) ≡ false → cond b (f && fit_from (suc (name_number e))) (fit_from t) ≡ fit_from (cond b (suc (name_number e)) t)
      on true true h = refl
      on true false h = cc
      on false f h = refl

  -- one that is kept and doesn't
  pub breaks_step : (nat_le t (name_number e) && not (fits_group e)) ≡ true → list_all fits_group (kept_from name_number t (e ∷ es)) ≡ false
  breaks_step breaks = first_of ∙ on (nat_le t (name_number e)) (fits_group e) breaks
    where
      on : (b f : Bool) → (b && not f) ≡ true → cond b (f && fit_from (suc (name_number e))) (fit_from t) ≡ false
      on true true h = cc
      on true false h = refl
      on false f h = cc
