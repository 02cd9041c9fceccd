-- A walk over slots up to the first that breaks a rule.
use Rattle.std.proofs.Common.{◌≡◌, ℕ, ◌+◌, ◌<◌, ◌≤◌, List, length, drop, get_or, Option, Some, None, ap, ◌∙◌}
use Rattle.std.proofs.lemmas.List.{drop_all, drop_more}
use Rattle.std.specs.List.{cons_option, enumerate_from, filter_map, slice_get}
use Rattle.pack_spec.specs.declared.MountErr.{MountErr}
use Rattle.pack_spec.specs.declared.slot.VtocSlot.{VtocSlot}

-- the first rule that the slots from this one on break
abbrev pub first_from : (ℕ × VtocSlot → Option MountErr) → List VtocSlot → ℕ → Option MountErr
first_from rule ss i = slice_get (filter_map rule (enumerate_from i (drop i ss))) 0

module _ (rule : ℕ × VtocSlot → Option MountErr) (ss : List VtocSlot) (i : ℕ) (d : VtocSlot) where
  -- this one and those after it
  front : i < length ss → first_from rule ss i ≡ slice_get (cons_option (rule (i, get_or ss i d)) (filter_map rule (enumerate_from (i + 1) (drop (i + 1) ss)))) 0
  front below = ap (λ (xs : List VtocSlot). slice_get (filter_map rule (enumerate_from i xs)) 0) (drop_more ss i d below)

  -- it breaks none
  pub first_from-none : i < length ss → rule (i, get_or ss i d) ≡ None → first_from rule ss i ≡ first_from rule ss (i + 1)
  first_from-none below none =
      front below ∙ ap (λ (o : Option MountErr). slice_get (cons_option o (filter_map rule (enumerate_from (i + 1) (drop (i + 1) ss)))) 0) none

  -- it breaks one
  pub first_from-some : (e : MountErr) → i < length ss → rule (i, get_or ss i d) ≡ Some e → first_from rule ss i ≡ Some e
  first_from-some e below some =
      front below ∙ ap (λ (o : Option MountErr). slice_get (cons_option o (filter_map rule (enumerate_from (i + 1) (drop (i + 1) ss)))) 0) some

-- no slot is left
pub first_from-end : (rule : ℕ × VtocSlot → Option MountErr) (ss : List VtocSlot) (i : ℕ) → length ss ≤ i → first_from rule ss i ≡ None
first_from-end rule ss i past = ap (λ (xs : List VtocSlot). slice_get (filter_map rule (enumerate_from i xs)) 0) (drop_all i ss past)
