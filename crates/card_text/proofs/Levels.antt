-- Lists, one level at a time.
use Rattle.std.proofs.Common.{◌≡◌, ℕ, zero, suc, ◌+◌, ◌-◌, ◌<◌, refl, ap, arith, List, [], None, option_and_then}
use Rattle.std.specs.List.{slice_split}
use Rattle.card_text.specs.declared.nesting.Mark.{Mark}
use Rattle.card_text.specs.Nesting.{is_separator}
use Rattle.card_text.specs.Values.{inner, items, lists, value}

-- where no level is left there is no list
pub lists_none : (levels depth : ℕ) (text : List Mark) → levels ≡ 0 → lists levels depth text ≡ None
unfolding lists
lists_none zero depth text e = refl
lists_none (suc n) depth text e = absurd (omega arith)

-- a list is what is in the parentheses around it, one level down
pub lists_some : (levels depth : ℕ) (text : List Mark) → 0 < levels
    → lists levels depth text ≡ option_and_then (λ found. items (value (levels - 1) (depth + 1)) [] (slice_split (is_separator (depth + 1)) found)) (inner depth text)
unfolding lists
lists_some levels depth text h = let next : levels ≡ suc (levels - 1) = omega arith in ap (λ n. lists n depth text) next

pub ruleset levels = (lists_none, lists_some)
