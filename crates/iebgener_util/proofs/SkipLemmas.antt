-- The records that the orders before leave.
use Rattle.std.proofs.Common.{◌≡◌, List, [], ◌∷◌, refl, ◌∙◌, ap}
use Rattle.iebgener_util.specs.declared.orders.Order.{Order}
use Rattle.iebgener_util.specs.declared.requests.Edit.{Edit}
use Rattle.iebgener_util.specs.declared.skipped_groups.SkippedGroups.{SkippedGroups}
use Rattle.iebgener_util.specs.Editing.{behind_groups, behind_orders, behind_part, groups_in}
use Rattle.iebgener_util.specs.SkippedGroups.{left_by}

none_behind : (es : List Edit) → behind_groups es [] ≡ []
none_behind [] = refl
none_behind (e ∷ es) = none_behind es

none_in_part : (es : List Edit) → behind_part es [] ≡ []
none_in_part [] = refl
none_in_part (e ∷ es) = none_behind es

none_in_orders : (os : List Order) → behind_orders os [] ≡ []
none_in_orders [] = refl
none_in_orders (o ∷ os) = ap (behind_orders os) (none_in_part (groups_in o)) ∙ none_in_orders os

-- of no records none is left
pub none_left : (p : SkippedGroups) → left_by p [] ≡ []
unfolding left_by
none_left p = ap (behind_orders p.orders.now) (none_behind p.groups.now) ∙ none_in_orders p.orders.now
