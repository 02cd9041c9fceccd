use Rattle.std.proofs.Common.{◌≡◌, ◌++◌, length, map}
use Rattle.util_syntax.specs.Items.{item_view, items_within, items_of}
use Rattle.util_syntax.proofs.items.statements.Given as goal

abbrev pub decreases-statements : goal.decreases-statements
decreases-statements l = length l.rest

abbrev pub invariant-statements : goal.invariant-statements
invariant-statements l = map item_view l.items.items ++ items_within (length l.rest) l.rest ≡ items_of l.cards
