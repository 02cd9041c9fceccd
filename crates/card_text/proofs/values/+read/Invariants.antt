use Rattle.std.proofs.Common.{◌≡◌, ◌+◌, ◌*◌, [], map, length}
use Rattle.std.specs.List.{slice_split}
use Rattle.card_text.specs.Nesting.{is_separator}
use Rattle.card_text.specs.Tree.{value_view}
use Rattle.card_text.specs.Values.{items, value}
use Rattle.card_text.proofs.values.+read.Given as goal

abbrev pub decreases-read_value : goal.decreases-read_value
decreases-read_value l = 4 * l.levels + 1

abbrev pub decreases-list : goal.decreases-list
decreases-list l = 4 * l.levels

abbrev pub decreases-item : goal.decreases-item
decreases-item l = 4 * l.levels + 2

abbrev pub decreases-items : goal.decreases-items
decreases-items l = 4 * l.levels + 3

abbrev pub decreases-items-pieces : goal.decreases-items-pieces
decreases-items-pieces l = length l.rest

-- what is found and what is still to read give what the whole text gives
abbrev pub invariant-items-pieces : goal.invariant-items-pieces
invariant-items-pieces l =
    items (value l.levels l.depth) (map value_view l.found.items) (slice_split (is_separator l.depth) l.rest)
    ≡ items (value l.levels l.depth) [] (slice_split (is_separator l.depth) l.fn.text)
