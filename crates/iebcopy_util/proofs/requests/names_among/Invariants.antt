use Rattle.std.proofs.Common.{◌≡◌, List, ◌++◌, drop, map}
use Rattle.std.specs.Prelude.{option_map}
use Rattle.card_text.specs.Tree.{trees, value_view}
use Rattle.ebcdic_names.specs.declared.names.Name8.{Name8}
use Rattle.iebcopy_util.specs.Requests.{names_among}
use Rattle.iebcopy_util.proofs.requests.names_among.Given as goal

-- those so far, and those of the values that are left, are those of all
abbrev pub invariant-loop-item : goal.invariant-loop-item
invariant-loop-item l = names_among (trees (map value_view l.items)) ≡ option_map (λ (others : List Name8). l.names.items ++ others) (names_among (trees (map value_view (drop l.item-index l.items))))
