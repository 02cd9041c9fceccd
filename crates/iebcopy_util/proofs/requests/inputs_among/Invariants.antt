use Rattle.std.proofs.Common.{◌≡◌, List, ◌++◌, drop, map}
use Rattle.std.specs.Prelude.{option_map}
use Rattle.card_text.specs.Tree.{trees, value_view}
use Rattle.iebcopy_util.specs.declared.requests.InputDd.{InputDd}
use Rattle.iebcopy_util.specs.Requests.{inputs_among}
use Rattle.iebcopy_util.proofs.requests.inputs_among.Given as goal

-- those so far, and those of the values that are left, are those of all
abbrev pub invariant-loop-item : goal.invariant-loop-item
invariant-loop-item l = inputs_among (trees (map value_view l.items)) ≡ option_map (λ (others : List InputDd). l.inputs.items ++ others) (inputs_among (trees (map value_view (drop l.item-index l.items))))
