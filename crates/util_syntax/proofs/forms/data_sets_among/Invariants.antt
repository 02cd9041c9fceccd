use Rattle.std.proofs.Common.{◌≡◌, List, ◌++◌, drop, map}
use Rattle.std.specs.Prelude.{option_map}
use Rattle.ebcdic_names.specs.declared.names.Dsn.{Dsn}
use Rattle.card_text.specs.Tree.{trees, value_view}
use Rattle.util_syntax.specs.Forms.{data_sets_among}
use Rattle.util_syntax.proofs.forms.data_sets_among.Given as goal

-- the names so far, and those of the values that are left, are those of all
abbrev pub invariant-loop-item : goal.invariant-loop-item
invariant-loop-item l =
    data_sets_among (trees (map value_view l.items)) ≡ option_map (λ (others : List Dsn). l.names.items ++ others) (data_sets_among (trees (map value_view (drop l.item-index l.items))))
