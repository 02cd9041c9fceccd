use Rattle.std.proofs.Common.{◌≡◌, List, ◌++◌, drop, map}
use Rattle.std.specs.Prelude.{option_map}
use Rattle.card_text.specs.Operands.{operand_view}
use Rattle.iebgener_util.specs.declared.requests.Field.{Field}
use Rattle.iebgener_util.specs.Requests.{fields_among}
use Rattle.iebgener_util.proofs.requests.fields_among.Given as goal

-- the fields so far, and those of the operands that are left, are those of all
abbrev pub invariant-loop-operand : goal.invariant-loop-operand
invariant-loop-operand l =
    fields_among (map operand_view l.operands) ≡ option_map (λ (others : List Field). l.fields.items ++ others) (fields_among (map operand_view (drop l.operand-index l.operands)))
