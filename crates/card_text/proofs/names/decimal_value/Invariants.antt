use Rattle.std.proofs.Common.{◌≡◌, ◌<◌, ◌^◌, drop, true}
use Rattle.card_text.specs.Names.{decimal_value, has_only_digits}
use Rattle.card_text.proofs.names.decimal_value.Given as goal

abbrev pub invariant-loop-byte : goal.invariant-loop-byte
invariant-loop-byte l =
    (l.number < 10 ^ l.byte-index)
    × (has_only_digits (drop l.byte-index l.digits) ≡ true)
    × (decimal_value l.number (drop l.byte-index l.digits) ≡ decimal_value 0 l.digits)
