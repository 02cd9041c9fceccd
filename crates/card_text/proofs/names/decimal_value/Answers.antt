use Rattle.std.proofs.Common.{◌<◌, arith}
use Rattle.card_text.proofs.Digits.{small_number}
use Rattle.card_text.proofs.names.decimal_value.Goals as goal

pub overflow_mul-number : goal.overflow_mul-number
overflow_mul-number c =
    let short : c.loop-byte.byte-index < 8 = omega (arith, c.requires.short, c.loop-byte-test.true) in
    let small = small_number c.loop-byte.byte-index c.loop-byte.number short c.loop-byte.invariant.0 in
    grind (arith, small)

pub overflow_add-number : goal.overflow_add-number
overflow_add-number c =
    let short : c.loop-byte.byte-index < 8 = omega (arith, c.requires.short, c.loop-byte-test.true) in
    let small = small_number c.loop-byte.byte-index c.loop-byte.number short c.loop-byte.invariant.0 in
    grind (arith, small)
