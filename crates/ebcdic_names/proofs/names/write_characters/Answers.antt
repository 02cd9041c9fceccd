use Rattle.std.proofs.Common.{◌∙◌, arith, rules}
use Rattle.std.proofs.Output.{has_written_append, has_written_of_eq}
use Rattle.ebcdic_names.proofs.DisplayLemmas.{one_shown, all_shown}
use Rattle.ebcdic_names.proofs.names.write_characters.Goals as goal

pub loop-e-preserved : goal.loop-e-preserved
loop-e-preserved g c = λ plain.
    let text = one_shown c.without_blanks-e-items.result.now c.loop-e.e-index c.from.result (omega (arith, c.loop-e-test.true)) (c.from.ensures ∙ c.to_ascii.ensures) in
    has_written_of_eq _ _ _ _ _ text (has_written_append _ _ _ _ _ _ (c.loop-e.invariant plain) (search rules))

pub returns : goal.returns
returns g c = λ plain _.
    let text = all_shown c.args.bytes.now c.without_blanks-e-items.result.now c.loop-e.e-index c.without_blanks-e-items.ensures.name (omega (arith, c.loop-e-test.false)) in
    has_written_of_eq _ _ _ _ _ text (c.loop-e.invariant plain)
