use Rattle.std.proofs.Common.{◌-◌, arith, ap, ◌∙◌, Some}
use Rattle.set_records.proofs.HeldLengths.{held_lengths, lengths_within, other_lengths}
use Rattle.set_records.proofs.rewriting.has_record.Goals as goal

pub returns-then-from-len-clause-lengths : goal.returns-then-from-len-clause-lengths
returns-then-from-len-clause-lengths c = λ is. held_lengths c.args.keys c.args.contents c.args.buf.now.records (c.args.r - 1) (c.are_lengths.ensures ∙ ap Some is)

pub returns-then-from-len-clause-other : goal.returns-then-from-len-clause-other
returns-then-from-len-clause-other c = λ is has. other_lengths c.args.keys c.args.contents c.args.buf.now.records (c.args.r - 1) (c.are_lengths.ensures ∙ ap Some is) has

pub returns-else-from-len-clause-other : goal.returns-else-from-len-clause-other
returns-else-from-len-clause-other c = λ is has.
    let low = lengths_within c.args.buf.now.records (c.args.r - 1) c.args.keys c.args.contents has in
    omega (arith, low)
