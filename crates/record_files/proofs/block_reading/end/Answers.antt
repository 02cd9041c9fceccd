use Rattle.std.proofs.Common.{sym, ◌∙◌}
use Rattle.record_files.proofs.SegmentLemmas.{end_open, end_whole}
use Rattle.record_files.proofs.block_reading.end.Goals as goal

pub returns-then-is_open-clause-gives : goal.returns-then-is_open-clause-gives
returns-then-is_open-clause-gives c rec others = end_open c.args.joiner.now (sym c.is_open.ensures ∙ c.if-is_open.true)

pub returns-else-is_open-clause-gives : goal.returns-else-is_open-clause-gives
returns-else-is_open-clause-gives c rec others = end_whole c.args.joiner.now (sym c.is_open.ensures ∙ c.if-is_open.false)
