use Rattle.record_files.proofs.SegmentLemmas.{closed_at_end, open_at_end}
use Rattle.record_files.proofs.block_reading.is_open.Goals as goal

pub returns-in-Ok : goal.returns-in-Ok
returns-in-Ok c = closed_at_end c.args.joiner.now c.in-Some.joiner c.in-Some.is c.in-Ok.ensures.ok

pub returns-in-Err : goal.returns-in-Err
returns-in-Err c = open_at_end c.args.joiner.now c.in-Some.joiner c.in-Err.field-0 c.in-Some.is c.in-Err.ensures.err
