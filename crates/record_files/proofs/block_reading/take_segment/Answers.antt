use Rattle.std.proofs.Common.{refl, ◌∙◌}
use Rattle.record_blocks.specs.Blocks.{piece}
use Rattle.record_files.specs.Reader.{block_stream, most_left}
use Rattle.record_files.proofs.ReaderLemmas.{at_mark, at_none, segment_broken, segment_taken}
use Rattle.record_files.proofs.block_reading.take_segment.Goals as goal

pub returns-in_default : goal.returns-in_default
unfolding block_stream most_left
returns-in_default c = (at_none c.args.reader.now c.in_default.is, λ shelf. refl, refl)

pub returns-in-Ok-None : goal.returns-in-Ok-None
unfolding block_stream most_left
returns-in-Ok-None c =
    let gives = rw (c.in-Ok-None.field-0-is, c.payload.ensures) at c.in-Ok-None.ensures.gives in
    (at_mark c.args.reader.now c.in-Some.mark c.in-Some.is ∙ gives.0, λ shelf. refl, refl)

pub returns-in-Err : goal.returns-in-Err
unfolding most_left
returns-in-Err c =
    let gives = rw c.payload.ensures at c.in-Err.ensures.gives in
    segment_broken c.args.reader.now c.in-Err.field-0 (at_mark c.args.reader.now c.in-Some.mark c.in-Some.is ∙ gives.0)

pub returns : goal.returns
returns c =
    let gives = rw (c.in-Ok-Some.field-0-is, c.payload.ensures) at c.in-Ok-Some.ensures.gives in
    segment_taken c.args.reader.now _ (record { set = refl; within = refl; format = refl; buf = refl; place = refl }) c.in-Some.mark c.next.new.self (piece c.next.new.self.code c.in-Ok-Some.bytes.now) c.in_ok-step.step c.in-Some.is refl
    gives (rw c.code.ensures.code at c.in_ok-step.ensures)
