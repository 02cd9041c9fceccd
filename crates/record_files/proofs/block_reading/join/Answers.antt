use Rattle.std.proofs.Common.{ℕ, List, sym, ◌∙◌, ap}
use Rattle.std.specs.Prelude.{Option, Some, None}
use Rattle.record_blocks.specs.declared.joiner.Joiner.{Joiner}
use Rattle.record_blocks.specs.declared.joiner.JoinErr.TheVariants.{BadSegment}
use Rattle.record_blocks.specs.Blocks.{piece}
use Rattle.record_blocks.specs.Reading.{with_segment}
use Rattle.record_files.specs.Joined.{records_left}
use Rattle.record_files.specs.Streams.{with_record}
use Rattle.record_files.proofs.SegmentLemmas.{joins_fault, joins_part, joins_whole}
use Rattle.record_files.proofs.block_reading.join.Goals as goal

pub returns-in_default : goal.returns-in_default
returns-in_default c r =
    let s = piece c.args.code c.args.bytes.now in
    ap (λ (o : Option Joiner). records_left o (with_segment s r)) c.in_default.is
    ∙ ap (λ (l : List ℕ). with_record l (records_left None r)) (sym c.in_ok-keep.ensures)
    ∙ sym (ap (λ (o : Option Joiner). with_record c.keep.new.rec.items (records_left o r)) c.in_default.is)

pub returns-in_ok-keep-in-Ok-true : goal.returns-in_ok-keep-in-Ok-true
returns-in_ok-keep-in-Ok-true c r =
    let s = piece c.args.code c.args.bytes.now in
    let takes = rw c.in-Ok-true.field-0-test at c.in-Ok-true.ensures.takes in
    ap (λ (o : Option Joiner). records_left o (with_segment s r)) c.in-Some.is ∙ joins_whole c.in-Some.joiner c.push.new.self s r takes
    ∙ ap (λ (l : List ℕ). with_record l (records_left (Some c.push.new.self) r)) (sym c.whole.ensures ∙ sym c.in_ok-keep-in-Ok-true.ensures)

pub returns-in-Ok-false : goal.returns-in-Ok-false
returns-in-Ok-false c r =
    let s = piece c.args.code c.args.bytes.now in
    let takes = rw c.in-Ok-false.field-0-test at c.in-Ok-false.ensures.takes in
    ap (λ (o : Option Joiner). records_left o (with_segment s r)) c.in-Some.is ∙ joins_part c.in-Some.joiner c.push.new.self s r takes

pub returns-in-Err-BadSegment : goal.returns-in-Err-BadSegment
returns-in-Err-BadSegment c r =
    let s = piece c.args.code c.args.bytes.now in
    ap (λ (o : Option Joiner). records_left o (with_segment s r)) c.in-Some.is
    ∙ joins_fault c.in-Some.joiner s r BadSegment (rw c.in-Err-BadSegment.field-0-is at c.in-Err-BadSegment.ensures.err)

pub returns-in-Err-TooLong : goal.returns-in-Err-TooLong
returns-in-Err-TooLong c r =
    let s = piece c.args.code c.args.bytes.now in
    ap (λ (o : Option Joiner). records_left o (with_segment s r)) c.in-Some.is
    ∙ joins_fault c.in-Some.joiner s r _ (rw c.in-Err-TooLong.field-0-is at c.in-Err-TooLong.ensures.err)
