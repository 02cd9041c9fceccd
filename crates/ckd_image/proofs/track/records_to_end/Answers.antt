-- What is left ends, breaks, or begins with a record.
use Rattle.std.proofs.Common.{◌≡◌, ◌+◌, ◌-◌, suc, true, false, drop, Some, sym, ap, ◌∙◌, arith}
use Rattle.std.proofs.lemmas.List.{take_rest}
use Rattle.ckd_image.specs.Break.{break_to_end}
use Rattle.ckd_image.specs.Reading.{records_to_end, is_at_end}
use Rattle.ckd_image.proofs.Steps.{Passed-ok, Passed-err, StandsAt-more, to_end-record}
use Rattle.ckd_image.proofs.GrammarWalk.{break_end_ended, to_end_ended, break_end_broken, to_end_broken, break_end_zero, to_end_zero}
use Rattle.ckd_image.proofs.track.records_to_end.Goals as goal

pub returns-then-is_at_end-clause-reading : goal.returns-then-is_at_end-clause-reading
returns-then-is_at_end-clause-reading c =
    let rest = drop c.loop-passed.at c.args.bytes.now in
    let marker : is_at_end rest ≡ true = sym (rw (take_rest c.args.bytes.now c.loop-passed.at) at c.if-is_at_end.ensures) in
    let ends = break_end_ended (255 - c.loop-passed.passed) (c.loop-passed.passed + 1) rest marker in
    let read = to_end_ended (255 - c.loop-passed.passed) (c.loop-passed.passed + 1) rest marker in
    Passed-ok c.loop-passed.invariant.reading ends read

pub returns-in-Err-clause-reading : goal.returns-in-Err-clause-reading
returns-in-Err-clause-reading c =
    let n = c.loop-passed.passed in
    let rest = drop c.loop-passed.at c.args.bytes.now in
    let left : suc (255 - (n + 1)) ≡ 255 - n = omega arith in
    let no_marker : is_at_end rest ≡ false = sym (rw (take_rest c.args.bytes.now c.loop-passed.at) at c.if-is_at_end.ensures) in
    let w = rw (take_rest c.args.bytes.now c.loop-passed.at) at c.in-Err.ensures.broken in
    let breaks = rw left at (break_end_broken (255 - (n + 1)) (n + 1) c.in-Err.inside rest no_marker w.0) in
    let read = to_end_broken (255 - n) (n + 1) rest no_marker w.1 in
    Passed-err c.loop-passed.invariant.reading breaks read

pub loop-passed-preserved : goal.loop-passed-preserved
loop-passed-preserved c =
    let n = c.loop-passed.passed in
    let rest = drop c.loop-passed.at c.args.bytes.now in
    let no_marker : is_at_end rest ≡ false = sym (rw (take_rest c.args.bytes.now c.loop-passed.at) at c.if-is_at_end.ensures) in
    let w = rw (take_rest c.args.bytes.now c.loop-passed.at) at c.in-Ok.ensures.whole in
    StandsAt-more break_to_end records_to_end 255 n c.loop-passed.at c.in-Ok.len c.args.bytes.now c.loop-passed-test.true c.loop-passed.invariant w.3 c.in-Ok.ensures.most
    (λ left. rw w.2 (to_end-record left (n + 1) rest no_marker w.0 w.1))

pub returns-then-is_at_end-2-clause-reading : goal.returns-then-is_at_end-2-clause-reading
returns-then-is_at_end-2-clause-reading c =
    let n = c.loop-passed.passed in
    let all : n ≡ 255 = omega arith in
    let rest = drop c.loop-passed.at c.args.bytes.now in
    let marker : is_at_end rest ≡ true = sym (rw (take_rest c.args.bytes.now c.loop-passed.at) at c.if-is_at_end-2.ensures) in
    let ends = break_end_ended (255 - n) (n + 1) rest marker in
    let read = to_end_ended (255 - n) (n + 1) rest marker in
    let reading = Passed-ok c.loop-passed.invariant.reading ends read in
    (reading.0, reading.1 ∙ ap Some all)

pub returns-else-is_at_end-2-clause-reading : goal.returns-else-is_at_end-2-clause-reading
returns-else-is_at_end-2-clause-reading c =
    let n = c.loop-passed.passed in
    let none_left : 0 ≡ 255 - n = omega arith in
    let rest = drop c.loop-passed.at c.args.bytes.now in
    let no_marker : is_at_end rest ≡ false = sym (rw (take_rest c.args.bytes.now c.loop-passed.at) at c.if-is_at_end-2.ensures) in
    let count = rw (take_rest c.args.bytes.now c.loop-passed.at) at c.marker_len.ensures.count in
    let breaks = rw none_left at (break_end_zero (n + 1) rest no_marker) in
    let read = rw none_left at (to_end_zero (n + 1) rest no_marker) in
    Passed-err c.loop-passed.invariant.reading (breaks ∙ ap Some (sym count)) read
