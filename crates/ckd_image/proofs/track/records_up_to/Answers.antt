-- What is left has an end marker too early, breaks, begins with a record, or stands after the last.
use Rattle.std.proofs.Common.{◌≡◌, ◌+◌, ◌-◌, ◌<◌, ◌≤◌, suc, true, false, length, drop, Some, sym, ap, ◌∙◌, arith}
use Rattle.std.proofs.lemmas.List.{take_rest, length-drop}
use Rattle.ckd_image.specs.Break.{break_up_to}
use Rattle.ckd_image.specs.Reading.{records_up_to, is_at_end}
use Rattle.ckd_image.proofs.Steps.{Passed-ok, Passed-err, StandsAt-more, up_to-record}
use Rattle.ckd_image.proofs.GrammarWalk.{break_up_ended, up_to_ended, break_up_broken, up_to_broken, break_up_zero, up_to_zero, break_up_short, up_to_short}
use Rattle.ckd_image.proofs.track.records_up_to.Goals as goal

pub returns-then-is_at_end-clause-reading : goal.returns-then-is_at_end-clause-reading
returns-then-is_at_end-clause-reading c =
    let n = c.loop-passed.passed in
    let rest = drop c.loop-passed.at c.args.bytes.now in
    let left : suc (c.args.last - (n + 1)) ≡ c.args.last - n = omega arith in
    let marker : is_at_end rest ≡ true = sym (rw (take_rest c.args.bytes.now c.loop-passed.at) at c.if-is_at_end.ensures) in
    let breaks = rw left at (break_up_ended (c.args.last - (n + 1)) (n + 1) rest marker) in
    let read = rw left at (up_to_ended (c.args.last - (n + 1)) (n + 1) rest marker) in
    Passed-err c.loop-passed.invariant.reading (breaks ∙ ap Some (sym c.marker_in_count.ensures)) read

pub returns-in-Err-clause-reading : goal.returns-in-Err-clause-reading
returns-in-Err-clause-reading c =
    let n = c.loop-passed.passed in
    let rest = drop c.loop-passed.at c.args.bytes.now in
    let left : suc (c.args.last - (n + 1)) ≡ c.args.last - n = omega arith in
    let no_marker : is_at_end rest ≡ false = sym (rw (take_rest c.args.bytes.now c.loop-passed.at) at c.if-is_at_end.ensures) in
    let w = rw (take_rest c.args.bytes.now c.loop-passed.at) at c.in-Err.ensures.broken in
    let breaks = rw left at (break_up_broken (c.args.last - (n + 1)) (n + 1) c.in-Err.inside rest no_marker w.0) in
    let read = rw left at (up_to_broken (c.args.last - (n + 1)) (n + 1) rest w.1) in
    Passed-err c.loop-passed.invariant.reading breaks read

pub loop-passed-preserved : goal.loop-passed-preserved
loop-passed-preserved c =
    let n = c.loop-passed.passed in
    let rest = drop c.loop-passed.at c.args.bytes.now in
    let no_marker : is_at_end rest ≡ false = sym (rw (take_rest c.args.bytes.now c.loop-passed.at) at c.if-is_at_end.ensures) in
    let w = rw (take_rest c.args.bytes.now c.loop-passed.at) at c.in-Ok.ensures.whole in
    StandsAt-more break_up_to records_up_to c.args.last n c.loop-passed.at c.in-Ok.len c.args.bytes.now c.loop-passed-test.true c.loop-passed.invariant w.3 c.in-Ok.ensures.most
    (λ left. rw w.2 (up_to-record left (n + 1) rest no_marker w.0 w.1))

pub returns-then-bytes-at-ge8-clause-reading : goal.returns-then-bytes-at-ge8-clause-reading
returns-then-bytes-at-ge8-clause-reading c =
    let n = c.loop-passed.passed in
    let all : n ≡ c.args.last = omega arith in
    let none_left : 0 ≡ c.args.last - n = omega arith in
    let rest = drop c.loop-passed.at c.args.bytes.now in
    let room : 8 ≤ length rest = omega (arith, length-drop c.loop-passed.at c.args.bytes.now) in
    let ends = rw none_left at (break_up_zero (n + 1) rest room) in
    let read = rw none_left at (up_to_zero (n + 1) rest room) in
    let reading = Passed-ok c.loop-passed.invariant.reading ends read in
    (reading.0, reading.1 ∙ ap Some all)

pub returns-else-bytes-at-ge8-clause-reading : goal.returns-else-bytes-at-ge8-clause-reading
returns-else-bytes-at-ge8-clause-reading c =
    let n = c.loop-passed.passed in
    let none_left : 0 ≡ c.args.last - n = omega arith in
    let rest = drop c.loop-passed.at c.args.bytes.now in
    let length_rest = length-drop c.loop-passed.at c.args.bytes.now in
    let whole : c.loop-passed.at + length rest ≡ length c.args.bytes.now = omega (arith, length_rest) in
    let short : length rest < 8 = omega (arith, length_rest) in
    let breaks = rw none_left at (break_up_short (n + 1) rest short) in
    let read = rw none_left at (up_to_short (n + 1) rest short) in
    let reading = Passed-err c.loop-passed.invariant.reading breaks read in
    (reading.0 ∙ ap Some whole, reading.1)
