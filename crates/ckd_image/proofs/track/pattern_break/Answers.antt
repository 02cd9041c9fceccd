-- The first break of what is left is at this place, or further on.
use Rattle.std.proofs.Common.{◌≡◌, ◌+◌, sym, ◌∙◌, arith}
use Rattle.ckd_image.proofs.Patterns.{break_from, break_from-short, break_from-apart, break_from-free, break_from-same, break_from-end}
use Rattle.ckd_image.proofs.track.pattern_break.Goals as goal
use Rattle.ckd_image.proofs.track.pattern_break.Goals.{in-None, in-Some+else-bytes-at}

pub returns-then-at-bytes-clause-place : goal.returns-then-at-bytes-clause-place
returns-then-at-bytes-clause-place c = sym (c.loop-at.invariant.place ∙ break_from-short c.loop-at.at c.args.pattern.now c.args.bytes.now (omega arith) (omega arith))

pub returns-then-bytes-at-clause-place : goal.returns-then-bytes-at-clause-place
returns-then-bytes-at-clause-place c = sym (c.loop-at.invariant.place ∙ break_from-apart c.loop-at.at c.in-Some.expected c.args.pattern.now c.args.bytes.now (omega arith) (omega arith) c.in-Some.is c.if-bytes-at.true)

pub loop-at-preserved : goal.loop-at-preserved
loop-at-preserved c =
    let further : break_from c.loop-at.at c.args.pattern.now c.args.bytes.now ≡ break_from (c.loop-at.at + 1) c.args.pattern.now c.args.bytes.now =
    elim c.match-judged.branch [
      | in-None w ↦ break_from-free c.loop-at.at c.args.pattern.now c.args.bytes.now (omega arith) (omega arith) w.in-None.is
      | in-Some+else-bytes-at w ↦ break_from-same c.loop-at.at w.in-Some.expected c.args.pattern.now c.args.bytes.now (omega arith) (omega arith) w.in-Some.is w.if-bytes-at.false
    ] in
    record { place = c.loop-at.invariant.place ∙ further; room = omega arith }

pub returns-clause-place : goal.returns-clause-place
returns-clause-place c = sym (c.loop-at.invariant.place ∙ break_from-end c.loop-at.at c.args.pattern.now c.args.bytes.now (omega arith))
