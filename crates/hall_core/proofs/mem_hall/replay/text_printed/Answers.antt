use Rattle.hall_core.proofs.ReplayLemmas.{text_step, step_read}
use Rattle.hall_core.proofs.mem_hall.replay.text_printed.Goals as goal

pub loop-step-preserved : goal.loop-step-preserved
loop-step-preserved c =
    let steps = c.args.steps.now in
    text_step c.args.text.now steps c.loop-step.step-index _ c.loop-step.out.items c.add_printed.new.out.items c.loop-step-test.true (step_read steps c.loop-step.step-index _ c.loop-step-test.true) c.loop-step.invariant c.in_ok-add_printed.ensures
