use Rattle.std.proofs.Common.{take, ◌+◌, subst, sym, ℕ}
use Rattle.hall_core.specs.Replay.{IsPendingFrom}
use Rattle.hall_core.proofs.ReplayLemmas.{pending_step, step_read}
use Rattle.hall_core.proofs.mem_hall.replay.pending_from.Goals as goal

pub loop-i-preserved : goal.loop-i-preserved
loop-i-preserved c =
    let steps = c.args.steps.now in
    subst (λ (n : ℕ). IsPendingFrom (take (c.loop-i.i + 1) steps) n) (sym c.pending_after-from.ensures)
    (pending_step steps c.loop-i.i c.loop-i.from _ c.loop-i-test.true (step_read steps c.loop-i.i _ c.loop-i-test.true) c.loop-i.invariant)
