use Rattle.std.proofs.Common.{◌≤◌, false}
use Rattle.std.specs.Prelude.{IsTrue, Ok}
use Rattle.vol_model.specs.Calls.{Keeps}
use Rattle.vol_model.specs.Runs.{RunCall}
use Rattle.util_steps.proofs.ItemLemmas.{ItemsDone}
use Rattle.util_steps.proofs.items.run_items.Given as goal

abbrev pub invariant-loop-code : goal.invariant-loop-code
invariant-loop-code g l =
    let m = g.M.Machine.meaning in
    let s = g.M.Machine.status in
    let items = g.W.Items.items in
    record {
      so_far : IsTrue g.M.Machine.tells → ItemsDone g.M.Machine.tells_prints (items l.fn.work (m l.fn.machine).state) (items l.work (m l.machine).state) l.highest (m l.fn.machine) (m l.machine) (s l.fn.machine).done (s l.machine).done;
      later : IsTrue g.M.Machine.tells → (m l.fn.machine).clock ≤ (m l.machine).clock;
      promise : IsTrue g.M.Machine.tells → Keeps (m l.fn.machine).clock (g.M.Machine.promise l.fn.machine) (g.M.Machine.promise l.machine);
      small : l.highest ≤ 16;
      call : RunCall {T = Unit {0}} false (s l.fn.machine) (s l.machine) (Ok tt);
    }

abbrev pub decreases-loop-code : goal.decreases-loop-code
decreases-loop-code g l = g.W.Items.most l.work
