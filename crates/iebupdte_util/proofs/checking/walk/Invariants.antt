use Rattle.std.proofs.Common.{◌≡◌, false}
use Rattle.std.specs.Prelude.{IsTrue, Ok}
use Rattle.vol_model.specs.declared.answers.Stop.{Stop}
use Rattle.vol_model.specs.Calls.{Keeps}
use Rattle.vol_model.specs.Runs.{RunCall}
use Rattle.util_steps.specs.Steps.{RunsNothing}
use Rattle.iebupdte_util.specs.Edited.{edited_fits, edited_most, edited_stream, olds_order}
use Rattle.iebupdte_util.proofs.checking.walk.Given as goal

abbrev pub invariant-loop : goal.invariant-loop
invariant-loop g l =
    let m = g.M.Machine.meaning in
    let s = g.M.Machine.status in
    record {
      broken : IsTrue g.M.Machine.tells → (edited_stream l.fn.records (m l.fn.machine).state).broken ≡ (edited_stream l.records (m l.fn.machine).state).broken;
      order : IsTrue g.M.Machine.tells → olds_order l.records.olds (m l.fn.machine).state ≡ olds_order l.fn.records.olds (m l.fn.machine).state;
      fits : IsTrue g.M.Machine.tells → edited_fits l.records (m l.fn.machine).state ≡ edited_fits l.fn.records (m l.fn.machine).state;
      runs : IsTrue g.M.Machine.tells → RunsNothing {T = Unit {0}} {E = Stop} g.M.Machine.tells_prints (m l.fn.machine) (m l.machine) (Ok tt);
      promise : IsTrue g.M.Machine.tells → Keeps (m l.fn.machine).clock (g.M.Machine.promise l.fn.machine) (g.M.Machine.promise l.machine);
      count : (s l.machine).done ≡ (s l.fn.machine).done;
      call : RunCall {T = Unit {0}} false (s l.fn.machine) (s l.machine) (Ok tt);
    }

abbrev pub decreases-loop : goal.decreases-loop
decreases-loop g l = edited_most l.records
