use Rattle.std.proofs.Common.{◌≡◌, ◌≤◌}
use Rattle.std.specs.Prelude.{IsTrue, Ok}
use Rattle.vol_model.specs.declared.answers.Stop.{Stop}
use Rattle.vol_model.specs.Calls.{Keeps}
use Rattle.vol_model.specs.Runs.{RunCall}
use Rattle.util_steps.specs.Steps.{RunsNothing}
use Rattle.iebupdte_util.specs.Edited.{edited_fits, edited_most, edited_stream, olds_order}
use Rattle.iebupdte_util.proofs.edited.EditedRecords.advance.Given as goal

abbrev pub invariant-loop-self : goal.invariant-loop-self
invariant-loop-self g l =
    let m = g.M.Machine.meaning in
    let s = g.M.Machine.status in
    record {
      gives : IsTrue g.M.Machine.tells → edited_stream l.fn.self (m l.fn.machine).state ≡ edited_stream l.self (m l.fn.machine).state;
      order : IsTrue g.M.Machine.tells → olds_order l.self.olds (m l.fn.machine).state ≡ olds_order l.fn.self.olds (m l.fn.machine).state;
      fits : IsTrue g.M.Machine.tells → edited_fits l.self (m l.fn.machine).state ≡ edited_fits l.fn.self (m l.fn.machine).state;
      fewer : edited_most l.self ≤ edited_most l.fn.self;
      runs : IsTrue g.M.Machine.tells → RunsNothing {T = Unit {0}} {E = Stop} g.M.Machine.tells_prints (m l.fn.machine) (m l.machine) (Ok tt);
      writer : IsTrue g.M.Machine.tells → g.M.Machine.writer l.machine ≡ g.M.Machine.writer l.fn.machine;
      promise : IsTrue g.M.Machine.tells → Keeps (m l.fn.machine).clock (g.M.Machine.promise l.fn.machine) (g.M.Machine.promise l.machine);
      count : (s l.machine).done ≡ (s l.fn.machine).done;
      call : RunCall {T = Unit {0}} (s l.fn.machine).is_open (s l.fn.machine) (s l.machine) (Ok tt);
    }

abbrev pub decreases-loop-self : goal.decreases-loop-self
decreases-loop-self g l = edited_most l.self
