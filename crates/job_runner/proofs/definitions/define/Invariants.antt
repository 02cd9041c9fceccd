use Rattle.std.proofs.Common.{◌≤◌, false, length}
use Rattle.std.specs.Prelude.{IsTrue, Ok}
use Rattle.vol_model.specs.Calls.{Keeps}
use Rattle.vol_model.specs.Runs.{RunCall}
use Rattle.job_runner.specs.DataSets.{definitions}
use Rattle.job_runner.proofs.DefinitionLemmas.{DefinedSoFar}
use Rattle.job_runner.proofs.definitions.define.Given as goal

abbrev pub invariant-loop-parts : goal.invariant-loop-parts
invariant-loop-parts g l =
    let m = g.M.Machine.meaning in
    let s = g.M.Machine.status in
    record {
      so_far : IsTrue g.M.Machine.tells → DefinedSoFar g.M.Machine.tells_prints (definitions l.date l.dds (m l.fn.machine).state) (definitions l.date l.rest (m l.machine).state) l.defined (m l.fn.machine) (m l.machine) (s l.fn.machine).done (s l.machine).done;
      later : IsTrue g.M.Machine.tells → (m l.fn.machine).clock ≤ (m l.machine).clock;
      promise : IsTrue g.M.Machine.tells → Keeps (m l.fn.machine).clock (g.M.Machine.promise l.fn.machine) (g.M.Machine.promise l.machine);
      call : RunCall {T = Unit {0}} false (s l.fn.machine) (s l.machine) (Ok tt);
    }

abbrev pub decreases-loop-parts : goal.decreases-loop-parts
decreases-loop-parts g l = length l.rest
