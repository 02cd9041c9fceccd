use Rattle.std.proofs.Common.{◌≡◌, ◌≤◌, false, length}
use Rattle.std.specs.List.{list_any}
use Rattle.std.specs.Prelude.{IsTrue, Ok}
use Rattle.vol_model.specs.Calls.{Keeps}
use Rattle.vol_model.specs.Runs.{RunCall}
use Rattle.record_files.specs.Members.{ends_directory}
use Rattle.output_files.specs.Members.{did_aliases}
use Rattle.output_files.proofs.EnterLemmas.{Entered}
use Rattle.output_files.proofs.members.enter_aliases.Given as goal

abbrev pub invariant-loop-parts : goal.invariant-loop-parts
invariant-loop-parts g l =
    let m = g.M.Machine.meaning in
    let s = g.M.Machine.status in
    record {
      so_far : IsTrue g.M.Machine.tells → Entered g.M.Machine.tells_prints (did_aliases (m l.fn.machine).state l.to l.place l.replaces l.aliases) (did_aliases (m l.machine).state l.to l.place l.replaces l.rest) (m l.fn.machine) (m l.machine) (s l.fn.machine).done (s l.machine).done;
      lawful : list_any ends_directory l.rest ≡ false;
      later : IsTrue g.M.Machine.tells → (m l.fn.machine).clock ≤ (m l.machine).clock;
      promise : IsTrue g.M.Machine.tells → Keeps (m l.fn.machine).clock (g.M.Machine.promise l.fn.machine) (g.M.Machine.promise l.machine);
      call : RunCall {T = Unit {0}} false (s l.fn.machine) (s l.machine) (Ok tt);
    }

abbrev pub decreases-loop-parts : goal.decreases-loop-parts
decreases-loop-parts g l = length l.rest
