-- So many entries are there, and nothing changed but the time.
use Rattle.std.proofs.Common.{◌≡◌, ◌≤◌, List, false, length}
use Rattle.std.specs.Prelude.{IsTrue, Ok}
use Rattle.stop_model.specs.Moments.{Same}
use Rattle.vol_model.specs.declared.contents.Entry.{Entry}
use Rattle.vol_model.specs.Calls.{Keeps}
use Rattle.vol_model.specs.Runs.{RunCall}
use Rattle.iehlist_util.specs.Directories.{HasEntries}
use Rattle.iehlist_util.proofs.directories.count_entries.Given as goal

abbrev pub invariant-loop-k : goal.invariant-loop-k
invariant-loop-k g l =
    let m = g.M.Machine.meaning in
    let s = g.M.Machine.status in
    record {
      counted : IsTrue g.M.Machine.tells → (es : List Entry) → HasEntries (m l.fn.machine).state l.v l.dsn.bytes es → l.k ≤ length es;
      same : IsTrue g.M.Machine.tells → Same (m l.fn.machine) (m l.machine);
      promise : IsTrue g.M.Machine.tells → Keeps (m l.fn.machine).clock (g.M.Machine.promise l.fn.machine) (g.M.Machine.promise l.machine);
      count : (s l.machine).done ≡ (s l.fn.machine).done;
      call : RunCall {T = Unit {0}} false (s l.fn.machine) (s l.machine) (Ok tt);
    }
