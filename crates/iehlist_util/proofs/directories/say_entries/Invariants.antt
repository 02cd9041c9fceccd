-- The lines of the entries so far are printed.
use Rattle.std.proofs.Common.{◌≡◌, ◌≤◌, List, false, drop, length, map}
use Rattle.std.specs.Prelude.{IsTrue, Ok}
use Rattle.vol_model.specs.declared.contents.Entry.{Entry}
use Rattle.vol_model.specs.Calls.{Keeps}
use Rattle.vol_model.specs.Runs.{RunCall}
use Rattle.iehlist_util.specs.Directories.{HasEntries}
use Rattle.iehlist_util.specs.Lines.{entry_line}
use Rattle.iehlist_util.proofs.Listings.{SaidSoFar}
use Rattle.iehlist_util.proofs.directories.say_entries.Given as goal

abbrev pub invariant-loop-k : goal.invariant-loop-k
invariant-loop-k g l =
    let m = g.M.Machine.meaning in
    let s = g.M.Machine.status in
    record {
      so_far : IsTrue g.M.Machine.tells → (es : List Entry) → HasEntries (m l.fn.machine).state l.v l.dsn.bytes es → l.count ≡ length es → SaidSoFar g.M.Machine.tells_prints (map entry_line es) (map entry_line (drop l.k es)) (m l.fn.machine) (m l.machine);
      state : IsTrue g.M.Machine.tells → (m l.machine).state ≡ (m l.fn.machine).state;
      later : IsTrue g.M.Machine.tells → (m l.fn.machine).clock ≤ (m l.machine).clock;
      promise : IsTrue g.M.Machine.tells → Keeps (m l.fn.machine).clock (g.M.Machine.promise l.fn.machine) (g.M.Machine.promise l.machine);
      count : (s l.machine).done ≡ (s l.fn.machine).done;
      call : RunCall {T = Unit {0}} false (s l.fn.machine) (s l.machine) (Ok tt);
    }
