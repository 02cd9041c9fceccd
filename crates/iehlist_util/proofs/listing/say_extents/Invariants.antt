use Rattle.std.proofs.Common.{◌≡◌, ◌+◌, ◌≤◌, false, drop, length}
use Rattle.std.specs.Prelude.{IsTrue, Ok, Some}
use Rattle.vol_model.specs.declared.contents.DataSet.{DataSet}
use Rattle.vol_model.specs.Calls.{Keeps}
use Rattle.vol_model.specs.Runs.{RunCall}
use Rattle.vol_model.specs.Writing.{set_on}
use Rattle.iehlist_util.specs.Items.{extent_lines}
use Rattle.iehlist_util.proofs.Listings.{SaidSoFar}
use Rattle.iehlist_util.proofs.listing.say_extents.Given as goal

abbrev pub invariant-loop-k : goal.invariant-loop-k
invariant-loop-k g l =
    let m = g.M.Machine.meaning in
    let s = g.M.Machine.status in
    record {
      so_far : IsTrue g.M.Machine.tells → (x : DataSet) → set_on (m l.fn.machine).state l.v l.dsn.bytes ≡ Some x → l.count ≡ length x.extents → SaidSoFar g.M.Machine.tells_prints (extent_lines 1 x.extents) (extent_lines (l.k + 1) (drop l.k x.extents)) (m l.fn.machine) (m l.machine);
      state : IsTrue g.M.Machine.tells → (m l.machine).state ≡ (m l.fn.machine).state;
      later : IsTrue g.M.Machine.tells → (m l.fn.machine).clock ≤ (m l.machine).clock;
      promise : IsTrue g.M.Machine.tells → Keeps (m l.fn.machine).clock (g.M.Machine.promise l.fn.machine) (g.M.Machine.promise l.machine);
      count : (s l.machine).done ≡ (s l.fn.machine).done;
      call : RunCall {T = Unit {0}} false (s l.fn.machine) (s l.machine) (Ok tt);
    }
