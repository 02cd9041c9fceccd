-- The sets so far are listed, and the listing goes on with this one.
use Rattle.std.proofs.Common.{◌≡◌, ◌≤◌, false, length}
use Rattle.std.specs.Prelude.{IsTrue, Ok, Some, slice_get}
use Rattle.vol_model.specs.declared.contents.Volume.{Volume}
use Rattle.vol_model.specs.Calls.{Keeps}
use Rattle.vol_model.specs.Runs.{RunCall}
use Rattle.iehlist_util.specs.Directories.{pds_listing}
use Rattle.iehlist_util.proofs.Listings.{SaidSoFar}
use Rattle.iehlist_util.proofs.directories.say_directories.Given as goal

abbrev pub invariant-loop-refusal : goal.invariant-loop-refusal
invariant-loop-refusal g l =
    let m = g.M.Machine.meaning in
    let s = g.M.Machine.status in
    record {
      so_far : IsTrue g.M.Machine.tells → (volume : Volume) → slice_get (m l.fn.machine).state.volumes l.v ≡ Some volume → SaidSoFar g.M.Machine.tells_prints (pds_listing volume l.request.first l.request.others).lines (pds_listing volume l.dsn l.rest).lines (m l.fn.machine) (m l.machine);
      answer : IsTrue g.M.Machine.tells → (volume : Volume) → slice_get (m l.fn.machine).state.volumes l.v ≡ Some volume → (pds_listing volume l.request.first l.request.others).answer ≡ (pds_listing volume l.dsn l.rest).answer;
      state : IsTrue g.M.Machine.tells → (m l.machine).state ≡ (m l.fn.machine).state;
      later : IsTrue g.M.Machine.tells → (m l.fn.machine).clock ≤ (m l.machine).clock;
      promise : IsTrue g.M.Machine.tells → Keeps (m l.fn.machine).clock (g.M.Machine.promise l.fn.machine) (g.M.Machine.promise l.machine);
      count : (s l.machine).done ≡ (s l.fn.machine).done;
      call : RunCall {T = Unit {0}} false (s l.fn.machine) (s l.machine) (Ok tt);
    }

abbrev pub decreases-loop-refusal : goal.decreases-loop-refusal
decreases-loop-refusal g l = length l.rest
