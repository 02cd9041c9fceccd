use Rattle.std.proofs.Common.{◌≡◌, ◌≤◌, false, length}
use Rattle.std.specs.Prelude.{IsTrue, Ok, Some, slice_get}
use Rattle.vol_model.specs.declared.contents.Volume.{Volume}
use Rattle.vol_model.specs.Calls.{Keeps}
use Rattle.vol_model.specs.Runs.{RunCall}
use Rattle.iehlist_util.specs.Items.{listed_sets}
use Rattle.iehlist_util.proofs.Listings.{SaidSoFar}
use Rattle.iehlist_util.proofs.listing.say_named.Given as goal

abbrev pub invariant-loop-parts : goal.invariant-loop-parts
invariant-loop-parts g l =
    let m = g.M.Machine.meaning in
    let s = g.M.Machine.status in
    record {
      so_far : IsTrue g.M.Machine.tells → (volume : Volume) → slice_get (m l.fn.machine).state.volumes l.v ≡ Some volume → SaidSoFar g.M.Machine.tells_prints (listed_sets l.format volume l.names).lines (listed_sets l.format volume l.rest).lines (m l.fn.machine) (m l.machine);
      outcome : IsTrue g.M.Machine.tells → (volume : Volume) → slice_get (m l.fn.machine).state.volumes l.v ≡ Some volume → (listed_sets l.format volume l.names).outcome ≡ (listed_sets l.format volume l.rest).outcome;
      state : IsTrue g.M.Machine.tells → (m l.machine).state ≡ (m l.fn.machine).state;
      later : IsTrue g.M.Machine.tells → (m l.fn.machine).clock ≤ (m l.machine).clock;
      promise : IsTrue g.M.Machine.tells → Keeps (m l.fn.machine).clock (g.M.Machine.promise l.fn.machine) (g.M.Machine.promise l.machine);
      count : (s l.machine).done ≡ (s l.fn.machine).done;
      call : RunCall {T = Unit {0}} false (s l.fn.machine) (s l.machine) (Ok tt);
    }

abbrev pub decreases-loop-parts : goal.decreases-loop-parts
decreases-loop-parts g l = length l.rest
