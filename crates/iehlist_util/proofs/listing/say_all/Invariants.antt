use Rattle.std.proofs.Common.{◌≡◌, ◌≤◌, false, drop}
use Rattle.std.specs.Prelude.{IsTrue, Ok, Some, slice_get}
use Rattle.std.specs.List.{flat_map}
use Rattle.vol_model.specs.declared.contents.Volume.{Volume}
use Rattle.vol_model.specs.Calls.{Keeps}
use Rattle.vol_model.specs.Runs.{RunCall}
use Rattle.iehlist_util.specs.Items.{set_lines}
use Rattle.iehlist_util.proofs.Listings.{SaidSoFar}
use Rattle.iehlist_util.proofs.listing.say_all.Given as goal

abbrev pub invariant-loop-k : goal.invariant-loop-k
invariant-loop-k g l =
    let m = g.M.Machine.meaning in
    let s = g.M.Machine.status in
    record {
      so_far : IsTrue g.M.Machine.tells → (volume : Volume) → slice_get (m l.fn.machine).state.volumes l.v ≡ Some volume → SaidSoFar g.M.Machine.tells_prints (flat_map (set_lines l.format) volume.sets) (flat_map (set_lines l.format) (drop l.k volume.sets)) (m l.fn.machine) (m l.machine);
      state : IsTrue g.M.Machine.tells → (m l.machine).state ≡ (m l.fn.machine).state;
      later : IsTrue g.M.Machine.tells → (m l.fn.machine).clock ≤ (m l.machine).clock;
      promise : IsTrue g.M.Machine.tells → Keeps (m l.fn.machine).clock (g.M.Machine.promise l.fn.machine) (g.M.Machine.promise l.machine);
      count : (s l.machine).done ≡ (s l.fn.machine).done;
      call : RunCall {T = Unit {0}} false (s l.fn.machine) (s l.machine) (Ok tt);
    }
