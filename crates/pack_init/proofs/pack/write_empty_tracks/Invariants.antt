use Rattle.std.specs.Prelude.{Ok, IsTrue}
use Rattle.std.proofs.Common.{◌+◌, ◌-◌}
use Rattle.hall_core.specs.Facts.{DeviceCall, name_in}
use Rattle.hall_core.specs.declared.steps.Device.{Device}
use Rattle.pack_init.specs.Init.{size_of}
use Rattle.pack_init.specs.Layout.{with_empties}
use Rattle.pack_init.specs.Progress.{IsHeaderless, Writes}
use Rattle.pack_init.proofs.pack.write_empty_tracks.Given as goal

-- the tracks so far were written
abbrev pub invariant-loop-track : goal.invariant-loop-track
invariant-loop-track g l = record {
  faults : DeviceCall {T = Unit {0}} {E = Device} (g.H.Hall.facts l.initial.hall) (g.H.Hall.facts l.hall) (Ok tt);
  files : IsTrue g.H.Hall.tells → Writes {T = Unit {0}} {E = Device} (name_in (g.H.Hall.facts l.initial.hall) l.unit) (IsHeaderless (size_of l.geometry)) (with_empties l.geometry (l.vtoc + 1) (l.track - (l.vtoc + 1))) (g.H.Hall.meaning l.initial.hall) (g.H.Hall.meaning l.hall) (Ok tt);
}
