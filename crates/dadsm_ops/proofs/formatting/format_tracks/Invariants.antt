use Rattle.std.proofs.Common.{◌≡◌, IsTrue}
use Rattle.std.specs.Prelude.{Ok}
use Rattle.hall_core.specs.Facts.{DeviceCall, name_in}
use Rattle.hall_core.specs.declared.steps.Device.{Device}
use Rattle.dadsm_ops.specs.Formatting.{Formats}
use Rattle.dadsm_ops.proofs.formatting.format_tracks.Given as goal

abbrev pub invariant-loop-k : goal.invariant-loop-k
invariant-loop-k g l =
    let start = l.fn.buf in
    let old = g.H.Hall.facts l.fn.hall in record {
      buffer : l.buf ≡ record start { track = l.buf.track; records = l.buf.records };
      faults : DeviceCall {T = Unit {0}} {E = Device} old (g.H.Hall.facts l.hall) (Ok tt);
      files : IsTrue g.H.Hall.tells → Formats {T = Unit {0}} {E = Device} (name_in old l.unit) start.geometry l.runs l.dir l.k (g.H.Hall.meaning l.fn.hall) (g.H.Hall.meaning l.hall) (Ok tt);
    }
