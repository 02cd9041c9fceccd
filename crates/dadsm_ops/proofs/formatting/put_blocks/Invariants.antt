use Rattle.std.proofs.Common.{◌≡◌, IsTrue, map}
use Rattle.std.specs.Prelude.{Ok}
use Rattle.std.specs.List.{range_with_len}
use Rattle.hall_core.specs.Facts.{DeviceCall, name_in}
use Rattle.hall_core.specs.declared.steps.Device.{Device}
use Rattle.pack_spec.specs.Directories.{new_block}
use Rattle.dadsm_ops.specs.Formatting.{WritesOn, contents_of}
use Rattle.dadsm_ops.proofs.formatting.put_blocks.Given as goal

abbrev pub invariant-loop-i : goal.invariant-loop-i
invariant-loop-i g l =
    let start = l.fn.buf in
    let old = g.H.Hall.facts l.fn.hall in record {
      buffer : l.buf ≡ record start { records = l.buf.records };
      contents : contents_of l.buf.records ≡ map new_block (range_with_len l.first l.i);
      faults : DeviceCall {T = Unit {0}} {E = Device} old (g.H.Hall.facts l.hall) (Ok tt);
      files : IsTrue g.H.Hall.tells → WritesOn {T = Unit {0}} {E = Device} (name_in old start.unit) start.geometry start.track l.buf.records (g.H.Hall.meaning l.fn.hall) (g.H.Hall.meaning l.hall) (Ok tt);
    }
