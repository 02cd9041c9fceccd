use Rattle.std.proofs.Common.{◌≡◌, map}
use Rattle.std.specs.Prelude.{IsTrue, vec_items}
use Rattle.hall_core.specs.Facts.{ReportedCall, unit_of}
use Rattle.sorted_chain.specs.Plan.{write_of}
use Rattle.vtoc_index.specs.Index.{IsOfUnit}
use Rattle.stow_ops.specs.Stores.{SoFar}
use Rattle.stow_ops.proofs.storing.carry_out.Given as goal

abbrev pub invariant-loop-write : goal.invariant-loop-write
invariant-loop-write g l = record {
  others : l.vol ≡ record (l.fn.vol) { buf = l.vol.buf };
  unit : IsOfUnit (g.H.Hall.facts l.hall).units l.vol;
  calls : ReportedCall ⊥ (g.H.Hall.facts l.fn.hall) (g.H.Hall.facts l.hall);
  so : IsTrue g.H.Hall.tells → SoFar (unit_of (g.H.Hall.facts l.fn.hall).units l.fn.vol.unit).name l.fn.vol l.set l.plan.blocks
      (map write_of (vec_items l.plan.writes)) l.write-index l.vol (g.H.Hall.meaning l.fn.hall) (g.H.Hall.meaning l.hall);
}
