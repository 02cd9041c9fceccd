use Rattle.std.proofs.Common.{◌≡◌, IsTrue}
use Rattle.std.specs.Prelude.{Ok}
use Rattle.hall_core.specs.Facts.{DeviceCall, unit_of}
use Rattle.hall_core.specs.Images.{image_in}
use Rattle.hall_core.specs.declared.steps.Device.{Device}
use Rattle.vtoc_index.specs.Index.{IsIndexOf, IsOfUnit, address_in}
use Rattle.free_rebuild.specs.Clearing.{AreCleared}
use Rattle.free_rebuild.specs.Stops.{KeepsAlike}
use Rattle.free_rebuild.proofs.clearing.clear_unused.Given as goal

abbrev pub invariant-loop-slot : goal.invariant-loop-slot
invariant-loop-slot g l =
    let start = l.fn.vol in
    let old = g.H.Hall.facts l.fn.hall in record {
      others : l.vol ≡ record start { slots = l.vol.slots; buf = l.vol.buf };
      unit : IsOfUnit (g.H.Hall.facts l.hall).units l.vol;
      cleared : AreCleared (address_in start) l.slot start.slots.items l.vol.slots.items;
      faults : DeviceCall {T = Unit {0}} {E = Device} old (g.H.Hall.facts l.hall) (Ok tt);
      index : IsTrue g.H.Hall.tells → IsIndexOf (image_in (g.H.Hall.meaning l.hall) (g.H.Hall.facts l.hall) l.vol.unit) l.vol;
      files : IsTrue g.H.Hall.tells → KeepsAlike {T = Unit {0}} {E = Device} (unit_of old.units start.unit).name start (g.H.Hall.meaning l.fn.hall) (g.H.Hall.meaning l.hall) (Ok tt);
    }
