use Rattle.std.proofs.Common.{◌≡◌, ◌<◌, ◌≤◌, length, drop, IsTrue}
use Rattle.std.specs.Prelude.{Ok}
use Rattle.hall_core.specs.Facts.{DeviceCall, unit_of}
use Rattle.hall_core.specs.Images.{image_in}
use Rattle.hall_core.specs.declared.Device.{Device}
use Rattle.pack_spec.specs.FreeChain.{dscbs_for, entries_of}
use Rattle.pack_spec.specs.Label.{heads_of}
use Rattle.vtoc_index.specs.Index.{IsIndexOf, IsOfUnit, address_in}
use Rattle.free_rebuild.specs.Chain.{IsOpenAt, chained}
use Rattle.free_rebuild.specs.Stops.{KeepsAlike}
use Rattle.free_rebuild.proofs.chain.write_chain.Given as goal

abbrev pub invariant-loop-number : goal.invariant-loop-number
invariant-loop-number g l =
    let start = l.fn.vol in
    let old = g.H.Hall.facts l.fn.hall in
    let entries = entries_of (heads_of start.geometry) start.free.items in record {
      others : l.vol ≡ record start { slots = l.vol.slots; buf = l.vol.buf };
      unit : IsOfUnit (g.H.Hall.facts l.hall).units l.vol;
      inside : l.slot < length l.vol.slots.items;
      some : 1 ≤ l.slot;
      count : l.count ≡ dscbs_for (length start.free.items);
      chain : chained (address_in start) l.vol.slots.items l.slot (drop l.number entries) ≡ chained (address_in start) start.slots.items 1 entries;
      faults : DeviceCall {T = Unit {0}} {E = Device} old (g.H.Hall.facts l.hall) (Ok tt);
      index : IsTrue g.H.Hall.tells → IsIndexOf (image_in (g.H.Hall.meaning l.hall) (g.H.Hall.facts l.hall) l.vol.unit) l.vol;
      opened : IsOpenAt l.vol.slots.items l.slot;
      files : IsTrue g.H.Hall.tells → KeepsAlike {T = Unit {0}} {E = Device} (unit_of old.units start.unit).name start (g.H.Hall.meaning l.fn.hall) (g.H.Hall.meaning l.hall) (Ok tt);
    }
