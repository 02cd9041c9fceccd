-- What a writer put that is pending leaves of the shelf: every stop leaves the shelf that is read.
use Rattle.std.specs.Prelude.{◌≡◌, ℕ, Bool, IsTrue, List, Option, Some, None}
use Rattle.std.proofs.Common.{refl, sym, ap, subst, ◌∙◌}
use Rattle.free_rebuild.specs.Repairs.{image_named}
use Rattle.hall_core.specs.Facts.{Attached, Facts, unit_of}
use Rattle.stop_model.specs.Files.{File}
use Rattle.stop_model.specs.Moments.{IsDurable, Meaning}
use Rattle.stop_model.specs.Steps.{seen}
use Rattle.vtoc_index.specs.declared.vol.Vol.{Vol}
use Rattle.seq_access.specs.Bodies.{last_in}
use Rattle.dadsm_ops.proofs.FoundSets.{set_found}
use Rattle.pack_machine.proofs.ListPlaces.{of_map, there}
use Rattle.shelf_machine.specs.Machine.{AreKept, shelf_under, units_of}
use Rattle.pack_machine.specs.Ready.{IsKeptSettled}
use Rattle.shelf_machine.specs.Opening.{names_of}
use Rattle.shelf_machine.specs.Pending.{HasSlot, IsPendingBy}
use Rattle.shelf_machine.specs.ReadyPacks.{AreReady, vols_of}
use Rattle.shelf_machine.specs.SparedShelves.{shelf_spared}
use Rattle.pack_machine.specs.declared.pack.Pack.{Pack}
use Rattle.shelf_machine.specs.declared.writer.Writer.{Writer}

-- the indexes of packs that are ready are those of their images
pub kept_in : {tells : Bool} {f : Facts} {m : Meaning (List File)} {packs : List Pack} → AreReady tells f m packs → IsTrue tells → AreKept m.state f.units (vols_of packs)
kept_in {tells} {f} {m} {packs} ready told k v at =
    let one = of_map (λ (p : Pack). p.vol) packs k v at in
    subst (λ (w : Vol). IsKeptSettled (image_named m.state (unit_of f.units w.unit).name) w) one.2 ((ready.each k one.0 one.1).image told).kept

-- every stop leaves the shelf that is read
pub pending_left : (m : Meaning (List File)) (attached : List Attached) (vols : List Vol) (w : Option Writer) → AreKept m.state attached vols → HasSlot vols w → IsPendingBy m attached vols w
    → (j : List File) → m.left j → shelf_under (names_of attached (units_of vols)) j ≡ shelf_under (names_of attached (units_of vols)) m.state
pending_left m attached vols None kept slot pending j left = ap (shelf_under (names_of attached (units_of vols))) (pending j left)
pending_left m attached vols (Some w) kept slot pending j left =
    let at = there vols w.v slot.0 in
    let v : Vol = at.0 in
    let p = pending v at.1 in
    let found = set_found w.dsn.bytes v.slots.items w.inner.slot (slot.1 v at.1).0 in
    let by = p.0.writing found.f found.set in
    let name : List ℕ = (unit_of attached v.unit).name in
    shelf_spared name m.state v found.f w.inner.slot found.set (kept w.v v at.1).kept by.extents (last_in (image_named m.state name) v found.f) (by.writable, refl) j (p.1 found.f found.set j left) (names_of attached (units_of vols))

pub pending_durable : (m : Meaning (List File)) (attached : List Attached) (vols : List Vol) (w : Option Writer) → AreKept m.state attached vols → HasSlot vols w → IsPendingBy m attached vols w
    → IsDurable (seen (shelf_under (names_of attached (units_of vols))) m)
pending_durable m attached vols w kept slot pending s left = sym left.2 ∙ pending_left m attached vols w kept slot pending left.0 left.1
