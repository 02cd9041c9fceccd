-- A sound machine over several packs: its shelf has the volumes of its indexes, and its packs are settled.
use Rattle.std.proofs.Common.{◌≡◌, ◌∙◌, ℕ, List, sym, ap, subst}
use Rattle.std.specs.Prelude.{IsTrue}
use Rattle.free_rebuild.specs.Repairs.{image_named}
use Rattle.free_rebuild.proofs.SettledBool.{settled_vtoc}
use Rattle.hall_core.specs.Facts.{Attached, unit_of}
use Rattle.hall_core.specs.declared.hall.Hall.{Ghosts}
use Rattle.stop_model.specs.Files.{File}
use Rattle.pack_spec.specs.Settled.{IsSettled}
use Rattle.pds_directory.proofs.PackedTests.{are_packed_of}
use Rattle.vtoc_index.specs.declared.vol.Vol.{Vol}
use Rattle.shelf_machine.specs.Known.{KnowsBodies}
use Rattle.shelf_machine.specs.Machine.{AreInOrder, AreKept, units_of}
use Rattle.shelf_machine.specs.Opening.{AreSettledImages, names_of}
use Rattle.shelf_machine.specs.Parts.{meaning_of}
use Rattle.shelf_machine.specs.PendingShelves.{kept_in}
use Rattle.shelf_machine.specs.ReadyPacks.{caches_of, vols_of}
use Rattle.pack_machine.specs.Reads.{HasVolumes}
use Rattle.shelf_machine.specs.declared.machine.HallShelf.{HallShelf}
use Rattle.pack_machine.specs.declared.pack.Pack.{Pack}
use Rattle.shelf_machine.proofs.Holding.{has_volumes, kept_mounted}
use Rattle.pack_machine.proofs.ListPlaces.{of_map}
use Rattle.shelf_machine.proofs.ReadyPacks.{bodies_in, order_in}

-- what reads of its packs ask for, which a machine lends as a slice
module _ {X : Type 0} {g : Ghosts X} (machine : HallShelf X g) (packs : List Pack) (same : packs ≡ machine.packs.items) (sound : IsTrue machine.is_sound) where
  pub machine_volumes : IsTrue g.tells → HasVolumes (meaning_of machine).state (vols_of packs)
  machine_volumes told =
      let vols = vols_of machine.packs.items in
      subst (λ (ps : List Pack). HasVolumes (meaning_of machine).state (vols_of ps)) (sym same)
      (has_volumes (g.meaning machine.hall).state (g.facts machine.hall).units vols
      (kept_mounted (g.meaning machine.hall).state (g.facts machine.hall).units vols (kept_in (machine.ready sound) told)) machine.indexes.serials)

  pub machine_bodies : IsTrue g.tells → KnowsBodies (meaning_of machine).state (caches_of packs)
  machine_bodies told = subst (λ (ps : List Pack). KnowsBodies (meaning_of machine).state (caches_of ps)) (sym same) (bodies_in (machine.ready sound) told)

  pub machine_order : AreInOrder (vols_of packs)
  machine_order = subst (λ (ps : List Pack). AreInOrder (vols_of ps)) (sym same) (order_in (machine.ready sound))

-- images that are kept are settled
pub kept_settled : (files : List File) (attached : List Attached) (vols : List Vol) → AreKept files attached vols → AreSettledImages (names_of attached (units_of vols)) files
kept_settled files attached vols kept k name at =
    let unit = of_map (λ (n : ℕ). (unit_of attached n).name) (units_of vols) k name at in
    let vol = of_map (λ (v : Vol). v.unit) vols k unit.0 unit.1 in
    let same : (unit_of attached vol.0.unit).name ≡ name = ap (λ (n : ℕ). (unit_of attached n).name) vol.2 ∙ unit.2 in
    let image : List ℕ = image_named files (unit_of attached vol.0.unit).name in
    let is = kept k vol.0 vol.1 in
    let vtoc = settled_vtoc image is.settled in
    subst (λ (n : List ℕ). IsSettled (image_named files n)) same (vtoc.0, vtoc.1, vtoc.2, are_packed_of image vtoc.0 vtoc.1 is.packed)
