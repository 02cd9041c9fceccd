use Rattle.std.proofs.Common.{◌≡◌, ◌∙◌, ℕ, List, Some, length, map, sym, subst}
use Rattle.std.specs.Prelude.{OnOk, vec_items}
use Rattle.dscb_codec.specs.declared.Dscb.TheVariants as formats
use Rattle.dscb_codec.specs.declared.F1.{F1}
use Rattle.hall_core.specs.Facts.{Attached, unit_of}
use Rattle.hall_core.specs.Images.{image_in}
use Rattle.sorted_chain.specs.Plan.{write_of}
use Rattle.vol_model.specs.declared.contents.Entry.{Entry}
use Rattle.vtoc_index.specs.declared.vol.Vol.{Vol}
use Rattle.free_rebuild.specs.Repairs.{image_named}
use Rattle.pds_directory.specs.declared.dir.Dir.{Dir}
use Rattle.pds_directory.specs.Directories.{IsPacked, IsReadIn, directory_in}
use Rattle.stow_ops.specs.Packing.{IsPackingOf}
use Rattle.stow_ops.specs.Stores.{CanBeWritten, CarriesOut}
use Rattle.stow_ops.proofs.PackingOperates.{can_be_packed, packed_now, packs}
use Rattle.stow_ops.proofs.repacking.pack.Goals as goal

pub carry_out-requires-clause-writes : goal.carry_out-requires-clause-writes
carry_out-requires-clause-writes g c =
    let ws : List (ℕ × List Entry) = map write_of (vec_items c.args.packing.now.plan.writes) in
    let is = c.requires.packing.1 in
    subst (λ (d : Dir). CanBeWritten (length d.places.items) c.args.packing.now.plan.blocks ws) (sym is.of) (can_be_packed c.requires.packing.0 c.args.packing.now.plan.blocks ws is.lawful is.plan)

pub carry_out-requires-clause-part : goal.carry_out-requires-clause-part
carry_out-requires-clause-part g c = λ told.
    let v : Vol = c.args.vol.now in
    let image : List ℕ = image_in (g.H.Hall.meaning c.args.hall.now) (g.H.Hall.facts c.args.hall.now) v.unit in
    let packing : IsPackingOf image v c.set_at-set.result c.args.packing.now = c.requires.read told c.set_at-set.result c.set_at-set.ensures in
    (c.requires.part told c.set_at-set.result c.set_at-set.ensures, subst (λ (d : Dir). IsReadIn image v c.set_at-set.result d) (sym packing.is.of) packing.read)

same_set : (f h : F1) → Some (formats.F1 f) ≡ Some (formats.F1 h) → f ≡ h
same_set f h e = cc

pub returns-clause-files : goal.returns-clause-files
returns-clause-files g c = λ told f is.
    let v : Vol = c.args.vol.now in
    let m0 = g.H.Hall.meaning c.args.hall.now in
    let m1 = g.H.Hall.meaning c.carry_out.new.hall in
    let us : List Attached = (g.H.Hall.facts c.args.hall.now).units in
    let name : List ℕ = (unit_of us v.unit).name in
    let ws : List (ℕ × List Entry) = map write_of (vec_items c.args.packing.now.plan.writes) in
    let packing : IsPackingOf (image_named m0.state name) v f c.args.packing.now = c.requires.read told f is in
    let carried : CarriesOut name v f c.args.packing.now.plan.blocks ws c.carry_out.new.vol m0 m1 c.carry_out.result =
    subst (λ (h : F1). CarriesOut name v h c.args.packing.now.plan.blocks ws c.carry_out.new.vol m0 m1 c.carry_out.result) (same_set c.set_at-set.result f (sym c.set_at-set.ensures ∙ is)) (c.carry_out.ensures.files told) in
    packs packing.dir c.args.packing.now.plan.blocks ws packing.is.lawful packing.is.plan name v f m0 (c.requires.part told f is) packing.read c.carry_out.new.vol m1 c.carry_out.result carried

pub returns-clause-packed : goal.returns-clause-packed
returns-clause-packed g c = λ told f is.
    let v : Vol = c.args.vol.now in
    let m0 = g.H.Hall.meaning c.args.hall.now in
    let m1 = g.H.Hall.meaning c.carry_out.new.hall in
    let us : List Attached = (g.H.Hall.facts c.args.hall.now).units in
    let name : List ℕ = (unit_of us v.unit).name in
    let ws : List (ℕ × List Entry) = map write_of (vec_items c.args.packing.now.plan.writes) in
    let packing : IsPackingOf (image_named m0.state name) v f c.args.packing.now = c.requires.read told f is in
    let carried : CarriesOut name v f c.args.packing.now.plan.blocks ws c.carry_out.new.vol m0 m1 c.carry_out.result =
    subst (λ (h : F1). CarriesOut name v h c.args.packing.now.plan.blocks ws c.carry_out.new.vol m0 m1 c.carry_out.result) (same_set c.set_at-set.result f (sym c.set_at-set.ensures ∙ is)) (c.carry_out.ensures.files told) in
    subst (λ (u : Vol). OnOk c.carry_out.result (IsPacked (directory_in (image_in m1 (g.H.Hall.facts c.carry_out.new.hall) v.unit) u f))) (sym c.carry_out.ensures.others)
    (subst (λ (xs : List Attached). OnOk c.carry_out.result (IsPacked (directory_in (image_named m1.state (unit_of xs v.unit).name) v f))) (sym c.carry_out.ensures.faults.units)
    (packed_now packing.dir c.args.packing.now.plan.blocks ws packing.is.lawful packing.is.plan name v f m0 (c.requires.part told f is) packing.read c.carry_out.new.vol m1 c.carry_out.result carried))
