use Rattle.std.proofs.lemmas.Result.{err_from_is_err_and}
use Rattle.std.proofs.Common.{◌≡◌, ◌<◌, ◌∙◌, ℕ, List, Result, Ok, Err, Some, length, map, refl, sym, ap, subst}
use Rattle.std.specs.Prelude.{IsErrOf, vec_items}
use Rattle.std.specs.List.{AllByRecursion}
use Rattle.std.proofs.lemmas.List.{length-map}
use Rattle.dscb_codec.specs.declared.Dscb.TheVariants as formats
use Rattle.dscb_codec.specs.declared.F1.{F1}
use Rattle.hall_core.specs.Facts.{Attached, unit_of}
use Rattle.hall_core.specs.Images.{image_in}
use Rattle.hall_core.specs.declared.steps.Device.{Device}
use Rattle.sorted_chain.specs.Plan.{write_of}
use Rattle.vol_model.specs.declared.answers.StoreErr.{StoreErr}
use Rattle.vol_model.specs.declared.contents.Entry.{Entry}
use Rattle.vtoc_index.specs.declared.vol.Vol.{Vol}
use Rattle.free_rebuild.specs.Repairs.{image_named}
use Rattle.pds_directory.specs.declared.dir.Dir.{Dir}
use Rattle.pds_directory.specs.Directories.{IsPacked, IsReadIn, directory_in, entries_read}
use Rattle.free_rebuild.specs.Operations.{Operates}
use Rattle.stow_ops.specs.Stores.{CanBeWritten, CarriesOut, DifferOn, directory_tracks}
use Rattle.stow_ops.proofs.PlanWrites.{can_be_written}
use Rattle.stow_ops.proofs.ReadDirs.{kept_then, lawful_then, read_by, read_then}
use Rattle.stow_ops.proofs.StoreOperates.{operates_done, operates_failed, operates_not}
use Rattle.stow_ops.proofs.PlanStores.{packed_then}
use Rattle.stow_ops.proofs.WrittenEntries.{plan_entries}
use Rattle.stow_ops.proofs.storing.store.Goals as goal

pub carry_out-requires-clause-writes : goal.carry_out-requires-clause-writes
carry_out-requires-clause-writes g c = can_be_written (entries_read c.args.dir.now) c.args.entries.now c.in_ok-plan.plan.blocks (length c.args.dir.now.places.items) (map write_of (vec_items c.in_ok-plan.plan.writes)) c.in_ok-plan.ensures.plan c.requires.entries c.in_ok-plan.ensures.fits

pub carry_out-requires-clause-part : goal.carry_out-requires-clause-part
carry_out-requires-clause-part g c = λ told. let have = c.requires.change told c.set_at-set.result c.set_at-set.ensures in (have.part, have.read)

pub written-requires : goal.written-requires
written-requires g c =
    let ws : List (ℕ × List Entry) = map write_of (vec_items c.in_ok-plan.plan.writes) in
    let can : CanBeWritten (length c.args.dir.now.places.items) c.in_ok-plan.plan.blocks ws = can_be_written (entries_read c.args.dir.now) c.args.entries.now c.in_ok-plan.plan.blocks (length c.args.dir.now.places.items) (map write_of (vec_items c.in_ok-plan.plan.writes)) c.in_ok-plan.ensures.plan c.requires.entries c.in_ok-plan.ensures.fits in
    subst (λ (n : ℕ). AllByRecursion (λ (w : ℕ × List Entry). w.0 < n) ws) (sym c.in-Ok.ensures) can.few

same_set : (f h : F1) → Some (formats.F1 f) ≡ Some (formats.F1 h) → f ≡ h
same_set f h e = cc

as_plan : {T U : Type 0} {e d : StoreErr} → IsErrOf {T = T} (Err e) d → IsErrOf {T = U} (Err e) d
as_plan is = cc

pub returns-in-Ok-carry_out-clause-files : goal.returns-in-Ok-carry_out-clause-files
returns-in-Ok-carry_out-clause-files g c = λ told f operation is makes.
    let v : Vol = c.args.vol.now in
    let m0 = g.H.Hall.meaning c.args.hall.now in
    let m1 = g.H.Hall.meaning c.carry_out.new.hall in
    let name : List ℕ = (unit_of (g.H.Hall.facts c.args.hall.now).units v.unit).name in
    let ws : List (ℕ × List Entry) = map write_of (vec_items c.in_ok-plan.plan.writes) in
    let blocks : ℕ = c.in_ok-plan.plan.blocks in
    let same : c.set_at-set.result ≡ f = same_set c.set_at-set.result f (sym c.set_at-set.ensures ∙ is) in
    let carried : CarriesOut {T = Unit {0}} {E = Device} name v f blocks ws c.carry_out.new.vol m0 m1 (Ok c.in-Ok-carry_out.field-0) =
    subst (λ (h : F1). CarriesOut {T = Unit {0}} {E = Device} name v h blocks ws c.carry_out.new.vol m0 m1 (Ok c.in-Ok-carry_out.field-0)) same (c.in-Ok-carry_out.ensures.files told) in
    operates_done name v f c.args.dir.now c.args.entries.now blocks ws m0 (c.requires.change told f is) c.requires.dir c.requires.entries c.in_ok-plan.ensures.plan c.in_ok-plan.ensures.fits operation makes c.carry_out.new.vol m1 tt tt carried

pub returns-in-Ok-carry_out-clause-packed : goal.returns-in-Ok-carry_out-clause-packed
returns-in-Ok-carry_out-clause-packed g c = λ told f is.
    let v : Vol = c.args.vol.now in
    let m0 = g.H.Hall.meaning c.args.hall.now in
    let m1 = g.H.Hall.meaning c.carry_out.new.hall in
    let name : List ℕ = (unit_of (g.H.Hall.facts c.args.hall.now).units v.unit).name in
    let ws : List (ℕ × List Entry) = map write_of (vec_items c.in_ok-plan.plan.writes) in
    let blocks : ℕ = c.in_ok-plan.plan.blocks in
    let same : c.set_at-set.result ≡ f = same_set c.set_at-set.result f (sym c.set_at-set.ensures ∙ is) in
    let carried : CarriesOut {T = Unit {0}} {E = Device} name v f blocks ws c.carry_out.new.vol m0 m1 (Ok c.in-Ok-carry_out.field-0) =
    subst (λ (h : F1). CarriesOut {T = Unit {0}} {E = Device} name v h blocks ws c.carry_out.new.vol m0 m1 (Ok c.in-Ok-carry_out.field-0)) same (c.in-Ok-carry_out.ensures.files told) in
    let packed = packed_then (image_named m0.state name) v f c.args.dir.now c.args.entries.now blocks ws (c.requires.change told f is).read c.requires.entries c.in_ok-plan.ensures.plan c.in_ok-plan.ensures.fits (image_named m1.state name) carried.done.image in
    subst (λ (u : Vol). IsPacked (directory_in (image_in m1 (g.H.Hall.facts c.carry_out.new.hall) v.unit) u f)) (sym c.in-Ok-carry_out.ensures.others)
    (subst (λ (us : List Attached). IsPacked (directory_in (image_named m1.state (unit_of us v.unit).name) v f)) (sym c.in-Ok-carry_out.ensures.faults.units) packed)

pub returns-in-Ok-carry_out-clause-dir : goal.returns-in-Ok-carry_out-clause-dir
returns-in-Ok-carry_out-clause-dir g c = λ told f is.
    let v : Vol = c.args.vol.now in
    let m0 = g.H.Hall.meaning c.args.hall.now in
    let m1 = g.H.Hall.meaning c.carry_out.new.hall in
    let name : List ℕ = (unit_of (g.H.Hall.facts c.args.hall.now).units v.unit).name in
    let ws : List (ℕ × List Entry) = map write_of (vec_items c.in_ok-plan.plan.writes) in
    let blocks : ℕ = c.in_ok-plan.plan.blocks in
    let same : c.set_at-set.result ≡ f = same_set c.set_at-set.result f (sym c.set_at-set.ensures ∙ is) in
    let carried : CarriesOut {T = Unit {0}} {E = Device} name v f blocks ws c.carry_out.new.vol m0 m1 (Ok c.in-Ok-carry_out.field-0) =
    subst (λ (h : F1). CarriesOut {T = Unit {0}} {E = Device} name v h blocks ws c.carry_out.new.vol m0 m1 (Ok c.in-Ok-carry_out.field-0)) same (c.in-Ok-carry_out.ensures.files told) in
    let have = c.requires.change told f is in
    let new : Dir = record { blocks = c.written.result; places = c.args.dir.now.places; end = c.args.dir.now.end } in
    let read = read_then c.args.dir.now c.args.entries.now c.in_ok-plan.plan.blocks (map write_of (vec_items c.in_ok-plan.plan.writes)) c.requires.dir c.requires.entries c.in_ok-plan.ensures.plan c.in_ok-plan.ensures.fits (record { blocks = c.written.result; places = c.args.dir.now.places; end = c.args.dir.now.end }) refl refl (c.written.ensures ∙ plan_entries (entries_read c.args.dir.now) c.args.entries.now c.in_ok-plan.plan.blocks (map write_of (vec_items c.in_ok-plan.plan.writes)) c.in_ok-plan.ensures.plan (map vec_items c.in-Ok.blocks.items) (length-map c.in-Ok.blocks.items vec_items ∙ c.in-Ok.ensures)) (image_named m0.state name) v f have.part.part have.read (image_named m1.state name) carried.done.image in
    subst (λ (u : Vol). IsReadIn (image_in m1 (g.H.Hall.facts c.carry_out.new.hall) v.unit) u f new) (sym c.in-Ok-carry_out.ensures.others)
    (subst (λ (us : List Attached). IsReadIn (image_named m1.state (unit_of us v.unit).name) (record v { buf = c.carry_out.new.vol.buf }) f new) (sym c.in-Ok-carry_out.ensures.faults.units) (read_by (image_named m1.state name) v c.carry_out.new.vol.buf f new read))

pub returns-in-Ok-carry_out-clause-lawful : goal.returns-in-Ok-carry_out-clause-lawful
returns-in-Ok-carry_out-clause-lawful g c = lawful_then c.args.dir.now c.args.entries.now c.in_ok-plan.plan.blocks (map write_of (vec_items c.in_ok-plan.plan.writes)) c.requires.dir c.requires.entries c.in_ok-plan.ensures.plan c.in_ok-plan.ensures.fits (record { blocks = c.written.result; places = c.args.dir.now.places; end = c.args.dir.now.end }) refl refl (c.written.ensures ∙ plan_entries (entries_read c.args.dir.now) c.args.entries.now c.in_ok-plan.plan.blocks (map write_of (vec_items c.in_ok-plan.plan.writes)) c.in_ok-plan.ensures.plan (map vec_items c.in-Ok.blocks.items) (length-map c.in-Ok.blocks.items vec_items ∙ c.in-Ok.ensures))

pub returns-in-Ok-carry_out-clause-entries : goal.returns-in-Ok-carry_out-clause-entries
returns-in-Ok-carry_out-clause-entries g c = kept_then c.args.dir.now c.args.entries.now c.in_ok-plan.plan.blocks (map write_of (vec_items c.in_ok-plan.plan.writes)) c.requires.dir c.requires.entries c.in_ok-plan.ensures.plan c.in_ok-plan.ensures.fits (record { blocks = c.written.result; places = c.args.dir.now.places; end = c.args.dir.now.end }) refl refl (c.written.ensures ∙ plan_entries (entries_read c.args.dir.now) c.args.entries.now c.in_ok-plan.plan.blocks (map write_of (vec_items c.in_ok-plan.plan.writes)) c.in_ok-plan.ensures.plan (map vec_items c.in-Ok.blocks.items) (length-map c.in-Ok.blocks.items vec_items ∙ c.in-Ok.ensures))

pub returns-in-Err-clause-files : goal.returns-in-Err-clause-files
returns-in-Err-clause-files g c = λ told f operation is makes.
    let v : Vol = c.args.vol.now in
    let m0 = g.H.Hall.meaning c.args.hall.now in
    let m1 = g.H.Hall.meaning c.carry_out.new.hall in
    let name : List ℕ = (unit_of (g.H.Hall.facts c.args.hall.now).units v.unit).name in
    let ws : List (ℕ × List Entry) = map write_of (vec_items c.in_ok-plan.plan.writes) in
    let blocks : ℕ = c.in_ok-plan.plan.blocks in
    let same : c.set_at-set.result ≡ f = same_set c.set_at-set.result f (sym c.set_at-set.ensures ∙ is) in
    let carried : CarriesOut {T = Unit {0}} {E = Device} name v f blocks ws c.carry_out.new.vol m0 m1 (Err c.in-Err.field-0) =
    subst (λ (h : F1). CarriesOut {T = Unit {0}} {E = Device} name v h blocks ws c.carry_out.new.vol m0 m1 (Err c.in-Err.field-0)) same (c.in-Err.ensures.files told) in
    operates_failed name v f c.args.dir.now c.args.entries.now blocks ws m0 (c.requires.change told f is) c.requires.dir c.requires.entries c.in_ok-plan.ensures.plan c.in_ok-plan.ensures.fits operation makes c.carry_out.new.vol m1 c.in-Err.field-0 carried

pub returns-in_err-plan-clause-files : goal.returns-in_err-plan-clause-files
returns-in_err-plan-clause-files g c = λ told f operation is makes.
    let v : Vol = c.args.vol.now in
    let m = g.H.Hall.meaning c.args.hall.now in
    let name : List ℕ = (unit_of (g.H.Hall.facts c.args.hall.now).units v.unit).name in
    let p = err_from_is_err_and c.from_residual.result c.from_residual.ensures.1 in
    let given : c.from_residual.result ≡ Err c.in_err-plan.field-0.0 = p.1 ∙ ap (λ (e : StoreErr). Err e) p.2 in
    subst (λ (r : Result (Unit {0}) StoreErr). Operates name operation v (DifferOn v.geometry (directory_tracks (image_in m (g.H.Hall.facts c.args.hall.now) v.unit) v f)) m m r) (sym given)
    (operates_not name v f c.args.dir.now c.args.entries.now m (c.requires.change told f is) operation makes (g.met.H.Hall.counts_now c.args.hall.now) v c.in_err-plan.field-0.0 (λ r refused. c.in_err-plan.ensures.full r (as_plan refused)))
