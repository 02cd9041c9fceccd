use Rattle.std.specs.Prelude.{Ok, Err}
use Rattle.std.proofs.Common.{IsTrue, ◌≡◌, ◌++◌, ◌∙◌, ◌+◌, ◌*◌, ℕ, length, ap, subst, arith}
use Rattle.std.proofs.lemmas.Result.{err_from_is_err_and}
use Rattle.ckd_image.specs.Writing.{new_track}
use Rattle.hall_core.specs.Facts.{name_in}
use Rattle.hall_core.specs.Images.{Creates}
use Rattle.pack_spec.specs.declared.address.Address.{Address}
use Rattle.pack_spec.specs.Written.{label_records}
use Rattle.pack_init.specs.Init.{size_of}
use Rattle.pack_init.proofs.ImageLemmas.{empties}
use Rattle.pack_init.proofs.PackLemmas.{IsBegun, IsTracked, Parts, begun, create_fails, front_fails, pack_made, tracked, tracks_fail}
use Rattle.pack_init.proofs.WriteLemmas.{front_header, name_added, name_stays, writes_named}
use Rattle.pack_init.proofs.pack.init.Given.{Over}
use Rattle.pack_init.proofs.pack.init.Goals.{After-create, After-write_front, After-write_tracks}
use Rattle.pack_init.proofs.pack.init.Goals as goal

-- the file has the size of the pack
size_is : (g : Over) (c : After-create g) → c.offset_of.result ≡ size_of c.args.geometry.now
size_is g c = c.offset_of.ensures ∙ ap (λ (t : ℕ). 512 + t * c.args.geometry.now.track_size) c.tracks_of.ensures

pub returns-in_err-unit-clause-files : goal.returns-in_err-unit-clause-files
returns-in_err-unit-clause-files g c told =
    let pack = c.args.geometry.now in
    let p = err_from_is_err_and c.from_residual-in_err-unit.result c.from_residual-in_err-unit.ensures.1 in
    let size = size_is g (goal.at.returns-in_err-unit-clause-files g c).After-create in
    create_fails pack c.args.serial.now.bytes c.args.vtoc c.args.name.now c.in_err-unit.field-0.0 c.from_residual-in_err-unit.result (p.1 ∙ ap Err p.2)
    (subst (λ (len : ℕ). Creates c.args.name.now len (g.H.Hall.meaning c.args.hall.now) (g.H.Hall.meaning c.create.new.self) (Err c.in_err-unit.field-0.0)) size (c.in_err-unit.ensures.files told))

pub write_tracks-requires-clause-slots : goal.write_tracks-requires-clause-slots
write_tracks-requires-clause-slots g c = ap length c.deref.ensures.value ∙ omega (arith, c.in_ok-slots.ensures.len)

-- the file is made, and has its name
made : (g : Over) (c : After-write_tracks g) → c.offset_of.result ≡ size_of c.args.geometry.now → IsTrue g.H.Hall.tells → IsBegun c.args.geometry.now c.args.serial.now.bytes c.args.vtoc c.args.name.now (g.H.Hall.meaning c.args.hall.now) (g.H.Hall.meaning c.create.new.self)
made g c size told =
    begun c.args.geometry.now c.args.serial.now.bytes c.args.vtoc c.args.name.now c.in_ok-unit.unit
    (subst (λ (len : ℕ). Creates c.args.name.now len (g.H.Hall.meaning c.args.hall.now) (g.H.Hall.meaning c.create.new.self) (Ok c.in_ok-unit.unit)) size (c.in_ok-unit.ensures.files told))

named : (g : Over) (c : After-write_tracks g) → name_in (g.H.Hall.facts c.create.new.self) c.in_ok-unit.unit ≡ c.args.name.now
named g c =
    let added = c.in_ok-unit.ensures.faults.added in
    name_added (g.H.Hall.facts c.create.new.self) (g.H.Hall.facts c.args.hall.now).units c.in_ok-unit.unit c.offset_of.result c.args.name.now added.0 added.1

pub returns-in_err-write_tracks-clause-files : goal.returns-in_err-write_tracks-clause-files
returns-in_err-write_tracks-clause-files g c told =
    let at = goal.at.returns-in_err-write_tracks-clause-files g c in
    let p = err_from_is_err_and c.from_residual-in_err-write_tracks.result c.from_residual-in_err-write_tracks.ensures.1 in
    tracks_fail c.args.geometry.now c.args.serial.now.bytes c.args.vtoc c.args.name.now c.from_residual-in_err-write_tracks.result (p.1 ∙ ap Err p.2)
    (made g at.After-write_tracks (size_is g at.After-create) told)
    (writes_named (named g at.After-write_tracks) (c.in_err-write_tracks.ensures.files told))

-- the tracks are those of the new pack
parts : (g : Over) (c : After-write_front g) → Parts c.args.geometry.now c.args.serial.now.bytes c.args.vtoc c.slot_0.result c.slot_1.result c.deref-2.result.now c.deref.result.now
parts g c =
    let pack = c.args.geometry.now in
    record {
      pack = c.requires.shape;
      format_4 = c.slot_0.ensures;
      format_5 = c.slot_1.ensures;
      label_is = c.deref-2.ensures.value ∙ c.in_ok-label.ensures.bytes ∙ ap (λ (a : Address). new_track 0 0 (label_records c.args.serial.now.bytes a) pack.track_size) c.address_of.ensures;
      label_size = ap length c.deref-2.ensures.value ∙ omega (arith, c.in_ok-label.ensures.len);
      vtoc_is = c.deref.ensures.value ∙ c.in_ok-slots.ensures.bytes;
      vtoc_size = ap length c.deref.ensures.value ∙ omega (arith, c.in_ok-slots.ensures.len);
    }

-- they are written, and the file still has its name
written : (g : Over) (c : After-write_front g) → IsBegun c.args.geometry.now c.args.serial.now.bytes c.args.vtoc c.args.name.now (g.H.Hall.meaning c.args.hall.now) (g.H.Hall.meaning c.create.new.self) → name_in (g.H.Hall.facts c.create.new.self) c.in_ok-unit.unit ≡ c.args.name.now → IsTrue g.H.Hall.tells
    → IsTracked c.args.geometry.now c.args.serial.now.bytes c.args.vtoc c.args.name.now (c.deref.result.now ++ empties c.args.geometry.now c.args.vtoc) (g.H.Hall.meaning c.args.hall.now) (g.H.Hall.meaning c.write_tracks.new.hall)
written g c first name told = tracked c.args.geometry.now c.args.serial.now.bytes c.args.vtoc c.args.name.now (parts g c) first (writes_named name (c.in_ok-write_tracks.ensures.files told)) (c.in_ok-write_tracks.ensures.durable told)

still : (g : Over) (c : After-write_front g) → name_in (g.H.Hall.facts c.create.new.self) c.in_ok-unit.unit ≡ c.args.name.now → name_in (g.H.Hall.facts c.write_tracks.new.hall) c.in_ok-unit.unit ≡ c.args.name.now
still g c name = name_stays (g.H.Hall.facts c.write_tracks.new.hall) (g.H.Hall.facts c.create.new.self) c.in_ok-unit.unit c.in_ok-write_tracks.ensures.faults.units ∙ name

pub returns-in_err-write_front-clause-files : goal.returns-in_err-write_front-clause-files
returns-in_err-write_front-clause-files g c told =
    let at = goal.at.returns-in_err-write_front-clause-files g c in
    let w = at.After-write_front in
    let name = named g at.After-write_tracks in
    let p = err_from_is_err_and c.from_residual-in_err-write_front.result c.from_residual-in_err-write_front.ensures.1 in
    front_fails c.args.geometry.now c.args.serial.now.bytes c.args.vtoc c.args.name.now (parts g w) c.from_residual-in_err-write_front.result (p.1 ∙ ap Err p.2)
    (written g w (made g at.After-write_tracks (size_is g at.After-create) told) name told)
    (writes_named (still g w name) (front_header c.write.ensures.bytes (c.in_err-write_front.ensures.files _ told)))

pub returns-clause-files : goal.returns-clause-files
returns-clause-files g c told =
    let at = goal.at.returns-clause-files g c in
    let w = at.After-write_front in
    let name = named g at.After-write_tracks in
    pack_made c.args.geometry.now c.args.serial.now.bytes c.args.vtoc c.args.name.now (parts g w)
    (written g w (made g at.After-write_tracks (size_is g at.After-create) told) name told)
    (writes_named (still g w name) (front_header c.write.ensures.bytes (c.in_ok-write_front.ensures.files _ told))) (c.in_ok-write_front.ensures.durable told)
