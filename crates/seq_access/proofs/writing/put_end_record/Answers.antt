use Rattle.std.proofs.Common.{◌≡◌, ◌∙◌, Err, List, Result, ℕ, [], ap, arith, refl, subst, true}
use Rattle.ckd_image.specs.Header.{is_track_size}
use Rattle.ckd_image.specs.declared.header.Geometry.{Geometry}
use Rattle.hall_core.specs.Facts.{unit_of}
use Rattle.hall_core.specs.Images.{image_in}
use Rattle.vol_model.specs.declared.contents.Place.{Place}
use Rattle.vtoc_index.specs.declared.vol.Vol.{Vol}
use Rattle.seq_access.specs.declared.writer.PutErr.{PutErr}
use Rattle.seq_access.proofs.EndSteps.{blocks_same_image, first_put, fits_end}
use Rattle.seq_access.specs.Bodies.{owned_in}
use Rattle.seq_access.specs.Writing.{record_next}
use Rattle.slot_laws.proofs.FoundSlots.{low_of}
use Rattle.seq_access.proofs.PutCalls.{call_ends, call_mounted, call_spares, call_stays, image_as}
use Rattle.seq_access.proofs.PutSteps.{fits_few, fits_room}
use Rattle.seq_access.proofs.SparedCalls.{spares_as}
use Rattle.seq_access.proofs.writing.put_end_record.Goals as goal

pub make_ready-requires-clause-lengths : goal.make_ready-requires-clause-lengths
make_ready-requires-clause-lengths g c = fits_end c.args.vol.now.geometry.device

pub append-requires-clause-few : goal.append-requires-clause-few
append-requires-clause-few g c = fits_few c.make_ready.new.vol.buf c.args.vol.now.geometry.device 0 0 c.in-Ok.ensures.fits

pub append-requires-clause-room : goal.append-requires-clause-room
append-requires-clause-room g c =
    let geometry : c.make_ready.new.vol.buf.geometry ≡ c.args.vol.now.geometry = c.in-Ok.ensures.unit.buffer.0 ∙ ap (λ (v : Vol). v.geometry) c.in-Ok.ensures.others in
    let lawful : is_track_size c.args.vol.now.geometry.device c.make_ready.new.vol.buf.geometry.track_size ≡ true = subst (λ (x : Geometry). is_track_size x.device c.make_ready.new.vol.buf.geometry.track_size ≡ true) geometry c.in-Ok.ensures.roomy.track.whole.track_size in
    fits_room c.make_ready.new.vol.buf c.args.vol.now.geometry.device 0 0 c.in-Ok.ensures.fits lawful

pub returns-in_err-append-in-Ok-clause-spares : goal.returns-in_err-append-in-Ok-clause-spares
returns-in_err-append-in-Ok-clause-spares g c told is =
    let units = c.in-Ok.ensures.faults.units in
    let ready = c.in-Ok.ensures.ready told is in
    let geometry : c.make_ready.new.vol.buf.geometry ≡ c.args.vol.now.geometry = c.in-Ok.ensures.unit.buffer.0 ∙ ap (λ (v : Vol). v.geometry) c.in-Ok.ensures.others in
    let lawful : is_track_size c.args.vol.now.geometry.device c.make_ready.new.vol.buf.geometry.track_size ≡ true = subst (λ (x : Geometry). is_track_size x.device c.make_ready.new.vol.buf.geometry.track_size ≡ true) geometry c.in-Ok.ensures.roomy.track.whole.track_size in
    call_spares (g.H.Hall.meaning c.args.hall.now) (g.H.Hall.meaning c.make_ready.new.hall) (g.H.Hall.meaning c.append.new.hall) (g.H.Hall.facts c.args.hall.now) (g.H.Hall.facts c.make_ready.new.hall) (g.H.Hall.facts c.append.new.hall) c.args.vol.now c.make_ready.new.vol c.args.writer is 0 0 c.in-Ok._place c.in-Ok.ensures.others c.in-Ok.ensures.unit units ready (omega arith) (omega arith) [] [] refl c.in-Ok._place c.append.result _ (c.in-Ok.ensures.spares told is) (fits_room c.make_ready.new.vol.buf c.args.vol.now.geometry.device 0 0 c.in-Ok.ensures.fits lawful) (c.append.ensures.files told)

pub returns-in_ok-append-in-Ok-clause-spares : goal.returns-in_ok-append-in-Ok-clause-spares
returns-in_ok-append-in-Ok-clause-spares g c told is =
    let units = c.in-Ok.ensures.faults.units in
    let ready = c.in-Ok.ensures.ready told is in
    let geometry : c.make_ready.new.vol.buf.geometry ≡ c.args.vol.now.geometry = c.in-Ok.ensures.unit.buffer.0 ∙ ap (λ (v : Vol). v.geometry) c.in-Ok.ensures.others in
    let lawful : is_track_size c.args.vol.now.geometry.device c.make_ready.new.vol.buf.geometry.track_size ≡ true = subst (λ (x : Geometry). is_track_size x.device c.make_ready.new.vol.buf.geometry.track_size ≡ true) geometry c.in-Ok.ensures.roomy.track.whole.track_size in
    call_spares (g.H.Hall.meaning c.args.hall.now) (g.H.Hall.meaning c.make_ready.new.hall) (g.H.Hall.meaning c.append.new.hall) (g.H.Hall.facts c.args.hall.now) (g.H.Hall.facts c.make_ready.new.hall) (g.H.Hall.facts c.append.new.hall) c.args.vol.now c.make_ready.new.vol c.args.writer is 0 0 c.in-Ok._place c.in-Ok.ensures.others c.in-Ok.ensures.unit units ready (omega arith) (omega arith) [] [] refl c.in-Ok._place c.append.result _ (c.in-Ok.ensures.spares told is) (fits_room c.make_ready.new.vol.buf c.args.vol.now.geometry.device 0 0 c.in-Ok.ensures.fits lawful) (c.append.ensures.files told)

pub returns-in_ok-append-in-Ok-clause-blocks : goal.returns-in_ok-append-in-Ok-clause-blocks
returns-in_ok-append-in-Ok-clause-blocks g c told is =
    let v0 = c.args.vol.now in
    let m0 = g.H.Hall.meaning c.args.hall.now in
    let f0 = g.H.Hall.facts c.args.hall.now in
    let units = c.in-Ok.ensures.faults.units in
    let ready = c.in-Ok.ensures.ready told is in
    call_stays m0 (g.H.Hall.meaning c.make_ready.new.hall) (g.H.Hall.meaning c.append.new.hall) f0 (g.H.Hall.facts c.make_ready.new.hall) (g.H.Hall.facts c.append.new.hall) v0 c.make_ready.new.vol c.args.writer is 0 0 c.in-Ok._place c.in-Ok.ensures.others c.in-Ok.ensures.unit units ready (omega arith) (omega arith) [] [] refl c.append.new.buf c.append.ensures.buffer (c.in_ok-append-in-Ok.ensures.record told) (first_put (image_in m0 f0 v0.unit) v0 c.args.writer is c.requires.put (omega arith) (omega arith))

pub returns-in_ok-append-in-Ok-clause-mounted : goal.returns-in_ok-append-in-Ok-clause-mounted
returns-in_ok-append-in-Ok-clause-mounted g c told =
    let is = c.requires.writing told in
    let units = c.in-Ok.ensures.faults.units in
    let ready = c.in-Ok.ensures.ready told is in
    call_mounted (g.H.Hall.meaning c.args.hall.now) (g.H.Hall.meaning c.make_ready.new.hall) (g.H.Hall.meaning c.append.new.hall) (g.H.Hall.facts c.args.hall.now) (g.H.Hall.facts c.make_ready.new.hall) (g.H.Hall.facts c.append.new.hall) c.args.vol.now c.make_ready.new.vol c.args.writer is 0 0 c.in-Ok._place c.in-Ok.ensures.others c.in-Ok.ensures.unit units ready (omega arith) (omega arith) [] [] refl c.append.new.buf c.append.ensures.buffer (c.in_ok-append-in-Ok.ensures.record told)

pub returns-in-Err-NeedExtent-clause-spares : goal.returns-in-Err-NeedExtent-clause-spares
returns-in-Err-NeedExtent-clause-spares g c told is =
    let name : List ℕ = (unit_of (g.H.Hall.facts c.args.hall.now).units c.args.vol.now.unit).name in
    spares_as name c.args.vol.now is.f _ (g.H.Hall.meaning c.args.hall.now) (g.H.Hall.meaning c.make_ready.new.hall) c.make_ready.result _ (c.make_ready.ensures.spares told is)

pub returns-in-Err-NeedExtent-clause-blocks : goal.returns-in-Err-NeedExtent-clause-blocks
returns-in-Err-NeedExtent-clause-blocks g c told is =
    let v0 = c.args.vol.now in
    let m0 = g.H.Hall.meaning c.args.hall.now in
    let m1 = g.H.Hall.meaning c.make_ready.new.hall in
    let f0 = g.H.Hall.facts c.args.hall.now in
    let f1 = g.H.Hall.facts c.make_ready.new.hall in
    let image = image_as m0 m1 f0 f1 v0.unit v0.unit (c.in-Err-NeedExtent.ensures.refused told (ap (λ (x : PutErr). let r : Result Place PutErr = Err x in r) c.in-Err-NeedExtent.field-0-is)).state c.in-Err-NeedExtent.ensures.faults.units refl in
    blocks_same_image (image_in m0 f0 v0.unit) (image_in m1 f1 v0.unit) v0 c.make_ready.new.vol c.args.writer is image c.make_ready.ensures.others

pub returns-in-Err-clause-spares : goal.returns-in-Err-clause-spares
returns-in-Err-clause-spares g c told is =
    let name : List ℕ = (unit_of (g.H.Hall.facts c.args.hall.now).units c.args.vol.now.unit).name in
    spares_as name c.args.vol.now is.f _ (g.H.Hall.meaning c.args.hall.now) (g.H.Hall.meaning c.make_ready.new.hall) c.make_ready.result _ (c.make_ready.ensures.spares told is)

pub returns-in_ok-append-in-Ok-clause-end : goal.returns-in_ok-append-in-Ok-clause-end
returns-in_ok-append-in-Ok-clause-end g c told is track own =
    call_ends (g.H.Hall.meaning c.args.hall.now) (g.H.Hall.meaning c.make_ready.new.hall) (g.H.Hall.meaning c.append.new.hall) (g.H.Hall.facts c.args.hall.now) (g.H.Hall.facts c.make_ready.new.hall) (g.H.Hall.facts c.append.new.hall)
    c.args.vol.now c.make_ready.new.vol c.args.writer is 0 0 c.in-Ok._place c.in-Ok.ensures.others c.in-Ok.ensures.unit c.in-Ok.ensures.faults.units (c.in-Ok.ensures.ready told is) (omega arith) (omega arith) [] [] refl c.append.new.buf c.append.ensures.buffer (c.in_ok-append-in-Ok.ensures.record told) refl refl track own

pub returns-in-Err-NeedExtent-clause-end : goal.returns-in-Err-NeedExtent-clause-end
returns-in-Err-NeedExtent-clause-end g c told is track own =
    let image = image_in (g.H.Hall.meaning c.args.hall.now) (g.H.Hall.facts c.args.hall.now) c.args.vol.now.unit in
    let need = c.in-Err-NeedExtent.ensures.need told (ap (λ (x : PutErr). let r : Result Place PutErr = Err x in r) c.in-Err-NeedExtent.field-0-is) is ([], []) refl in
    let low = low_of (owned_in image c.args.vol.now is.f) (record_next is ([], [])).tt track own in
    absurd (omega (arith, need, low))
