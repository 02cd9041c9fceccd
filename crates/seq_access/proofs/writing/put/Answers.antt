use Rattle.std.proofs.Common.{◌≡◌, ◌∙◌, List, ℕ, length, ap, arith, refl, rules, subst, true}
use Rattle.ckd_image.specs.Header.{is_track_size}
use Rattle.ckd_image.specs.declared.header.Geometry.{Geometry}
use Rattle.hall_core.specs.Facts.{unit_of}
use Rattle.hall_core.specs.Images.{image_in}
use Rattle.vol_model.specs.declared.contents.Place.{Place}
use Rattle.vtoc_index.specs.declared.vol.Vol.{Vol}
use Rattle.seq_access.proofs.NextBodies.{next_same}
use Rattle.seq_access.proofs.PutCalls.{call_mounted, call_puts, call_spares}
use Rattle.seq_access.proofs.PutSteps.{fits_few, fits_room}
use Rattle.seq_access.proofs.SparedCalls.{spares_as}
use Rattle.seq_access.proofs.writing.put.Goals as goal

pub returns-in_err-place-clause-spares : goal.returns-in_err-place-clause-spares
returns-in_err-place-clause-spares g c told is =
    let name : List ℕ = (unit_of (g.H.Hall.facts c.args.hall.now).units c.args.vol.now.unit).name in
    spares_as name c.args.vol.now is.f _ (g.H.Hall.meaning c.args.hall.now) (g.H.Hall.meaning c.make_ready.new.hall) c.make_ready.result _ (c.make_ready.ensures.spares told is)

pub returns-in_err-place-clause-mounted : goal.returns-in_err-place-clause-mounted
returns-in_err-place-clause-mounted g c told not = c.make_ready.ensures.mounted told (λ device. not (search rules))

pub returns-in_err-place-clause-need : goal.returns-in_err-place-clause-need
returns-in_err-place-clause-need g c told of is =
    let image = image_in (g.H.Hall.meaning c.args.hall.now) (g.H.Hall.facts c.args.hall.now) c.args.vol.now.unit in
    let need = c.make_ready.ensures.need told (search rules) is (c.args.key.now, c.args.payload.now) refl in
    omega (arith, need, ap (λ (p : Place). p.tt) (next_same image c.args.vol.now c.args.writer.now is (omega arith) (c.args.key.now, c.args.payload.now)))

pub append-requires-clause-few : goal.append-requires-clause-few
append-requires-clause-few g c = fits_few c.make_ready.new.vol.buf c.args.vol.now.geometry.device (length c.args.key.now) (length c.args.payload.now) c.in_ok-place.ensures.fits

pub append-requires-clause-room : goal.append-requires-clause-room
append-requires-clause-room g c =
    let v1 = c.make_ready.new.vol in
    let geometry : v1.buf.geometry ≡ c.args.vol.now.geometry = c.in_ok-place.ensures.unit.buffer.0 ∙ ap (λ (v : Vol). v.geometry) c.in_ok-place.ensures.others in
    let lawful : is_track_size c.args.vol.now.geometry.device v1.buf.geometry.track_size ≡ true = subst (λ (x : Geometry). is_track_size x.device v1.buf.geometry.track_size ≡ true) geometry c.in_ok-place.ensures.roomy.track.whole.track_size in
    fits_room v1.buf c.args.vol.now.geometry.device (length c.args.key.now) (length c.args.payload.now) c.in_ok-place.ensures.fits lawful

pub returns-in_err-append-clause-spares : goal.returns-in_err-append-clause-spares
returns-in_err-append-clause-spares g c told is =
    let v1 = c.make_ready.new.vol in
    let units = c.in_ok-place.ensures.faults.units in
    let ready = c.in_ok-place.ensures.ready told is in
    let geometry : v1.buf.geometry ≡ c.args.vol.now.geometry = c.in_ok-place.ensures.unit.buffer.0 ∙ ap (λ (v : Vol). v.geometry) c.in_ok-place.ensures.others in
    let lawful : is_track_size c.args.vol.now.geometry.device v1.buf.geometry.track_size ≡ true = subst (λ (x : Geometry). is_track_size x.device v1.buf.geometry.track_size ≡ true) geometry c.in_ok-place.ensures.roomy.track.whole.track_size in
    call_spares (g.H.Hall.meaning c.args.hall.now) (g.H.Hall.meaning c.make_ready.new.hall) (g.H.Hall.meaning c.append.new.hall) (g.H.Hall.facts c.args.hall.now) (g.H.Hall.facts c.make_ready.new.hall) (g.H.Hall.facts c.append.new.hall) c.args.vol.now v1 c.args.writer.now is (length c.args.key.now) (length c.args.payload.now) c.in_ok-place.place c.in_ok-place.ensures.others c.in_ok-place.ensures.unit units ready c.in_ok-place.ensures.numbers.0 c.in_ok-place.ensures.numbers.1 c.args.key.now c.args.payload.now refl c.in_ok-place.place c.append.result _ (c.in_ok-place.ensures.spares told is) (fits_room v1.buf c.args.vol.now.geometry.device (length c.args.key.now) (length c.args.payload.now) c.in_ok-place.ensures.fits lawful) (c.append.ensures.files told)

pub returns-clause-put : goal.returns-clause-put
returns-clause-put g c told is =
    let units = c.in_ok-place.ensures.faults.units in
    let ready = c.in_ok-place.ensures.ready told is in
    call_puts (g.H.Hall.meaning c.args.hall.now) (g.H.Hall.meaning c.make_ready.new.hall) (g.H.Hall.meaning c.append.new.hall) (g.H.Hall.facts c.args.hall.now) (g.H.Hall.facts c.make_ready.new.hall) (g.H.Hall.facts c.append.new.hall) c.args.vol.now c.make_ready.new.vol c.args.writer.now is (length c.args.key.now) (length c.args.payload.now) c.in_ok-place.place c.in_ok-place.ensures.others c.in_ok-place.ensures.unit units ready c.in_ok-place.ensures.numbers.0 c.in_ok-place.ensures.numbers.1 c.args.key.now c.args.payload.now refl c.append.new.buf c.append.ensures.buffer (c.in_ok-append.ensures.record told) c.requires.key c.requires.payload (omega arith) (omega arith) c.saturating_add.result (omega arith)

pub returns-clause-spares : goal.returns-clause-spares
returns-clause-spares g c told is =
    let v1 = c.make_ready.new.vol in
    let units = c.in_ok-place.ensures.faults.units in
    let ready = c.in_ok-place.ensures.ready told is in
    let geometry : v1.buf.geometry ≡ c.args.vol.now.geometry = c.in_ok-place.ensures.unit.buffer.0 ∙ ap (λ (v : Vol). v.geometry) c.in_ok-place.ensures.others in
    let lawful : is_track_size c.args.vol.now.geometry.device v1.buf.geometry.track_size ≡ true = subst (λ (x : Geometry). is_track_size x.device v1.buf.geometry.track_size ≡ true) geometry c.in_ok-place.ensures.roomy.track.whole.track_size in
    call_spares (g.H.Hall.meaning c.args.hall.now) (g.H.Hall.meaning c.make_ready.new.hall) (g.H.Hall.meaning c.append.new.hall) (g.H.Hall.facts c.args.hall.now) (g.H.Hall.facts c.make_ready.new.hall) (g.H.Hall.facts c.append.new.hall) c.args.vol.now v1 c.args.writer.now is (length c.args.key.now) (length c.args.payload.now) c.in_ok-place.place c.in_ok-place.ensures.others c.in_ok-place.ensures.unit units ready c.in_ok-place.ensures.numbers.0 c.in_ok-place.ensures.numbers.1 c.args.key.now c.args.payload.now refl c.in_ok-place.place c.append.result _ (c.in_ok-place.ensures.spares told is) (fits_room v1.buf c.args.vol.now.geometry.device (length c.args.key.now) (length c.args.payload.now) c.in_ok-place.ensures.fits lawful) (c.append.ensures.files told)

pub returns-clause-mounted : goal.returns-clause-mounted
returns-clause-mounted g c told not =
    let is = c.requires.writing told in
    let units = c.in_ok-place.ensures.faults.units in
    let ready = c.in_ok-place.ensures.ready told is in
    call_mounted (g.H.Hall.meaning c.args.hall.now) (g.H.Hall.meaning c.make_ready.new.hall) (g.H.Hall.meaning c.append.new.hall) (g.H.Hall.facts c.args.hall.now) (g.H.Hall.facts c.make_ready.new.hall) (g.H.Hall.facts c.append.new.hall) c.args.vol.now c.make_ready.new.vol c.args.writer.now is (length c.args.key.now) (length c.args.payload.now) c.in_ok-place.place c.in_ok-place.ensures.others c.in_ok-place.ensures.unit units ready c.in_ok-place.ensures.numbers.0 c.in_ok-place.ensures.numbers.1 c.args.key.now c.args.payload.now refl c.append.new.buf c.append.ensures.buffer (c.in_ok-append.ensures.record told)
