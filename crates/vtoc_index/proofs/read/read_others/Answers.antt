use Rattle.std.proofs.Common.{◌≡◌, ◌≢◌, ◌+◌, ◌-◌, ◌<◌, inl, inr, ⊎_elim, refl, sym, ap, subst, ◌∙◌, arith, ℕ, List, None}
use Rattle.std.specs.Prelude.{Ok, Err}
use Rattle.std.proofs.lemmas.Result.{err_from_is_err_and}
use Rattle.ckd_image.specs.declared.header.Geometry.{Geometry}
use Rattle.hall_core.specs.Images.{image_of}
use Rattle.stop_model.proofs.MomentLemmas.{same_none, same_then}
use Rattle.pack_spec.specs.Label.{records_on}
use Rattle.pack_spec.specs.Slots.{slots_on}
use Rattle.pack_spec.specs.Volume.{volume_within}
use Rattle.pack_spec.specs.declared.MountErr.TheVariants.{Device, Memory, VtocTrack}
use Rattle.vtoc_index.specs.Reading.{AreNumbered, AreTracksRead}
use Rattle.vtoc_index.proofs.CallsMade.{buffer_read, call_done, call_fails, call_stays, has_track, refuses_at, not_device, stands_whole, stay_more, stay_none, track_reason}
use Rattle.vtoc_index.proofs.Images.{same_image}
use Rattle.vtoc_index.proofs.TracksRead.{numbered_more, read_more, slots_are, track_refused}
use Rattle.vtoc_index.proofs.read.read_others.Goals as goal

pub loop-track-init : goal.loop-track-init
loop-track-init g c =
    let start = c.args.vtoc.start in
    let one : 1 ≡ start + 1 - start = omega arith in
    let image = image_of (g.H.Hall.meaning c.args.hall.now).state (g.H.Hall.facts c.args.hall.now) c.args.unit in
    record {
      facts = stay_none _;
      told = λ told. same_none _ (g.met.H.Hall.counts_now c.args.hall.now);
      geometry = c.requires.buffer.0;
      unit_is = c.requires.buffer.1;
      numbers = subst (λ (n : ℕ). AreNumbered n c.args.found.now) one c.requires.numbers;
      read = λ told first. subst (λ (n : ℕ). AreTracksRead image c.args.geometry start n c.args.found.now) one first;
      stands = λ told stands. stands;
    }

pub read_track-requires : goal.read_track-requires
read_track-requires g c =
    let l = c.loop-track in
    has_track _ _ _ _ _ _ l.invariant.facts.units l.invariant.geometry c.requires.attached c.requires.whole (omega (arith, c.loop-track-test.true, c.requires.inside))

pub returns-in_err-count-clause-refused : goal.returns-in_err-count-clause-refused
returns-in_err-count-clause-refused g c told first =
    let l = c.loop-track in
    let start = c.args.vtoc.start in
    let image = image_of (g.H.Hall.meaning c.args.hall.now).state (g.H.Hall.facts c.args.hall.now) c.args.unit in
    let seen = image_of (g.H.Hall.meaning l.hall).state (g.H.Hall.facts l.hall) c.args.unit in
    let same = same_image (g.H.Hall.meaning l.hall).state (g.H.Hall.meaning c.args.hall.now).state (g.H.Hall.facts l.hall) (g.H.Hall.facts c.args.hall.now) c.args.unit (l.invariant.told told).state l.invariant.facts.units in
    let p = err_from_is_err_and c.from_residual.result c.from_residual.ensures.1 in
    let at : l.track ≡ start + (l.track - start) = omega (arith, l.auto.track) in
    let low : l.track - start < c.args.vtoc.len = omega (arith, l.auto.track, c.loop-track-test.true) in
    refuses_at (volume_within image c.args.geometry (Ok c.args.vtoc)) c.from_residual.result c.in_err-count.field-0.0 (p.1 ∙ ap Err p.2)
    (track_reason (volume_within image c.args.geometry (Ok c.args.vtoc)) c.in_err-count.field-0.0 Device l.track _ (inr refl) (c.in_err-count.ensures.refused told)
    (λ none.
    let there = ap (λ (i : List ℕ). slots_on i c.args.geometry l.track) (sym same) ∙ ap (λ (x : Geometry). slots_on seen x l.track) (sym l.invariant.geometry) ∙ none in
    track_refused image c.args.geometry start (l.track - start) c.args.vtoc.len l.track at low (l.invariant.read told first).tracks there))

pub returns-in_err-count-clause-buffer : goal.returns-in_err-count-clause-buffer
returns-in_err-count-clause-buffer g c =
    let read = buffer_read c.loop-track.buf c.read_track.new.buf c.args.unit c.loop-track.track c.read_track.new.buf.records c.in_err-count.ensures.buffer in
    (read.geometry ∙ c.loop-track.invariant.geometry, read.unit_is)

pub returns-in_err-count-clause-files : goal.returns-in_err-count-clause-files
returns-in_err-count-clause-files g c told = same_then (c.loop-track.invariant.told told) (c.in_err-count.ensures.files told)

pub returns-in_err-count-clause-faults : goal.returns-in_err-count-clause-faults
returns-in_err-count-clause-faults g c =
    let p = err_from_is_err_and c.from_residual.result c.from_residual.ensures.1 in
    call_fails _ _ _ c.in_err-count.field-0.0 c.from_residual.result c.loop-track.invariant.facts c.in_err-count.ensures.faults (p.1 ∙ ap Err p.2)

pub add-requires-clause-few : goal.add-requires-clause-few
add-requires-clause-few g c =
    let l = c.loop-track in
    omega (arith, l.invariant.numbers.few, l.auto.track, c.loop-track-test.true, c.requires.tracks.1)

pub returns-in_err-add-clause-refused : goal.returns-in_err-add-clause-refused
returns-in_err-add-clause-refused g c told first =
    let l = c.loop-track in
    let start = c.args.vtoc.start in
    let image = image_of (g.H.Hall.meaning c.args.hall.now).state (g.H.Hall.facts c.args.hall.now) c.args.unit in
    let seen = image_of (g.H.Hall.meaning l.hall).state (g.H.Hall.facts l.hall) c.args.unit in
    let same = same_image (g.H.Hall.meaning l.hall).state (g.H.Hall.meaning c.args.hall.now).state (g.H.Hall.facts l.hall) (g.H.Hall.facts c.args.hall.now) c.args.unit (l.invariant.told told).state l.invariant.facts.units in
    let p = err_from_is_err_and c.from_residual-in_err-add.result c.from_residual-in_err-add.ensures.1 in
    let at : l.track ≡ start + (l.track - start) = omega (arith, l.auto.track) in
    let low : l.track - start < c.args.vtoc.len = omega (arith, l.auto.track, c.loop-track-test.true) in
    let read = ap (λ (i : List ℕ). records_on i c.args.geometry None l.track) (sym same) ∙ ap (λ (x : Geometry). records_on seen x None l.track) (sym l.invariant.geometry) ∙ c.in_ok-count.ensures.read told in
    refuses_at (volume_within image c.args.geometry (Ok c.args.vtoc)) c.from_residual-in_err-add.result c.in_err-add.field-0.0 (p.1 ∙ ap Err p.2)
    (track_reason (volume_within image c.args.geometry (Ok c.args.vtoc)) c.in_err-add.field-0.0 Memory l.track _ (inl refl) c.in_err-add.ensures.refused
    (λ none.
    track_refused image c.args.geometry start (l.track - start) c.args.vtoc.len l.track at low (l.invariant.read told first).tracks (slots_are image c.args.geometry l.track c.read_track.new.buf.records None read none)))

pub returns-in_err-add-clause-buffer : goal.returns-in_err-add-clause-buffer
returns-in_err-add-clause-buffer g c =
    let read = buffer_read c.loop-track.buf c.read_track.new.buf c.args.unit c.loop-track.track c.read_track.new.buf.records c.in_ok-count.ensures.buffer in
    (read.geometry ∙ c.loop-track.invariant.geometry, read.unit_is)

pub returns-in_err-add-clause-files : goal.returns-in_err-add-clause-files
returns-in_err-add-clause-files g c told = same_then (c.loop-track.invariant.told told) (c.in_ok-count.ensures.files told)

pub returns-in_err-add-clause-faults : goal.returns-in_err-add-clause-faults
returns-in_err-add-clause-faults g c =
    let p = err_from_is_err_and c.from_residual-in_err-add.result c.from_residual-in_err-add.ensures.1 in
    let other : c.in_err-add.field-0.0 ≢ Device = λ is. ⊎_elim (λ memory. let no : Memory ≡ Device = sym memory ∙ is in cc) (λ why. let no : VtocTrack c.loop-track.track ≡ Device = sym why.0 ∙ is in cc) c.in_err-add.ensures.refused in
    call_stays _ _ c.from_residual-in_err-add.result (stay_more _ _ _ c.in_ok-count.count c.loop-track.invariant.facts c.in_ok-count.ensures.faults) (not_device (p.1 ∙ ap Err p.2) other)

pub loop-track-preserved : goal.loop-track-preserved
loop-track-preserved g c =
    let l = c.loop-track in
    let start = c.args.vtoc.start in
    let image = image_of (g.H.Hall.meaning c.args.hall.now).state (g.H.Hall.facts c.args.hall.now) c.args.unit in
    let next : l.track - start + 1 ≡ l.track + 1 - start = omega (arith, l.auto.track) in
    let at : l.track ≡ start + (l.track - start) = omega (arith, l.auto.track) in
    let held = buffer_read l.buf c.read_track.new.buf c.args.unit l.track c.read_track.new.buf.records c.in_ok-count.ensures.buffer in
    let geometry : c.read_track.new.buf.geometry ≡ c.args.geometry = held.geometry ∙ l.invariant.geometry in
    let few = c.in_ok-add.ensures.few in
    record {
      facts = stay_more _ _ _ c.in_ok-count.count l.invariant.facts c.in_ok-count.ensures.faults;
      told = λ told. same_then (l.invariant.told told) (c.in_ok-count.ensures.files told);
      geometry = geometry;
      unit_is = held.unit_is;
      numbers = subst (λ (n : ℕ). AreNumbered n c.add.new.self) next (numbered_more c.args.geometry l.track (l.track - start) few.0 c.read_track.new.buf.records l.found c.add.new.self l.invariant.numbers c.in_ok-add.ensures.firsts few.1 few.2 c.in_ok-add.ensures.slots);
      read = λ told first.
          let seen = image_of (g.H.Hall.meaning l.hall).state (g.H.Hall.facts l.hall) c.args.unit in
          let same = same_image (g.H.Hall.meaning l.hall).state (g.H.Hall.meaning c.args.hall.now).state (g.H.Hall.facts l.hall) (g.H.Hall.facts c.args.hall.now) c.args.unit (l.invariant.told told).state l.invariant.facts.units in
          let read = ap (λ (i : List ℕ). records_on i c.args.geometry None l.track) (sym same) ∙ ap (λ (x : Geometry). records_on seen x None l.track) (sym l.invariant.geometry) ∙ c.in_ok-count.ensures.read told in
          subst (λ (n : ℕ). AreTracksRead image c.args.geometry start n c.add.new.self) next
          (read_more image c.args.geometry start (l.track - start) l.track c.read_track.new.buf.records l.found c.add.new.self at (l.invariant.read told first) read c.in_ok-add.ensures.firsts c.in_ok-add.ensures.slots);
      stands = λ told _.
          let seen = image_of (g.H.Hall.meaning l.hall).state (g.H.Hall.facts l.hall) c.args.unit in
          let same = same_image (g.H.Hall.meaning l.hall).state (g.H.Hall.meaning c.args.hall.now).state (g.H.Hall.facts l.hall) (g.H.Hall.facts c.args.hall.now) c.args.unit (l.invariant.told told).state l.invariant.facts.units in
          let read = ap (λ (i : List ℕ). records_on i c.args.geometry None l.track) (sym same) ∙ ap (λ (x : Geometry). records_on seen x None l.track) (sym l.invariant.geometry) ∙ c.in_ok-count.ensures.read told in
          stands_whole image c.read_track.new.buf c.args.geometry l.track geometry held.track_is read;
    }

pub returns-clause-read : goal.returns-clause-read
returns-clause-read g c told first =
    let l = c.loop-track in
    let image = image_of (g.H.Hall.meaning c.args.hall.now).state (g.H.Hall.facts c.args.hall.now) c.args.unit in
    let all : l.track - c.args.vtoc.start ≡ c.args.vtoc.len = omega (arith, c.loop-track-test.false, l.auto.track, l.auto.track-end, c.requires.tracks.0) in
    subst (λ (n : ℕ). AreTracksRead image c.args.geometry c.args.vtoc.start n l.found) all (l.invariant.read told first)

pub returns-clause-stands : goal.returns-clause-stands
returns-clause-stands g c told stands = c.loop-track.invariant.stands told stands

pub returns-clause-numbers : goal.returns-clause-numbers
returns-clause-numbers g c =
    let l = c.loop-track in
    let all : l.track - c.args.vtoc.start ≡ c.args.vtoc.len = omega (arith, c.loop-track-test.false, l.auto.track, l.auto.track-end, c.requires.tracks.0) in
    subst (λ (n : ℕ). AreNumbered n l.found) all l.invariant.numbers

pub returns-clause-buffer : goal.returns-clause-buffer
returns-clause-buffer g c = (c.loop-track.invariant.geometry, c.loop-track.invariant.unit_is)

pub returns-clause-files : goal.returns-clause-files
returns-clause-files g c told = c.loop-track.invariant.told told

pub returns-clause-faults : goal.returns-clause-faults
returns-clause-faults g c = call_done _ _ tt c.loop-track.invariant.facts
