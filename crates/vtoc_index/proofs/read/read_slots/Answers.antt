use Rattle.std.proofs.Common.{inl, refl, sym, ap, subst, ◌∙◌, ℕ, List, None}
use Rattle.std.specs.Prelude.{Ok, Err}
use Rattle.std.proofs.lemmas.Result.{err_from_is_err_and}
use Rattle.hall_core.specs.Images.{image_of}
use Rattle.pack_spec.specs.Volume.{volume_within}
use Rattle.pack_spec.specs.declared.MountErr.TheVariants.{Memory}
use Rattle.vtoc_index.specs.Reading.{AreTracksRead}
use Rattle.pack_spec.specs.Vtoc.{vtoc_on}
use Rattle.vtoc_index.proofs.CallsMade.{refuses_at, track_reason}
use Rattle.vtoc_index.proofs.Images.{same_image}
use Rattle.vtoc_index.proofs.Reasons.{refuses_same}
use Rattle.vtoc_index.proofs.TracksRead.{first_refused, first_read, slots_are}
use Rattle.vtoc_index.proofs.read.read_slots.Goals as goal

pub returns-in_err-add-clause-refused : goal.returns-in_err-add-clause-refused
returns-in_err-add-clause-refused g c told =
    let at = c.args.at in
    let image = image_of (g.H.Hall.meaning c.args.hall.now).state (g.H.Hall.facts c.args.hall.now) c.args.unit in
    let vtoc = c.in_ok-vtoc.vtoc in
    let p = err_from_is_err_and c.from_residual-in_err-add.result c.from_residual-in_err-add.ensures.1 in
    refuses_at (volume_within image c.args.geometry (vtoc_on image c.args.geometry at)) c.from_residual-in_err-add.result c.in_err-add.field-0.0 (p.1 ∙ ap Err p.2)
    (track_reason (volume_within image c.args.geometry (vtoc_on image c.args.geometry at)) c.in_err-add.field-0.0 Memory vtoc.start _ (inl refl) c.in_err-add.ensures.refused
    (λ none.
    first_refused image c.args.geometry at vtoc (c.in_ok-vtoc.ensures.extent told) c.in_ok-vtoc.ensures.numbers.0
    (slots_are image c.args.geometry vtoc.start c.read_first.new.buf.records None (c.in_ok-vtoc.ensures.read told) none)))

pub returns-in_err-read_others-clause-refused : goal.returns-in_err-read_others-clause-refused
returns-in_err-read_others-clause-refused g c told =
    let at = c.args.at in
    let image = image_of (g.H.Hall.meaning c.args.hall.now).state (g.H.Hall.facts c.args.hall.now) c.args.unit in
    let vtoc = c.in_ok-vtoc.vtoc in
    let same = same_image (g.H.Hall.meaning c.read_first.new.hall).state (g.H.Hall.meaning c.args.hall.now).state (g.H.Hall.facts c.read_first.new.hall) (g.H.Hall.facts c.args.hall.now) c.args.unit (c.in_ok-vtoc.ensures.files told).state c.in_ok-vtoc.ensures.faults.units in
    let first = first_read image c.args.geometry vtoc.start c.read_first.new.buf.records c.new-found.result c.add.new.self c.new-found.ensures.slots c.new-found.ensures.firsts (c.in_ok-vtoc.ensures.read told) c.in_ok-add.ensures.firsts c.in_ok-add.ensures.slots in
    let p = err_from_is_err_and c.from_residual-in_err-read_others.result c.from_residual-in_err-read_others.ensures.1 in
    refuses_at (volume_within image c.args.geometry (vtoc_on image c.args.geometry at)) c.from_residual-in_err-read_others.result c.in_err-read_others.field-0.0 (p.1 ∙ ap Err p.2)
    (refuses_same (volume_within image c.args.geometry (vtoc_on image c.args.geometry at))
    (ap (λ (i : List ℕ). volume_within i c.args.geometry (Ok vtoc)) same ∙ ap (volume_within image c.args.geometry) (sym (c.in_ok-vtoc.ensures.extent told)))
    (c.in_err-read_others.ensures.refused told (subst (λ (i : List ℕ). AreTracksRead i c.args.geometry vtoc.start 1 c.add.new.self) (sym same) first)))

pub returns-clause-read : goal.returns-clause-read
returns-clause-read g c told =
    let image = image_of (g.H.Hall.meaning c.args.hall.now).state (g.H.Hall.facts c.args.hall.now) c.args.unit in
    let vtoc = c.in_ok-vtoc.vtoc in
    let same = same_image (g.H.Hall.meaning c.read_first.new.hall).state (g.H.Hall.meaning c.args.hall.now).state (g.H.Hall.facts c.read_first.new.hall) (g.H.Hall.facts c.args.hall.now) c.args.unit (c.in_ok-vtoc.ensures.files told).state c.in_ok-vtoc.ensures.faults.units in
    let first = first_read image c.args.geometry vtoc.start c.read_first.new.buf.records c.new-found.result c.add.new.self c.new-found.ensures.slots c.new-found.ensures.firsts (c.in_ok-vtoc.ensures.read told) c.in_ok-add.ensures.firsts c.in_ok-add.ensures.slots in
    subst (λ (i : List ℕ). AreTracksRead i c.args.geometry vtoc.start vtoc.len c.read_others.new.found) same
    (c.in_ok-read_others.ensures.read told (subst (λ (i : List ℕ). AreTracksRead i c.args.geometry vtoc.start 1 c.add.new.self) (sym same) first))
