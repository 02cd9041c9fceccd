use Rattle.std.proofs.Common.{◌≡◌, ◌≢◌, ℕ, Bool, false, IsTrue, None, ◌<◌, ◌≤◌, refl, sym, ap, ◌∙◌, subst, arith}
use Rattle.std.specs.Prelude.{Err, IfOk, Ok, IsErrOf, Result}
use Rattle.std.proofs.lemmas.Result.{err_from_is_err_and}
use Rattle.dscb_codec.specs.declared.F1.{F1}
use Rattle.hall_core.specs.Facts.{Facts, ReportedCall}
use Rattle.hall_core.specs.Images.{image_in}
use Rattle.stop_model.proofs.MomentLemmas.{same_none}
use Rattle.vol_model.specs.declared.answers.ReadErr.{ReadErr}
use Rattle.vol_model.specs.declared.answers.ReadErr.TheVariants as errors
use Rattle.pds_directory.specs.declared.dir.DirWalk.{DirWalk}
use Rattle.pds_directory.specs.Directories.{ReadsDir, end_in}
use Rattle.pds_directory.specs.Reading.{HoldsWhole, ReadsTrack, at_in, dir_walked}
use Rattle.pds_directory.proofs.DirectoryWalks.{before_now, lawful_dir, part_now, walk_end, walk_err, walk_front, walk_held, walk_more, walk_none, walk_past, walk_place}
use Rattle.vtoc_sets.proofs.OtherBuffers.{call_as}
use Rattle.pds_directory.proofs.reading.walk_dir.Goals as goal

-- a track that was read reports no fault
no_fault : {f0 f1 : Facts} (ended : Bool) → ReportedCall (IsErrOf {T = Bool} (Ok ended) errors.Device) f0 f1 → ReportedCall ⊥ f0 f1
no_fault ended call = call_as call (λ is. cc) (λ none. absurd none)

pub loop-k-init : goal.loop-k-init
loop-k-init g c =
    walk_none g.H.Hall.tells (g.H.Hall.facts c.args.hall.now) (g.H.Hall.meaning c.args.hall.now) c.args.vol.now c.set_at-set.result (record { dir = record { blocks = c.new.result; places = c.new-2.result; end = record { tt = 0; r = 0 } }; ended = false; whole = false })
    (λ told. same_none _ (g.met.H.Hall.counts_now c.args.hall.now)) (λ told. c.requires.part told c.set_at-set.result c.set_at-set.ensures) c.requires.unit
    (record { ended = refl; blocks = c.new.ensures.items; places = c.new-2.ensures.items })

pub read_track-requires-clause-part : goal.read_track-requires-clause-part
read_track-requires-clause-part g c told =
    part_now g.H.Hall.tells _ _ _ _ c.args.vol.now c.loop-k.vol c.set_at-set.result c.loop-k.k c.loop-k.reading c.loop-k.invariant told (c.requires.part told c.set_at-set.result c.set_at-set.ensures)

pub read_track-requires-clause-before : goal.read_track-requires-clause-before
read_track-requires-clause-before g c told =
    before_now g.H.Hall.tells _ _ _ _ c.args.vol.now c.loop-k.vol c.set_at-set.result c.loop-k.k c.loop-k.reading c.loop-k.invariant told

pub loop-k-preserved : goal.loop-k-preserved
loop-k-preserved g c =
    let call = c.in_ok-ended.ensures in
    let now = image_in (g.H.Hall.meaning c.loop-k.hall) (g.H.Hall.facts c.loop-k.hall) c.loop-k.vol.unit in
    let P : Bool → Type 0 = λ b. ReadsTrack (Ok b) now c.loop-k.vol c.set_at-set.result c.loop-k.k c.read_track.new.reading in
    walk_more g.H.Hall.tells _ _ _ _ c.args.vol.now c.loop-k.vol c.set_at-set.result c.loop-k.k c.loop-k.reading c.loop-k.invariant (g.H.Hall.facts c.read_track.new.hall) (g.H.Hall.meaning c.read_track.new.hall) c.read_track.new.vol c.read_track.new.reading
    (no_fault c.in_ok-ended.ended call.faults) call.same call.mounted call.others call.unit (λ told. subst P c.if-ended.false (call.read told)) call.lawful

pub returns-in_err-ended-clause-dir : goal.returns-in_err-ended-clause-dir
returns-in_err-ended-clause-dir g c told f there =
    let image = image_in (g.H.Hall.meaning c.args.hall.now) (g.H.Hall.facts c.args.hall.now) c.args.vol.now.unit in
    let same : c.set_at-set.result ≡ f = (let set = c.set_at-set.ensures in cc) in
    let p = err_from_is_err_and c.from_residual.result c.from_residual.ensures.1 in
    subst (λ (h : F1). ReadsDir (dir_walked c.from_residual.result) image c.args.vol.now h) same (subst (λ (r : Result DirWalk ReadErr). ReadsDir (dir_walked r) image c.args.vol.now c.set_at-set.result) (sym (p.1 ∙ ap Err p.2))
    (walk_err g.H.Hall.tells _ _ _ _ c.args.vol.now c.loop-k.vol c.set_at-set.result c.loop-k.k c.loop-k.reading c.loop-k.invariant c.read_track.new.reading c.in_err-ended.field-0.0 c.in_err-ended.ensures.read told))

pub returns-then-ended-clause-dir : goal.returns-then-ended-clause-dir
returns-then-ended-clause-dir g c told f there =
    let image = image_in (g.H.Hall.meaning c.args.hall.now) (g.H.Hall.facts c.args.hall.now) c.args.vol.now.unit in
    let now = image_in (g.H.Hall.meaning c.loop-k.hall) (g.H.Hall.facts c.loop-k.hall) c.loop-k.vol.unit in
    let P : Bool → Type 0 = λ b. ReadsTrack (Ok b) now c.loop-k.vol c.set_at-set.result c.loop-k.k c.read_track.new.reading in
    let same : c.set_at-set.result ≡ f = (let set = c.set_at-set.ensures in cc) in
    subst (λ (h : F1). ReadsDir (dir_walked c.finish.result) image c.args.vol.now h) same
    (walk_end g.H.Hall.tells _ _ _ _ c.args.vol.now c.loop-k.vol c.set_at-set.result c.loop-k.k c.loop-k.reading c.loop-k.invariant c.read_track.new.reading c.finish.result (λ yes_told. subst P c.if-ended.true (c.in_ok-ended.ensures.read yes_told)) c.finish.ensures.dir c.finish.ensures.unended told)

pub returns-then-ended-clause-end : goal.returns-then-ended-clause-end
returns-then-ended-clause-end g c told f there =
    let image = image_in (g.H.Hall.meaning c.args.hall.now) (g.H.Hall.facts c.args.hall.now) c.args.vol.now.unit in
    let now = image_in (g.H.Hall.meaning c.loop-k.hall) (g.H.Hall.facts c.loop-k.hall) c.loop-k.vol.unit in
    let P : Bool → Type 0 = λ b. ReadsTrack (Ok b) now c.loop-k.vol c.set_at-set.result c.loop-k.k c.read_track.new.reading in
    let same : c.set_at-set.result ≡ f = (let set = c.set_at-set.ensures in cc) in
    subst (λ (h : F1). IfOk c.finish.result (λ walk. walk.dir.end ≡ end_in image c.args.vol.now h)) same
    (walk_place g.H.Hall.tells _ _ _ _ c.args.vol.now c.loop-k.vol c.set_at-set.result c.loop-k.k c.loop-k.reading c.loop-k.invariant c.read_track.new.reading c.finish.result (λ yes_told. subst P c.if-ended.true (c.in_ok-ended.ensures.read yes_told)) c.finish.ensures.dir told)

pub returns-in_err-ended-clause-end : goal.returns-in_err-ended-clause-end
returns-in_err-ended-clause-end g c told f there =
    let image = image_in (g.H.Hall.meaning c.args.hall.now) (g.H.Hall.facts c.args.hall.now) c.args.vol.now.unit in
    let p = err_from_is_err_and c.from_residual.result c.from_residual.ensures.1 in
    subst (λ (r : Result DirWalk ReadErr). IfOk r (λ walk. walk.dir.end ≡ end_in image c.args.vol.now f)) (sym (p.1 ∙ ap Err p.2)) tt

pub returns-then-ended-clause-before : goal.returns-then-ended-clause-before
returns-then-ended-clause-before g c told f there =
    let image = image_in (g.H.Hall.meaning c.args.hall.now) (g.H.Hall.facts c.args.hall.now) c.args.vol.now.unit in
    let now = image_in (g.H.Hall.meaning c.loop-k.hall) (g.H.Hall.facts c.loop-k.hall) c.loop-k.vol.unit in
    let P : Bool → Type 0 = λ b. ReadsTrack (Ok b) now c.loop-k.vol c.set_at-set.result c.loop-k.k c.read_track.new.reading in
    let same : c.set_at-set.result ≡ f = (let set = c.set_at-set.ensures in cc) in
    subst (λ (h : F1). IfOk c.finish.result (λ walk. (j : ℕ) → j < walk.dir.end.tt → at_in image c.args.vol.now h j ≢ None)) same
    (walk_front g.H.Hall.tells _ _ _ _ c.args.vol.now c.loop-k.vol c.set_at-set.result c.loop-k.k c.loop-k.reading c.loop-k.invariant c.read_track.new.reading c.finish.result (λ yes_told. subst P c.if-ended.true (c.in_ok-ended.ensures.read yes_told)) c.finish.ensures.dir told)

pub returns-in_err-ended-clause-before : goal.returns-in_err-ended-clause-before
returns-in_err-ended-clause-before g c told f there =
    let image = image_in (g.H.Hall.meaning c.args.hall.now) (g.H.Hall.facts c.args.hall.now) c.args.vol.now.unit in
    let p = err_from_is_err_and c.from_residual.result c.from_residual.ensures.1 in
    subst (λ (r : Result DirWalk ReadErr). IfOk r (λ walk. (j : ℕ) → j < walk.dir.end.tt → at_in image c.args.vol.now f j ≢ None)) (sym (p.1 ∙ ap Err p.2)) tt

pub returns-then-ended-clause-held : goal.returns-then-ended-clause-held
returns-then-ended-clause-held g c told f there =
    let image = image_in (g.H.Hall.meaning c.args.hall.now) (g.H.Hall.facts c.args.hall.now) c.args.vol.now.unit in
    let now = image_in (g.H.Hall.meaning c.loop-k.hall) (g.H.Hall.facts c.loop-k.hall) c.loop-k.vol.unit in
    let P : Bool → Type 0 = λ b. ReadsTrack (Ok b) now c.loop-k.vol c.set_at-set.result c.loop-k.k c.read_track.new.reading in
    let same : c.set_at-set.result ≡ f = (let set = c.set_at-set.ensures in cc) in
    let b = c.read_track.new.vol.buf in
    subst (λ (h : F1). IfOk c.finish.result (λ walk. IsTrue walk.whole → HoldsWhole image c.args.vol.now h walk.dir.end.tt b)) same
    (walk_held g.H.Hall.tells _ _ _ _ c.args.vol.now c.loop-k.vol c.set_at-set.result c.loop-k.k c.loop-k.reading c.loop-k.invariant c.read_track.new.reading c.finish.result b (λ yes_told. subst P c.if-ended.true (c.in_ok-ended.ensures.read yes_told))
    (λ yes_told. c.in_ok-ended.ensures.whole yes_told c.if-ended.true) c.finish.ensures.dir c.finish.ensures.whole told)

pub returns-in_err-ended-clause-held : goal.returns-in_err-ended-clause-held
returns-in_err-ended-clause-held g c told f there =
    let image = image_in (g.H.Hall.meaning c.args.hall.now) (g.H.Hall.facts c.args.hall.now) c.args.vol.now.unit in
    let p = err_from_is_err_and c.from_residual.result c.from_residual.ensures.1 in
    subst (λ (r : Result DirWalk ReadErr). IfOk r (λ walk. IsTrue walk.whole → HoldsWhole image c.args.vol.now f walk.dir.end.tt c.read_track.new.vol.buf)) (sym (p.1 ∙ ap Err p.2)) tt

pub returns-then-ended-clause-lawful : goal.returns-then-ended-clause-lawful
returns-then-ended-clause-lawful g c =
    let low : c.loop-k.k < 65535 = omega (arith, c.loop-k-test.true) in
    lawful_dir c.loop-k.k c.read_track.new.reading c.finish.result c.in_ok-ended.ensures.lawful low c.finish.ensures.dir

pub returns-clause-dir : goal.returns-clause-dir
returns-clause-dir g c told f there =
    let image = image_in (g.H.Hall.meaning c.args.hall.now) (g.H.Hall.facts c.args.hall.now) c.args.vol.now.unit in
    let all : 65535 ≤ c.loop-k.k = omega (arith, c.loop-k-test.false) in
    let same : c.set_at-set.result ≡ f = (let set = c.set_at-set.ensures in cc) in
    subst (λ (h : F1). ReadsDir (Err (errors.Unreadable 65535)) image c.args.vol.now h) same
    (walk_past g.H.Hall.tells _ _ _ _ c.args.vol.now c.loop-k.vol c.set_at-set.result c.loop-k.k c.loop-k.reading c.loop-k.invariant all (λ told. c.requires.part told c.set_at-set.result c.set_at-set.ensures) told)
