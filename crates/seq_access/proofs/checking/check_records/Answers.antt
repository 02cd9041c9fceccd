use Rattle.std.proofs.Common.{◌≢◌, [], None, ◌+◌, ◌<◌, ◌≤◌, refl, sym, ap, ◌∙◌, subst, arith}
use Rattle.std.specs.Prelude.{Err, Ok, IsErrOf, Result}
use Rattle.std.proofs.lemmas.Result.{err_from_is_err_and}
use Rattle.hall_core.specs.Images.{image_in}
use Rattle.pack_spec.specs.Blocks.{blocks_at, last_of}
use Rattle.stop_model.proofs.MomentLemmas.{same_none}
use Rattle.vol_model.specs.declared.answers.CheckErr.{CheckErr}
use Rattle.vol_model.specs.declared.answers.CheckErr.TheVariants.{Device}
use Rattle.vol_model.specs.declared.contents.Place.{Place}
use Rattle.vtoc_sets.specs.Sets.{extents_in}
use Rattle.seq_access.specs.Bodies.{Checks, ChecksTrack, body_in, data_in, owned_in}
use Rattle.seq_access.proofs.BodyWalks.{body_none}
use Rattle.seq_access.proofs.Checked.{blocks_on_set, body_found, body_unread, on_before, set_now, walk_more, walk_none}
use Rattle.seq_access.proofs.checking.check_records.Goals as goal

no_fault : IsErrOf {T = Unit {0}} (Ok tt) Device → ⊥
no_fault is = cc

pub loop-k-init : goal.loop-k-init
loop-k-init g c =
    walk_none g.H.Hall.tells (g.H.Hall.facts c.args.hall.now) (g.H.Hall.meaning c.args.hall.now) c.args.vol.now (blocks_on_set c.args.set.now) (λ told. same_none _ (g.met.H.Hall.counts_now c.args.hall.now)) (λ told. (c.requires.set told).set.mounted) c.requires.unit

pub check_track-requires-clause-set : goal.check_track-requires-clause-set
check_track-requires-clause-set g c told =
    set_now g.H.Hall.tells _ _ _ _ c.args.vol.now c.loop-k.vol (blocks_on_set c.args.set.now) c.loop-k.k c.loop-k.invariant c.args.set.now told (c.requires.set told)

pub loop-k-preserved : goal.loop-k-preserved
loop-k-preserved g c =
    let call = c.in_ok-check_track.ensures in
    let v = c.loop-k.vol in
    let now = image_in (g.H.Hall.meaning c.loop-k.hall) (g.H.Hall.facts c.loop-k.hall) v.unit in
    walk_more g.H.Hall.tells _ _ _ _ c.args.vol.now v (blocks_on_set c.args.set.now) c.loop-k.k c.loop-k.invariant (g.H.Hall.facts c.check_track.new.hall) (g.H.Hall.meaning c.check_track.new.hall) c.check_track.new.vol
    (λ i u b j. refl) call.faults no_fault call.same call.mounted call.others call.unit
    (λ told. subst (λ (p : Place). blocks_at v.geometry (data_in now v) (owned_in now v c.args.set.now) p c.loop-k.k ≢ None) c.last_of-last.ensures (call.track told))

pub returns-then-has_no_block-clause-body : goal.returns-then-has_no_block-clause-body
returns-then-has_no_block-clause-body g c told =
    let image = image_in (g.H.Hall.meaning c.args.hall.now) (g.H.Hall.facts c.args.hall.now) c.args.vol.now.unit in
    ([], body_none c.args.vol.now.geometry (data_in image c.args.vol.now) (extents_in image c.args.vol.now c.args.set.now) c.args.set.now.lstar (sym c.if-has_no_block.ensures))

pub returns-in_err-check_track-clause-body : goal.returns-in_err-check_track-clause-body
returns-in_err-check_track-clause-body g c told =
    let f = c.args.set.now in
    let v = c.loop-k.vol in
    let image = image_in (g.H.Hall.meaning c.args.hall.now) (g.H.Hall.facts c.args.hall.now) c.args.vol.now.unit in
    let now = image_in (g.H.Hall.meaning c.loop-k.hall) (g.H.Hall.facts c.loop-k.hall) v.unit in
    let p = err_from_is_err_and c.from_residual.result c.from_residual.ensures.1 in
    let e = c.in_err-check_track.field-0.0 in
    let low : c.loop-k.k ≤ c.last_of-last.result.tt = omega (arith, c.loop-k-test.true) in
    let same = on_before g.H.Hall.tells _ _ _ _ c.args.vol.now v (blocks_on_set f) c.loop-k.k c.loop-k.invariant (λ i u b j. refl) told c.loop-k.k in
    let there : ChecksTrack {T = Unit {0}} (Err e) c.loop-k.k (blocks_on_set f now v c.loop-k.k) =
    subst (λ (q : Place). ChecksTrack {T = Unit {0}} (Err e) c.loop-k.k (blocks_at v.geometry (data_in now v) (owned_in now v f) q c.loop-k.k)) c.last_of-last.ensures (c.in_err-check_track.ensures.track told) in
    subst (λ (r : Result (Unit {0}) CheckErr). Checks r (body_in image c.args.vol.now f)) (sym (p.1 ∙ ap Err p.2))
    (body_unread image c.args.vol.now f (sym c.if-has_no_block.ensures) c.loop-k.k e (subst (λ (q : Place). c.loop-k.k ≤ q.tt) c.last_of-last.ensures low) (c.loop-k.invariant.read told) (subst (ChecksTrack {T = Unit {0}} (Err e) c.loop-k.k) same there))

pub returns-in_ok-check_track-clause-body : goal.returns-in_ok-check_track-clause-body
returns-in_ok-check_track-clause-body g c told =
    let call = c.in_ok-check_track.ensures in
    let f = c.args.set.now in
    let v = c.loop-k.vol in
    let image = image_in (g.H.Hall.meaning c.args.hall.now) (g.H.Hall.facts c.args.hall.now) c.args.vol.now.unit in
    let now = image_in (g.H.Hall.meaning c.loop-k.hall) (g.H.Hall.facts c.loop-k.hall) v.unit in
    let past : c.last_of-last.result.tt < c.loop-k.k + 1 = omega arith in
    let more = walk_more g.H.Hall.tells _ _ _ _ c.args.vol.now v (blocks_on_set f) c.loop-k.k c.loop-k.invariant (g.H.Hall.facts c.check_track.new.hall) (g.H.Hall.meaning c.check_track.new.hall) c.check_track.new.vol
    (λ i u b j. refl) call.faults no_fault call.same call.mounted call.others call.unit
    (λ told. subst (λ (p : Place). blocks_at v.geometry (data_in now v) (owned_in now v f) p c.loop-k.k ≢ None) c.last_of-last.ensures (call.track told)) in
    let all : (last_of f.lstar).tt < c.loop-k.k + 1 = subst (λ (q : Place). q.tt < c.loop-k.k + 1) c.last_of-last.ensures past in
    body_found image c.args.vol.now f (sym c.if-has_no_block.ensures) (λ j low. more.read told j (omega (arith, low, all)))
