use Rattle.std.proofs.Common.{◌≢◌, None, ◌+◌, ◌≤◌, refl, sym, ap, ◌∙◌, subst, arith}
use Rattle.std.specs.Prelude.{Err, Ok, IsErrOf, Result}
use Rattle.std.proofs.lemmas.Result.{err_from_is_err_and}
use Rattle.hall_core.specs.Images.{image_in}
use Rattle.pack_spec.specs.Directories.{part_at, read_to}
use Rattle.stop_model.proofs.MomentLemmas.{same_none}
use Rattle.vol_model.specs.declared.answers.CheckErr.{CheckErr}
use Rattle.vol_model.specs.declared.answers.CheckErr.TheVariants.{Device}
use Rattle.vol_model.specs.declared.contents.Place.{Place}
use Rattle.seq_access.specs.Bodies.{ChecksTrack, FindsBroken, broken_in, data_in, owned_in}
use Rattle.seq_access.proofs.Checked.{at_on, broken_found, end_low, none_found, on_before, part_on_set, set_now, walk_from, walk_more}
use Rattle.seq_access.proofs.checking.check_part_records.Goals as goal

no_fault : IsErrOf {T = Unit {0}} (Ok tt) Device → ⊥
no_fault is = cc

pub loop-k-init : goal.loop-k-init
loop-k-init g c =
    let call = c.in_ok-check_end_track.ensures in
    let f = c.args.set.now in
    let v = c.args.vol.now in
    let end = c.args.end in
    let image = image_in (g.H.Hall.meaning c.args.hall.now) (g.H.Hall.facts c.args.hall.now) v.unit in
    let before = walk_from g.H.Hall.tells (g.H.Hall.facts c.args.hall.now) (g.H.Hall.meaning c.args.hall.now) v (part_on_set f end) end.tt (λ told. same_none _ (g.met.H.Hall.counts_now c.args.hall.now)) (λ told. (c.requires.set told).set.mounted) c.requires.unit
    (λ told j low. at_on image v f end (c.requires.end told) j (c.requires.before told j low)) in
    walk_more g.H.Hall.tells _ _ _ _ v v (part_on_set f end) end.tt before (g.H.Hall.facts c.check_end_track.new.hall) (g.H.Hall.meaning c.check_end_track.new.hall) c.check_end_track.new.vol
    (λ i u b j. refl) call.faults no_fault call.same call.mounted call.others call.unit
    (λ told. subst (λ (p : Place). part_at v.geometry (data_in image v) (owned_in image v f) end p end.tt ≢ None) c.read_to-to.ensures (call.track told))

pub check_part_track-requires-clause-set : goal.check_part_track-requires-clause-set
check_part_track-requires-clause-set g c told =
    set_now g.H.Hall.tells _ _ _ _ c.args.vol.now c.loop-k.vol (part_on_set c.args.set.now c.args.end) (c.loop-k.k + 1) c.loop-k.invariant c.args.set.now told (c.requires.set told)

pub loop-k-preserved : goal.loop-k-preserved
loop-k-preserved g c =
    let call = c.in_ok-check_part_track.ensures in
    let v = c.loop-k.vol in
    let now = image_in (g.H.Hall.meaning c.loop-k.hall) (g.H.Hall.facts c.loop-k.hall) v.unit in
    walk_more g.H.Hall.tells _ _ _ _ c.args.vol.now v (part_on_set c.args.set.now c.args.end) (c.loop-k.k + 1) c.loop-k.invariant (g.H.Hall.facts c.check_part_track.new.hall) (g.H.Hall.meaning c.check_part_track.new.hall) c.check_part_track.new.vol
    (λ i u b j. refl) call.faults no_fault call.same call.mounted call.others call.unit
    (λ told. subst (λ (p : Place). part_at v.geometry (data_in now v) (owned_in now v c.args.set.now) c.args.end p (c.loop-k.k + 1) ≢ None) c.read_to-to.ensures (call.track told))

pub returns-in_err-check_end_track-clause-broken : goal.returns-in_err-check_end_track-clause-broken
returns-in_err-check_end_track-clause-broken g c told =
    let f = c.args.set.now in
    let v = c.args.vol.now in
    let end = c.args.end in
    let image = image_in (g.H.Hall.meaning c.args.hall.now) (g.H.Hall.facts c.args.hall.now) v.unit in
    let p = err_from_is_err_and c.from_residual.result c.from_residual.ensures.1 in
    let e = c.in_err-check_end_track.field-0.0 in
    let at = c.requires.end told in
    let there : ChecksTrack {T = Unit {0}} (Err e) end.tt (part_on_set f end image v end.tt) =
    subst (λ (q : Place). ChecksTrack {T = Unit {0}} (Err e) end.tt (part_at v.geometry (data_in image v) (owned_in image v f) end q end.tt)) c.read_to-to.ensures (c.in_err-check_end_track.ensures.track told) in
    subst (λ (r : Result (Unit {0}) CheckErr). FindsBroken r (broken_in image v f)) (sym (p.1 ∙ ap Err p.2))
    (broken_found image v f end at end.tt e (end_low image v f end at) (λ j low. at_on image v f end at j (c.requires.before told j low)) there)

pub returns-in_err-check_part_track-clause-broken : goal.returns-in_err-check_part_track-clause-broken
returns-in_err-check_part_track-clause-broken g c told =
    let f = c.args.set.now in
    let v = c.loop-k.vol in
    let end = c.args.end in
    let image = image_in (g.H.Hall.meaning c.args.hall.now) (g.H.Hall.facts c.args.hall.now) c.args.vol.now.unit in
    let now = image_in (g.H.Hall.meaning c.loop-k.hall) (g.H.Hall.facts c.loop-k.hall) v.unit in
    let p = err_from_is_err_and c.from_residual-in_err-check_part_track.result c.from_residual-in_err-check_part_track.ensures.1 in
    let e = c.in_err-check_part_track.field-0.0 in
    let low : c.loop-k.k + 1 ≤ c.read_to-to.result.tt = omega (arith, c.loop-k-test.true) in
    let same = on_before g.H.Hall.tells _ _ _ _ c.args.vol.now v (part_on_set f end) (c.loop-k.k + 1) c.loop-k.invariant (λ i u b j. refl) told (c.loop-k.k + 1) in
    let there : ChecksTrack {T = Unit {0}} (Err e) (c.loop-k.k + 1) (part_on_set f end now v (c.loop-k.k + 1)) =
    subst (λ (q : Place). ChecksTrack {T = Unit {0}} (Err e) (c.loop-k.k + 1) (part_at v.geometry (data_in now v) (owned_in now v f) end q (c.loop-k.k + 1))) c.read_to-to.ensures (c.in_err-check_part_track.ensures.track told) in
    subst (λ (r : Result (Unit {0}) CheckErr). FindsBroken r (broken_in image c.args.vol.now f)) (sym (p.1 ∙ ap Err p.2))
    (broken_found image c.args.vol.now f end (c.requires.end told) (c.loop-k.k + 1) e (subst (λ (q : Place). c.loop-k.k + 1 ≤ q.tt) c.read_to-to.ensures low) (c.loop-k.invariant.read told) (subst (ChecksTrack {T = Unit {0}} (Err e) (c.loop-k.k + 1)) same there))

pub returns-clause-broken : goal.returns-clause-broken
returns-clause-broken g c told =
    let f = c.args.set.now in
    let end = c.args.end in
    let image = image_in (g.H.Hall.meaning c.args.hall.now) (g.H.Hall.facts c.args.hall.now) c.args.vol.now.unit in
    let past : c.read_to-to.result.tt ≤ c.loop-k.k = omega (arith, c.loop-k-test.false) in
    let all : (read_to end f.lstar).tt ≤ c.loop-k.k = subst (λ (q : Place). q.tt ≤ c.loop-k.k) c.read_to-to.ensures past in
    none_found image c.args.vol.now f end (c.requires.end told) (λ j low. c.loop-k.invariant.read told j (omega (arith, low, all)))
