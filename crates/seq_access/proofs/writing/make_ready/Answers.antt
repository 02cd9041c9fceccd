use Rattle.std.proofs.Common.{◌≡◌, ◌+◌, ◌≤◌, ℕ, List, [], true, false, length, map, Some, refl, sym, ap, ◌∙◌, subst, arith}
use Rattle.std.specs.Prelude.{IfOk, OnOk, slice_get}
use Rattle.std.proofs.lemmas.List.{length-map}
use Rattle.ckd_image.specs.Fit.{fits}
use Rattle.ckd_image.proofs.FitBytes.{fits_bytes}
use Rattle.ckd_image.specs.Track.{Record}
use Rattle.dscb_codec.specs.declared.F1.{F1}
use Rattle.hall_core.specs.Facts.{Attached, unit_of}
use Rattle.hall_core.specs.Images.{image_in}
use Rattle.stop_model.proofs.MomentLemmas.{same_then}
use Rattle.vol_model.specs.declared.contents.Place.{Place}
use Rattle.vtoc_index.specs.declared.vol.Vol.{Vol}
use Rattle.vtoc_index.specs.Index.{IsMounted, IsOfUnit}
use Rattle.seq_access.specs.Bodies.{last_in, owned_in}
use Rattle.seq_access.specs.Writing.{HoldsLast, IsEnded, IsReady, IsWriting, Spares, sizes}
use Rattle.vtoc_index.proofs.Images.{same_image}
use Rattle.vtoc_sets.proofs.OtherBuffers.{call_then}
use Rattle.seq_access.proofs.DeviceCalls.{no_fault}
use Rattle.seq_access.proofs.FirstTracks.{first_faults, first_fits, first_mounted, first_need, first_others, first_ready, first_roomy, first_unit, Turned}
use Rattle.seq_access.proofs.HeldCalls.{IsBehind, behind, if_each, image_kept, on_each, set_now, there_now}
use Rattle.seq_access.proofs.ReadySteps.{needs, ready_by, ready_same}
use Rattle.seq_access.proofs.SparedCalls.{spares_same, spares_then, spares_with}
use Rattle.seq_access.proofs.WritersKept.{same_set, writing_with}
use Rattle.seq_access.proofs.writing.make_ready.Goals as goal

pub overflow_add-result : goal.overflow_add-result
overflow_add-result g c =
    omega (arith, (fits_bytes c.hold_last.new.vol.geometry.device (map sizes c.hold_last.new.vol.buf.records) c.args.lengths.0 c.args.lengths.1 (sym c.if-fits_behind.ensures)).few, length-map c.hold_last.new.vol.buf.records sizes, c.len.ensures)

pub set_at-requires-clause-set : goal.set_at-requires-clause-set
set_at-requires-clause-set g c told = let is = c.requires.writing told in (is.f, is.slot)

pub returns-in_err-set-clause-spares : goal.returns-in_err-set-clause-spares
returns-in_err-set-clause-spares g c told is = spares_same _ c.args.vol.now is.f _ _ _ _ (c.in_err-set.ensures.same told)

pub hold_last-requires-clause-unit : goal.hold_last-requires-clause-unit
hold_last-requires-clause-unit g c = subst (λ (us : List Attached). IsOfUnit us c.args.vol.now) (sym c.in_ok-set.ensures.faults.units) c.requires.unit

pub hold_last-requires-clause-set : goal.hold_last-requires-clause-set
hold_last-requires-clause-set g c told =
    let v = c.args.vol.now in
    let kept = image_kept (g.H.Hall.meaning c.args.hall.now) (g.H.Hall.meaning c.set_at.new.hall) (g.H.Hall.facts c.args.hall.now) (g.H.Hall.facts c.set_at.new.hall) v v (c.in_ok-set.ensures.same told) c.in_ok-set.ensures.faults.units refl in
    set_now _ _ v v c.args.writer c.in_ok-set.set kept c.in_ok-set.ensures.set (c.requires.writing told)

pub hold_last-requires-clause-there : goal.hold_last-requires-clause-there
hold_last-requires-clause-there g c told =
    let v = c.args.vol.now in
    let kept = image_kept (g.H.Hall.meaning c.args.hall.now) (g.H.Hall.meaning c.set_at.new.hall) (g.H.Hall.facts c.args.hall.now) (g.H.Hall.facts c.set_at.new.hall) v v (c.in_ok-set.ensures.same told) c.in_ok-set.ensures.faults.units refl in
    there_now _ _ v v c.args.writer c.in_ok-set.set kept c.in_ok-set.ensures.set (c.requires.writing told) (omega arith) (omega arith) (omega (arith, c.if-writer-eq0.false))

pub returns-in_err-hold_last-clause-spares : goal.returns-in_err-hold_last-clause-spares
returns-in_err-hold_last-clause-spares g c told is = spares_same _ c.args.vol.now is.f _ _ _ _ (same_then (c.in_ok-set.ensures.same told) (c.in_err-hold_last.ensures.same told))

pub returns-then-fits_behind-clause-spares : goal.returns-then-fits_behind-clause-spares
returns-then-fits_behind-clause-spares g c told is = spares_same _ c.args.vol.now is.f _ _ _ _ (same_then (c.in_ok-set.ensures.same told) (c.in_ok-hold_last.ensures.same told))

pub returns-then-writer-eq0-clause-ready : goal.returns-then-writer-eq0-clause-ready
returns-then-writer-eq0-clause-ready g c told =
    let v = c.args.vol.now in
    let v' = c.begin_track.new.vol in
    let m0 = g.H.Hall.meaning c.args.hall.now in
    let m1 = g.H.Hall.meaning c.set_at.new.hall in
    let f0 = g.H.Hall.facts c.args.hall.now in
    let f1 = g.H.Hall.facts c.set_at.new.hall in
    let e = c.begin_track.ensures in
    let t : Turned v v' c.in_ok-set.set c.begin_track.result = record { place = e.place; track = e.track; inside = e.inside; buffer = e.buffer; none = e.none; same = e.same; error = e.error } in
    let kept = same_image m1.state m0.state f1 f0 v.unit (c.in_ok-set.ensures.same told).state c.in_ok-set.ensures.faults.units in
    if_each (λ (p : Place) (is : IsWriting (image_in m0 f0 v.unit) v c.args.writer). IsReady is c.args.lengths.0 c.args.lengths.1 p (image_in m1 f1 v.unit) v') c.begin_track.result
    (λ is.
    subst (λ (i : List ℕ). IfOk c.begin_track.result (λ (p : Place). IsReady is c.args.lengths.0 c.args.lengths.1 p i v')) (sym kept)
    (first_ready (image_in m0 f0 v.unit) v v' c.in_ok-set.set c.begin_track.result c.args.writer is c.args.lengths.0 c.args.lengths.1 t (omega arith) (omega arith) c.if-writer-eq0.true
    (same_set v c.args.writer.slot is.f c.in_ok-set.set is.slot c.in_ok-set.ensures.set)))

pub returns-then-writer-eq0-clause-spares : goal.returns-then-writer-eq0-clause-spares
returns-then-writer-eq0-clause-spares g c told is = spares_same _ c.args.vol.now is.f _ _ _ _ (c.in_ok-set.ensures.same told)

pub returns-then-writer-eq0-clause-roomy : goal.returns-then-writer-eq0-clause-roomy
returns-then-writer-eq0-clause-roomy g c =
    let e = c.begin_track.ensures in
    let t : Turned c.args.vol.now c.begin_track.new.vol c.in_ok-set.set c.begin_track.result = record { place = e.place; track = e.track; inside = e.inside; buffer = e.buffer; none = e.none; same = e.same; error = e.error } in
    first_roomy _ _ c.args.vol.now c.begin_track.new.vol c.in_ok-set.set c.begin_track.result t c.in_ok-set.ensures.faults.units c.requires.unit

pub returns-then-writer-eq0-clause-fits : goal.returns-then-writer-eq0-clause-fits
returns-then-writer-eq0-clause-fits g c =
    let e = c.begin_track.ensures in
    let t : Turned c.args.vol.now c.begin_track.new.vol c.in_ok-set.set c.begin_track.result = record { place = e.place; track = e.track; inside = e.inside; buffer = e.buffer; none = e.none; same = e.same; error = e.error } in
    first_fits c.args.vol.now c.begin_track.new.vol c.in_ok-set.set c.begin_track.result c.args.lengths.0 c.args.lengths.1 t c.requires.lengths

pub returns-then-writer-eq0-clause-need : goal.returns-then-writer-eq0-clause-need
returns-then-writer-eq0-clause-need g c told of is content sizes =
    let v = c.args.vol.now in
    let e = c.begin_track.ensures in
    let t : Turned v c.begin_track.new.vol c.in_ok-set.set c.begin_track.result = record { place = e.place; track = e.track; inside = e.inside; buffer = e.buffer; none = e.none; same = e.same; error = e.error } in
    first_need _ v c.begin_track.new.vol c.in_ok-set.set c.begin_track.result c.args.writer is content t c.if-writer-eq0.true (same_set v c.args.writer.slot is.f c.in_ok-set.set is.slot c.in_ok-set.ensures.set) of

pub returns-then-writer-eq0-clause-mounted : goal.returns-then-writer-eq0-clause-mounted
returns-then-writer-eq0-clause-mounted g c told others =
    let v = c.args.vol.now in
    let v' = c.begin_track.new.vol in
    let m0 = g.H.Hall.meaning c.args.hall.now in
    let f0 = g.H.Hall.facts c.args.hall.now in
    let e = c.begin_track.ensures in
    let t : Turned v v' c.in_ok-set.set c.begin_track.result = record { place = e.place; track = e.track; inside = e.inside; buffer = e.buffer; none = e.none; same = e.same; error = e.error } in
    let kept = same_image (g.H.Hall.meaning c.set_at.new.hall).state m0.state (g.H.Hall.facts c.set_at.new.hall) f0 v.unit (c.in_ok-set.ensures.same told).state c.in_ok-set.ensures.faults.units in
    subst (λ (i : List ℕ). IsMounted i v') (sym kept) (first_mounted (image_in m0 f0 v.unit) v v' c.in_ok-set.set c.begin_track.result t (c.requires.writing told).set.mounted)

pub returns-then-writer-eq0-clause-others : goal.returns-then-writer-eq0-clause-others
returns-then-writer-eq0-clause-others g c =
    let e = c.begin_track.ensures in
    let t : Turned c.args.vol.now c.begin_track.new.vol c.in_ok-set.set c.begin_track.result = record { place = e.place; track = e.track; inside = e.inside; buffer = e.buffer; none = e.none; same = e.same; error = e.error } in
    first_others c.args.vol.now c.begin_track.new.vol c.in_ok-set.set c.begin_track.result t

pub returns-then-writer-eq0-clause-unit : goal.returns-then-writer-eq0-clause-unit
returns-then-writer-eq0-clause-unit g c =
    let e = c.begin_track.ensures in
    let t : Turned c.args.vol.now c.begin_track.new.vol c.in_ok-set.set c.begin_track.result = record { place = e.place; track = e.track; inside = e.inside; buffer = e.buffer; none = e.none; same = e.same; error = e.error } in
    first_unit _ _ c.args.vol.now c.begin_track.new.vol c.in_ok-set.set c.begin_track.result t c.in_ok-set.ensures.faults.units c.requires.unit

pub returns-then-writer-eq0-clause-faults : goal.returns-then-writer-eq0-clause-faults
returns-then-writer-eq0-clause-faults g c =
    let e = c.begin_track.ensures in
    let t : Turned c.args.vol.now c.begin_track.new.vol c.in_ok-set.set c.begin_track.result = record { place = e.place; track = e.track; inside = e.inside; buffer = e.buffer; none = e.none; same = e.same; error = e.error } in
    first_faults _ _ c.args.vol.now c.begin_track.new.vol c.in_ok-set.set c.begin_track.result t (no_fault c.in_ok-set.ensures.faults)

pub returns-then-fits_behind-clause-fits : goal.returns-then-fits_behind-clause-fits
returns-then-fits_behind-clause-fits g c =
    ap (λ (x : Vol). fits x.geometry.device (map sizes c.hold_last.new.vol.buf.records) c.args.lengths.0 c.args.lengths.1) (sym c.in_ok-hold_last.ensures.others) ∙ sym c.if-fits_behind.ensures

pub returns-then-fits_behind-clause-ready : goal.returns-then-fits_behind-clause-ready
returns-then-fits_behind-clause-ready g c told = λ is.
    let v = c.args.vol.now in
    let v1 = c.hold_last.new.vol in
    let m0 = g.H.Hall.meaning c.args.hall.now in
    let m2 = g.H.Hall.meaning c.hold_last.new.hall in
    let f0 = g.H.Hall.facts c.args.hall.now in
    let f2 = g.H.Hall.facts c.hold_last.new.hall in
    let first = c.in_ok-set.ensures in
    let second = c.in_ok-hold_last.ensures in
    let at : IsBehind is v1 = behind m0 (g.H.Hall.meaning c.set_at.new.hall) f0 (g.H.Hall.facts c.set_at.new.hall) v v1 c.args.writer c.in_ok-set.set is first.set (first.same told) first.faults.units second.others (second.held told) (second.mounted told) in
    let kept : image_in m2 f2 v.unit ≡ image_in m0 f0 v.unit = same_image m2.state m0.state f2 f0 v.unit (same_then (first.same told) (second.same told)).state (second.faults.units ∙ first.faults.units) in
    let fit : fits v.geometry.device (map sizes v1.buf.records) c.args.lengths.0 c.args.lengths.1 ≡ true =
    ap (λ (x : Vol). fits x.geometry.device (map sizes v1.buf.records) c.args.lengths.0 c.args.lengths.1) (sym second.others) ∙ sym c.if-fits_behind.ensures in
    let place : Place = record { tt = c.args.writer.last.tt; r = c.len.result + 1 } in
    subst (λ (i : List ℕ). IsReady is c.args.lengths.0 c.args.lengths.1 place i v1) (sym kept)
    (ready_same (image_in m0 f0 v.unit) v c.args.writer is (omega arith) (omega arith) c.args.lengths.0 c.args.lengths.1 (omega (arith, c.if-writer-eq0.false)) v1.buf at.held v1 place at.others at.mounted
    (second.unit.buffer.0 ∙ ap (λ (x : Vol). x.geometry) at.others) fit (ap (λ (n : ℕ). record { tt = c.args.writer.last.tt; r = n + 1 }) c.len.ensures))

pub returns-then-fits_behind-clause-mounted : goal.returns-then-fits_behind-clause-mounted
returns-then-fits_behind-clause-mounted g c told others =
    let second = c.in_ok-hold_last.ensures in
    subst (λ (i : List ℕ). IsMounted i c.hold_last.new.vol) (sym (same_image (g.H.Hall.meaning c.hold_last.new.hall).state (g.H.Hall.meaning c.set_at.new.hall).state (g.H.Hall.facts c.hold_last.new.hall) (g.H.Hall.facts c.set_at.new.hall) c.args.vol.now.unit (second.same told).state second.faults.units)) (second.mounted told)

pub next_track-requires-clause-slot : goal.next_track-requires-clause-slot
next_track-requires-clause-slot g c = ap (λ (x : Vol). slice_get x.slots.items c.args.writer.slot) c.in_ok-hold_last.ensures.others ∙ c.in_ok-set.ensures.set

pub next_track-requires-clause-held : goal.next_track-requires-clause-held
next_track-requires-clause-held g c told =
    let v = c.args.vol.now in
    let w = c.args.writer in
    let v1 = c.hold_last.new.vol in
    let m0 = g.H.Hall.meaning c.args.hall.now in
    let m2 = g.H.Hall.meaning c.hold_last.new.hall in
    let f0 = g.H.Hall.facts c.args.hall.now in
    let f2 = g.H.Hall.facts c.hold_last.new.hall in
    let first = c.in_ok-set.ensures in
    let second = c.in_ok-hold_last.ensures in
    let is = c.requires.writing told in
    let at : IsBehind is v1 = behind m0 (g.H.Hall.meaning c.set_at.new.hall) f0 (g.H.Hall.facts c.set_at.new.hall) v v1 w c.in_ok-set.set is first.set (first.same told) first.faults.units second.others (second.held told) (second.mounted told) in
    let kept = image_kept m0 m2 f0 f2 v v1 (same_then (first.same told) (second.same told)) (second.faults.units ∙ first.faults.units) second.others in
    let P : List ℕ → Vol → Type 0 = λ i x. (j : IsWriting i x w) × HoldsLast i x j.f w.last in
    let there : P (image_in m0 f0 v.unit) (record v { buf = v1.buf }) = (writing_with (image_in m0 f0 v.unit) v v1.buf w is at.mounted, at.held) in
    let back : P (image_in m2 f2 v1.unit) v1 = subst (λ (x : Vol). P (image_in m2 f2 v1.unit) x) (sym second.others) (subst (λ (i : List ℕ). P i (record v { buf = v1.buf })) (sym kept) there) in
    (omega (arith, c.if-writer-eq0.false), back.0, back.1)

pub returns-clause-ready : goal.returns-clause-ready
returns-clause-ready g c told =
    let v = c.args.vol.now in
    let w = c.args.writer in
    let v1 = c.hold_last.new.vol in
    let v2 = c.next_track.new.vol in
    let m0 = g.H.Hall.meaning c.args.hall.now in
    let m3 = g.H.Hall.meaning c.next_track.new.hall in
    let f0 = g.H.Hall.facts c.args.hall.now in
    let f3 = g.H.Hall.facts c.next_track.new.hall in
    let first = c.in_ok-set.ensures in
    let second = c.in_ok-hold_last.ensures in
    let r = c.next_track.result in
    let image = image_in m0 f0 v.unit in
    let image' = image_in m3 f3 v1.unit in
    let kept = image_kept m0 (g.H.Hall.meaning c.hold_last.new.hall) f0 (g.H.Hall.facts c.hold_last.new.hall) v v1 (same_then (first.same told) (second.same told)) (second.faults.units ∙ first.faults.units) second.others in
    let long : fits v.geometry.device (map sizes v1.buf.records) c.args.lengths.0 c.args.lengths.1 ≡ false =
    ap (λ (x : Vol). fits x.geometry.device (map sizes v1.buf.records) c.args.lengths.0 c.args.lengths.1) (sym second.others) ∙ sym c.if-fits_behind.ensures in
    let P : List ℕ → Vol → Type 0 = λ i x. OnOk r ((j : IsWriting i x w) → IsEnded i x j.f j.old w image' v2) in
    let ended : P image (record v { buf = v1.buf }) = subst (λ (x : Vol). P image x) second.others (subst (λ (i : List ℕ). P i v1) kept (c.next_track.ensures.ended told)) in
    let Q : List ℕ → Vol → F1 → Type 0 = λ i x f. OnOk r (slice_get (owned_in i x f) (w.last.tt + 1) ≡ Some v2.buf.track) in
    let owned : Q image (record v { buf = v1.buf }) c.in_ok-set.set = subst (λ (x : Vol). Q image x c.in_ok-set.set) second.others (subst (λ (i : List ℕ). Q i v1 c.in_ok-set.set) kept (c.next_track.ensures.owned told)) in
    if_each (λ (p : Place) (is : IsWriting image v w). IsReady is c.args.lengths.0 c.args.lengths.1 p (image_in m3 f3 v.unit) v2) r
    (λ is.
    let at : IsBehind is v1 = behind m0 (g.H.Hall.meaning c.set_at.new.hall) f0 (g.H.Hall.facts c.set_at.new.hall) v v1 w c.in_ok-set.set is first.set (first.same told) first.faults.units second.others (second.held told) (second.mounted told) in
    let mine : Q image (record v { buf = v1.buf }) is.f = subst (λ (f : F1). Q image (record v { buf = v1.buf }) f) (sym (same_set v w.slot is.f c.in_ok-set.set is.slot first.set)) owned in
    subst (λ (x : Vol). IfOk r (λ (p : Place). IsReady is c.args.lengths.0 c.args.lengths.1 p (image_in m3 f3 x.unit) v2)) second.others
    (ready_by image v w is (omega arith) (omega arith) c.args.lengths.0 c.args.lengths.1 (omega (arith, c.if-writer-eq0.false)) v1.buf at.held image' v2 r at.mounted long c.next_track.ensures.place ended mine c.next_track.ensures.empty))

pub returns-clause-spares : goal.returns-clause-spares
returns-clause-spares g c told is =
    let v = c.args.vol.now in
    let w = c.args.writer in
    let v1 = c.hold_last.new.vol in
    let m0 = g.H.Hall.meaning c.args.hall.now in
    let m2 = g.H.Hall.meaning c.hold_last.new.hall in
    let m3 = g.H.Hall.meaning c.next_track.new.hall in
    let f0 = g.H.Hall.facts c.args.hall.now in
    let f2 = g.H.Hall.facts c.hold_last.new.hall in
    let first = c.in_ok-set.ensures in
    let second = c.in_ok-hold_last.ensures in
    let r = c.next_track.result in
    let image = image_in m0 f0 v.unit in
    let same = same_then (first.same told) (second.same told) in
    let units : f2.units ≡ f0.units = second.faults.units ∙ first.faults.units in
    let kept = image_kept m0 m2 f0 f2 v v1 same units second.others in
    let at : IsBehind is v1 = behind m0 (g.H.Hall.meaning c.set_at.new.hall) f0 (g.H.Hall.facts c.set_at.new.hall) v v1 w c.in_ok-set.set is first.set (first.same told) first.faults.units second.others (second.held told) (second.mounted told) in
    let P : List ℕ → Vol → List Attached → Type 0 = λ i x us. (j : IsWriting i x w) → Spares (unit_of us x.unit).name x j.f (last_in i x j.f) m2 m3 r in
    let there : P image (record v { buf = v1.buf }) f0.units = subst (λ (us : List Attached). P image (record v { buf = v1.buf }) us) units (subst (λ (x : Vol). P image x f2.units) second.others (subst (λ (i : List ℕ). P i v1 f2.units) kept (c.next_track.ensures.spares told))) in
    spares_then (unit_of f0.units v.unit).name v is.f _ m0 m2 m3 r same (spares_with (unit_of f0.units v.unit).name v is.f _ v1.buf m2 m3 r (there (writing_with image v v1.buf w is at.mounted)))

pub returns-clause-fits : goal.returns-clause-fits
returns-clause-fits g c =
    on_each c.next_track.result (λ (empty : c.next_track.new.vol.buf.records ≡ []). ap (λ (xs : List Record). fits c.args.vol.now.geometry.device (map sizes xs) c.args.lengths.0 c.args.lengths.1) empty ∙ c.requires.lengths) c.next_track.ensures.empty

pub returns-clause-need : goal.returns-clause-need
returns-clause-need g c told of is content same_lengths =
    let v = c.args.vol.now in
    let w = c.args.writer in
    let v1 = c.hold_last.new.vol in
    let m0 = g.H.Hall.meaning c.args.hall.now in
    let f0 = g.H.Hall.facts c.args.hall.now in
    let first = c.in_ok-set.ensures in
    let second = c.in_ok-hold_last.ensures in
    let image = image_in m0 f0 v.unit in
    let kept = image_kept m0 (g.H.Hall.meaning c.hold_last.new.hall) f0 (g.H.Hall.facts c.hold_last.new.hall) v v1 (same_then (first.same told) (second.same told)) (second.faults.units ∙ first.faults.units) second.others in
    let long : fits v.geometry.device (map sizes v1.buf.records) c.args.lengths.0 c.args.lengths.1 ≡ false =
    ap (λ (x : Vol). fits x.geometry.device (map sizes v1.buf.records) c.args.lengths.0 c.args.lengths.1) (sym second.others) ∙ sym c.if-fits_behind.ensures in
    let at : IsBehind is v1 = behind m0 (g.H.Hall.meaning c.set_at.new.hall) f0 (g.H.Hall.facts c.set_at.new.hall) v v1 w c.in_ok-set.set is first.set (first.same told) first.faults.units second.others (second.held told) (second.mounted told) in
    let P : List ℕ → Vol → F1 → Type 0 = λ i x f. length (owned_in i x f) ≤ w.last.tt + 1 in
    let most : P image (record v { buf = v1.buf }) is.f = subst (λ (f : F1). P image (record v { buf = v1.buf }) f) (sym (same_set v w.slot is.f c.in_ok-set.set is.slot first.set))
    (subst (λ (x : Vol). P image x c.in_ok-set.set) second.others (subst (λ (i : List ℕ). P i v1 c.in_ok-set.set) kept (c.next_track.ensures.need told of))) in
    needs image v w is (omega arith) (omega arith) c.args.lengths.0 c.args.lengths.1 (omega (arith, c.if-writer-eq0.false)) v1.buf at.held content same_lengths long (length (owned_in image v is.f)) most

pub returns-clause-refused : goal.returns-clause-refused
returns-clause-refused g c told of = same_then (same_then (c.in_ok-set.ensures.same told) (c.in_ok-hold_last.ensures.same told)) (c.next_track.ensures.refused told of)

pub returns-clause-mounted : goal.returns-clause-mounted
returns-clause-mounted g c told others =
    subst (λ (x : Vol). IsMounted (image_in (g.H.Hall.meaning c.next_track.new.hall) (g.H.Hall.facts c.next_track.new.hall) x.unit) c.next_track.new.vol) c.in_ok-hold_last.ensures.others (c.next_track.ensures.mounted told others)

pub returns-clause-others : goal.returns-clause-others
returns-clause-others g c = c.next_track.ensures.others ∙ ap (λ (x : Vol). record x { buf = c.next_track.new.vol.buf }) c.in_ok-hold_last.ensures.others

pub returns-clause-faults : goal.returns-clause-faults
returns-clause-faults g c = call_then _ _ _ (call_then _ _ _ (no_fault c.in_ok-set.ensures.faults) (no_fault c.in_ok-hold_last.ensures.faults)) c.next_track.ensures.faults
