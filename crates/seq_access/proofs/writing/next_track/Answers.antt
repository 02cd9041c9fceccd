use Rattle.std.proofs.Common.{◌+◌, ◌<◌, List, Some, sym, ap, ◌∙◌, subst, arith}
use Rattle.hall_core.specs.Facts.{Attached}
use Rattle.hall_core.specs.Images.{image_in}
use Rattle.pack_spec.specs.Label.{tracks_of}
use Rattle.stop_model.proofs.MomentLemmas.{same_none}
use Rattle.track_records.specs.Buffers.{Buffer}
use Rattle.vtoc_index.specs.declared.vol.Vol.{Vol}
use Rattle.vtoc_index.specs.Index.{IsMounted, IsOfUnit}
use Rattle.seq_access.specs.Bodies.{owned_in}
use Rattle.seq_access.specs.Writing.{IsEnded}
use Rattle.vtoc_sets.proofs.OtherBuffers.{unit_with}
use Rattle.vtoc_sets.proofs.DataPlaces.{few_owned_tracks}
use Rattle.seq_access.proofs.ReadyPlaces.{ends_before, roomy_empty}
use Rattle.seq_access.proofs.SparedCalls.{spares_as, spares_none}
use Rattle.seq_access.proofs.WritersKept.{ended_with, set_there}
use Rattle.seq_access.proofs.writing.next_track.Goals as goal

pub returns-then-writer-eq65535-clause-need : goal.returns-then-writer-eq65535-clause-need
returns-then-writer-eq65535-clause-need g c told of =
    let v = c.args.vol.now in
    let image = image_in (g.H.Hall.meaning c.args.hall.now) (g.H.Hall.facts c.args.hall.now) v.unit in
    let there = set_there image v c.args.writer c.args.set.now (c.requires.held told).1 c.requires.slot in
    omega (arith, few_owned_tracks image v c.args.set.now there, c.if-writer-eq65535.true)

pub returns-then-writer-eq65535-clause-refused : goal.returns-then-writer-eq65535-clause-refused
returns-then-writer-eq65535-clause-refused g c told of = same_none _ (g.met.H.Hall.counts_now c.args.hall.now)

pub returns-then-writer-eq65535-clause-mounted : goal.returns-then-writer-eq65535-clause-mounted
returns-then-writer-eq65535-clause-mounted g c told others = (c.requires.held told).1.set.mounted

pub returns-then-writer-eq65535-clause-spares : goal.returns-then-writer-eq65535-clause-spares
returns-then-writer-eq65535-clause-spares g c told is = spares_none _ c.args.vol.now is.f _ _ _

pub returns-in_default-clause-need : goal.returns-in_default-clause-need
returns-in_default-clause-need g c told of =
    let v = c.args.vol.now in
    let image = image_in (g.H.Hall.meaning c.args.hall.now) (g.H.Hall.facts c.args.hall.now) v.unit in
    let there = set_there image v c.args.writer c.args.set.now (c.requires.held told).1 c.requires.slot in
    ends_before (owned_in image v c.args.set.now) (c.args.writer.last.tt + 1) (sym (c.in_default.ensures.track image there.set))

pub returns-in_default-clause-refused : goal.returns-in_default-clause-refused
returns-in_default-clause-refused g c told of = same_none _ (g.met.H.Hall.counts_now c.args.hall.now)

pub returns-in_default-clause-mounted : goal.returns-in_default-clause-mounted
returns-in_default-clause-mounted g c told others = (c.requires.held told).1.set.mounted

pub returns-in_default-clause-spares : goal.returns-in_default-clause-spares
returns-in_default-clause-spares g c told is = spares_none _ c.args.vol.now is.f _ _ _

pub returns-in_err-end_last-clause-spares : goal.returns-in_err-end_last-clause-spares
returns-in_err-end_last-clause-spares g c told is = spares_as _ c.args.vol.now is.f _ _ _ _ _ (c.in_err-end_last.ensures.spares told is)

pub returns-clause-owned : goal.returns-clause-owned
returns-clause-owned g c told =
    let v = c.args.vol.now in
    let image = image_in (g.H.Hall.meaning c.args.hall.now) (g.H.Hall.facts c.args.hall.now) v.unit in
    let there = set_there image v c.args.writer c.args.set.now (c.requires.held told).1 c.requires.slot in
    sym (c.in-Some.ensures.track image there.set) ∙ ap (λ (b : Buffer). Some b.track) (sym c.clear.ensures)

pub returns-clause-empty : goal.returns-clause-empty
returns-clause-empty g c = ap (λ (b : Buffer). b.records) c.clear.ensures

pub returns-clause-roomy : goal.returns-clause-roomy
returns-clause-roomy g c =
    let v = c.args.vol.now in
    let call = c.in_ok-end_last.ensures in
    let units = (g.H.Hall.facts c.end_last.new.hall).units in
    let unit : IsOfUnit units v = subst (λ (us : List Attached). IsOfUnit us v) (sym call.faults.units) c.requires.unit in
    let b = c.clear.new.self in
    let inside : b.track < tracks_of v.geometry = subst (λ (x : Buffer). x.track < tracks_of v.geometry) (sym c.clear.ensures) c.in-Some.ensures.inside in
    roomy_empty units v b unit (ap (λ (x : Buffer). x.geometry) c.clear.ensures ∙ ap (λ (x : Vol). x.buf.geometry) call.same ∙ c.requires.unit.buffer.0)
    (ap (λ (x : Buffer). x.unit) c.clear.ensures ∙ ap (λ (x : Vol). x.unit) call.same) inside (ap (λ (x : Buffer). x.records) c.clear.ensures)

pub returns-clause-ended : goal.returns-clause-ended
returns-clause-ended g c told is =
    let v = c.args.vol.now in
    let image = image_in (g.H.Hall.meaning c.args.hall.now) (g.H.Hall.facts c.args.hall.now) v.unit in
    let image' = image_in (g.H.Hall.meaning c.end_last.new.hall) (g.H.Hall.facts c.end_last.new.hall) v.unit in
    let call = c.in_ok-end_last.ensures in
    subst (λ (x : Vol). IsEnded image v is.f is.old c.args.writer image' (record x { buf = c.clear.new.self })) (sym call.same)
    (ended_with image image' v c.clear.new.self is.f is.old c.args.writer (call.ended told is) (ap (λ (x : Buffer). x.records) c.clear.ensures))

pub returns-clause-spares : goal.returns-clause-spares
returns-clause-spares g c told is = spares_as _ c.args.vol.now is.f _ _ _ _ _ (c.in_ok-end_last.ensures.spares told is)

pub returns-clause-mounted : goal.returns-clause-mounted
returns-clause-mounted g c told others =
    let v = c.args.vol.now in
    let image = image_in (g.H.Hall.meaning c.args.hall.now) (g.H.Hall.facts c.args.hall.now) v.unit in
    let image' = image_in (g.H.Hall.meaning c.end_last.new.hall) (g.H.Hall.facts c.end_last.new.hall) v.unit in
    let call = c.in_ok-end_last.ensures in
    let is = (c.requires.held told).1 in
    let end = ended_with image image' v c.clear.new.self is.f is.old c.args.writer (call.ended told is) (ap (λ (x : Buffer). x.records) c.clear.ensures) in
    subst (λ (x : Vol). IsMounted image' (record x { buf = c.clear.new.self })) (sym call.same) end.writing.set.mounted

pub returns-clause-others : goal.returns-clause-others
returns-clause-others g c = ap (λ (x : Vol). record x { buf = c.clear.new.self }) c.in_ok-end_last.ensures.same

pub returns-clause-unit : goal.returns-clause-unit
returns-clause-unit g c =
    let v = c.args.vol.now in
    let call = c.in_ok-end_last.ensures in
    let units = (g.H.Hall.facts c.end_last.new.hall).units in
    let b = c.clear.new.self in
    subst (λ (x : Vol). IsOfUnit units (record x { buf = b })) (sym call.same)
    (unit_with _ units v b call.faults.units (ap (λ (x : Buffer). x.geometry) c.clear.ensures ∙ ap (λ (x : Vol). x.buf.geometry) call.same)
    (ap (λ (x : Buffer). x.unit) c.clear.ensures ∙ ap (λ (x : Vol). x.unit) call.same) c.requires.unit)
