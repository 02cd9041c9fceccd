use Rattle.std.proofs.Common.{ℕ, Some, inr, refl, ap, ◌∙◌, subst, arith}
use Rattle.ckd_image.specs.declared.header.Geometry.{Geometry}
use Rattle.dscb_codec.specs.declared.F1.{F1}
use Rattle.hall_core.specs.Facts.{unit_of}
use Rattle.hall_core.specs.Images.{image_in, image_of}
use Rattle.pack_spec.specs.Label.{records_on}
use Rattle.track_records.specs.Appends.{IsSealed, MayContinue}
use Rattle.track_records.specs.Buffers.{Buffer}
use Rattle.track_records.specs.Written.{StandsOn}
use Rattle.seq_access.specs.Writing.{HoldsLast}
use Rattle.seq_access.proofs.Begins.{has_none, has_some}
use Rattle.seq_access.proofs.EndedTracks.{ended_sealed, spares_sealed}
use Rattle.seq_access.proofs.SparedCalls.{spares_as, spares_none}
use Rattle.seq_access.proofs.WritersKept.{ended_put, same_set}
use Rattle.seq_access.proofs.writing.end_last.Goals as goal

pub returns-then-writer-gt0-clause-ended : goal.returns-then-writer-gt0-clause-ended
returns-then-writer-gt0-clause-ended g c told is = ended_put _ c.args.vol.now c.args.writer is (has_some c.args.writer c.if-writer-gt0.true)

pub returns-then-writer-gt0-clause-spares : goal.returns-then-writer-gt0-clause-spares
returns-then-writer-gt0-clause-spares g c told is = spares_none _ c.args.vol.now is.f _ _ _

pub returns-in_err-seal-clause-spares : goal.returns-in_err-seal-clause-spares
returns-in_err-seal-clause-spares g c told is =
    let v = c.args.vol.now in
    let old = g.H.Hall.meaning c.args.hall.now in
    let new = g.H.Hall.meaning c.seal.new.hall in
    let facts = g.H.Hall.facts c.args.hall.now in
    let image = image_in old facts v.unit in
    let h = c.requires.held told in
    let held : HoldsLast image v is.f c.args.writer.last = subst (λ (f : F1). HoldsLast image v f c.args.writer.last) (same_set v c.args.writer.slot h.1.f is.f h.1.slot is.slot) h.2 in
    spares_as (unit_of facts.units v.unit).name v is.f _ old new _ _ (spares_sealed facts.units image v c.args.writer is held (has_none c.args.writer c.if-writer-gt0.false) h.0 c.requires.unit.buffer.0 c.requires.roomy (unit_of facts.units v.unit).name (unit_of facts.units v.buf.unit).name old new _ refl
    (ap (λ (n : ℕ). (unit_of facts.units n).name) c.requires.unit.buffer.1) (c.in_err-seal.ensures.files told))

pub returns-in_err-seal-clause-same : goal.returns-in_err-seal-clause-same
returns-in_err-seal-clause-same g c = ap (λ (b : Buffer). record (c.args.vol.now) { buf = b }) c.in_err-seal.ensures.buffer

pub returns-clause-spares : goal.returns-clause-spares
returns-clause-spares g c told is =
    let v = c.args.vol.now in
    let old = g.H.Hall.meaning c.args.hall.now in
    let new = g.H.Hall.meaning c.seal.new.hall in
    let facts = g.H.Hall.facts c.args.hall.now in
    let image = image_in old facts v.unit in
    let h = c.requires.held told in
    let held : HoldsLast image v is.f c.args.writer.last = subst (λ (f : F1). HoldsLast image v f c.args.writer.last) (same_set v c.args.writer.slot h.1.f is.f h.1.slot is.slot) h.2 in
    spares_as (unit_of facts.units v.unit).name v is.f _ old new _ _ (spares_sealed facts.units image v c.args.writer is held (has_none c.args.writer c.if-writer-gt0.false) h.0 c.requires.unit.buffer.0 c.requires.roomy (unit_of facts.units v.unit).name (unit_of facts.units v.buf.unit).name old new _ refl
    (ap (λ (n : ℕ). (unit_of facts.units n).name) c.requires.unit.buffer.1) (c.in_ok-seal.ensures.files told))

pub returns-clause-ended : goal.returns-clause-ended
returns-clause-ended g c told is =
    let v = c.args.vol.now in
    let old = g.H.Hall.meaning c.args.hall.now in
    let new = g.H.Hall.meaning c.seal.new.hall in
    let facts = g.H.Hall.facts c.args.hall.now in
    let after = g.H.Hall.facts c.seal.new.hall in
    let image = image_in old facts v.unit in
    let image' = image_in new after v.unit in
    let h = c.requires.held told in
    let held : HoldsLast image v is.f c.args.writer.last = subst (λ (f : F1). HoldsLast image v f c.args.writer.last) (same_set v c.args.writer.slot h.1.f is.f h.1.slot is.slot) h.2 in
    let stands : StandsOn image v.buf = (Some c.args.writer.last.r, ap (λ (x : Geometry). records_on image x (Some c.args.writer.last.r) v.buf.track) c.requires.unit.buffer.0 ∙ held.stand) in
    let P : ℕ → Type 0 = λ n. MayContinue (image_of old.state facts n) v.buf → IsSealed v.buf (image_of old.state facts n) (image_of new.state after n) × StandsOn (image_of new.state after n) c.seal.new.buf in
    let both = subst P c.requires.unit.buffer.1 (c.in_ok-seal.ensures.record told) (inr stands) in
    ended_sealed facts.units image v c.args.writer is held (has_none c.args.writer c.if-writer-gt0.false) h.0 c.requires.unit.buffer.0 c.requires.roomy image' both.0 (subst (StandsOn image') c.in_ok-seal.ensures.buffer both.1) (omega arith) (omega arith)

pub returns-clause-same : goal.returns-clause-same
returns-clause-same g c = ap (λ (b : Buffer). record (c.args.vol.now) { buf = b }) c.in_ok-seal.ensures.buffer
