use Rattle.std.proofs.Common.{Some, sym, ap, ◌∙◌, inr, subst, arith}
use Rattle.ckd_image.specs.declared.header.Geometry.{Geometry}
use Rattle.hall_core.specs.Images.{image_in}
use Rattle.pack_spec.specs.Label.{records_on}
use Rattle.stop_model.proofs.MomentLemmas.{same_then}
use Rattle.track_records.specs.Buffers.{Buffer}
use Rattle.track_records.specs.Reads.{IsBroken}
use Rattle.track_records.specs.Written.{StandsOn}
use Rattle.track_records.specs.declared.error.TrackErr.{TrackErr}
use Rattle.track_records.specs.declared.error.TrackErr.TheVariants as errors
use Rattle.vtoc_index.proofs.HeldLemmas.{broken_none, noted}
use Rattle.vtoc_sets.proofs.OtherBuffers.{mounted_with}
use Rattle.seq_access.proofs.HeldTracks.{held_up_to}
use Rattle.seq_access.proofs.holding.hold.Goals as goal

pub returns-then-len-from-clause-records : goal.returns-then-len-from-clause-records
returns-then-len-from-clause-records g c told =
    let v = c.args.vol.now in
    let image = image_in (g.H.Hall.meaning c.args.hall.now) (g.H.Hall.facts c.args.hall.now) v.unit in
    held_up_to image v.buf v.geometry c.args.r c.args.track c.requires.unit.buffer.0 (omega arith) (omega arith) (c.requires.there told).0 (c.requires.mounted told).index.buffer

pub returns-in-Ok-clause-mounted : goal.returns-in-Ok-clause-mounted
returns-in-Ok-clause-mounted g c told =
    let v = c.args.vol.now in
    let image = image_in (g.H.Hall.meaning c.args.hall.now) (g.H.Hall.facts c.args.hall.now) v.unit in
    let b = c.read_records.new.buf in
    let was : Buffer = record (v.buf) { unit = v.unit; track = c.args.track; records = b.records } in
    let stands : StandsOn image was = (Some c.args.r, c.in-Ok.ensures.read told) in
    mounted_with image v b (c.requires.mounted told) (inr (subst (StandsOn image) (sym c.in-Ok.ensures.buffer) stands))

pub returns-in-Err-BadCount-clause-same : goal.returns-in-Err-BadCount-clause-same
returns-in-Err-BadCount-clause-same g c told = same_then (c.in-Err-BadCount.ensures.files told) (c.differs.ensures.files told)

pub returns-in-Err-BadCount-clause-faults : goal.returns-in-Err-BadCount-clause-faults
returns-in-Err-BadCount-clause-faults g c =
    let v = c.args.vol.now in
    let was = c.in-Err-BadCount.ensures.faults in
    let image = image_in (g.H.Hall.meaning c.args.hall.now) (g.H.Hall.facts c.args.hall.now) v.unit in
    noted was.units was.references was.prints was.later c.differs.ensures.faults c.differs.ensures.rose
    (λ told.
    let at : IsBroken image v.buf.geometry (Some c.args.r) c.args.track (errors.BadCount c.in-Err-BadCount.field-0-0) =
    subst (λ (e : TrackErr). IsBroken image v.buf.geometry (Some c.args.r) c.args.track e) c.in-Err-BadCount.field-0-is (c.in-Err-BadCount.ensures.broken told) in
    (c.requires.there told).1 (ap (λ (x : Geometry). records_on image x (Some c.args.r) c.args.track) (sym c.requires.unit.buffer.0) ∙ broken_none image v.buf.geometry (Some c.args.r) c.args.track c.in-Err-BadCount.field-0-0 at))
