use Rattle.std.proofs.Common.{ap, refl, subst}
use Rattle.hall_core.specs.Images.{image_in}
use Rattle.track_records.specs.Reads.{IsBroken}
use Rattle.track_records.specs.declared.error.TrackErr.{TrackErr}
use Rattle.track_records.specs.declared.error.TrackErr.TheVariants as errors
use Rattle.vtoc_index.proofs.HeldLemmas.{broken_none, noted}
use Rattle.seq_access.specs.declared.read_buf.ReadBuf.{ReadBuf}
use Rattle.seq_access.proofs.Checked.{read_as}
use Rattle.seq_access.proofs.reading.hold.Goals as goal

pub returns-in-Err-BadCount-clause-faults : goal.returns-in-Err-BadCount-clause-faults
returns-in-Err-BadCount-clause-faults g c =
    let was = c.in-Err-BadCount.ensures.faults in
    let image = image_in (g.H.Hall.meaning c.args.hall.now) (g.H.Hall.facts c.args.hall.now) c.args.unit in
    let geometry = c.forget.new.self.records.geometry in
    noted was.units was.references was.prints was.later c.differs.ensures.faults c.differs.ensures.rose
    (λ told.
    let at : IsBroken image geometry c.args.upto c.args.track (errors.BadCount c.in-Err-BadCount.field-0-0) =
    subst (λ (e : TrackErr). IsBroken image geometry c.args.upto c.args.track e) c.in-Err-BadCount.field-0-is (c.in-Err-BadCount.ensures.broken told) in
    c.requires.there told (read_as image _ _ _ _ c.args.track _ (ap (λ (b : ReadBuf). b.records.geometry) c.forget.ensures) refl (broken_none image geometry c.args.upto c.args.track c.in-Err-BadCount.field-0-0 at)))
