use Rattle.std.proofs.Common.{Some, subst}
use Rattle.hall_core.specs.Images.{image_in}
use Rattle.track_records.specs.Reads.{IsBroken}
use Rattle.track_records.specs.declared.error.TrackErr.{TrackErr}
use Rattle.track_records.specs.declared.error.TrackErr.TheVariants as errors
use Rattle.vtoc_index.proofs.HeldLemmas.{broken_none}
use Rattle.vtoc_sets.proofs.OtherBuffers.{read_as}
use Rattle.set_records.proofs.rewriting.read_up_to.Goals as goal

pub returns-in-Err-BadCount-clause-read : goal.returns-in-Err-BadCount-clause-read
returns-in-Err-BadCount-clause-read g c told =
    let image = image_in (g.H.Hall.meaning c.args.hall.now) (g.H.Hall.facts c.args.hall.now) c.args.vol.now.unit in
    let at : IsBroken image c.args.vol.now.buf.geometry (Some c.args.r) c.args.track (errors.BadCount c.in-Err-BadCount.field-0-0) =
    subst (λ (e : TrackErr). IsBroken image c.args.vol.now.buf.geometry (Some c.args.r) c.args.track e) c.in-Err-BadCount.field-0-is (c.in-Err-BadCount.ensures.broken told) in
    read_as image (Some c.args.r) c.args.track _ c.requires.unit.buffer.0 (broken_none image c.args.vol.now.buf.geometry (Some c.args.r) c.args.track c.in-Err-BadCount.field-0-0 at)
