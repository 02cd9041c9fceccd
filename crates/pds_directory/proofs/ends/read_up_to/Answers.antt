use Rattle.std.proofs.Common.{inr, sym, subst}
use Rattle.hall_core.specs.Images.{image_in}
use Rattle.track_records.specs.Reads.{IsBroken}
use Rattle.track_records.specs.Written.{StandsOn}
use Rattle.track_records.specs.declared.error.TrackErr.{TrackErr}
use Rattle.track_records.specs.declared.error.TrackErr.TheVariants as errors
use Rattle.vtoc_index.proofs.HeldLemmas.{broken_none}
use Rattle.vtoc_sets.proofs.OtherBuffers.{mounted_with, read_as}
use Rattle.pds_directory.proofs.ends.read_up_to.Goals as goal

pub returns-in-Ok-clause-mounted : goal.returns-in-Ok-clause-mounted
returns-in-Ok-clause-mounted g c told =
    let image = image_in (g.H.Hall.meaning c.args.hall.now) (g.H.Hall.facts c.args.hall.now) c.args.vol.now.unit in
    mounted_with image c.args.vol.now c.read_records.new.buf (c.requires.mounted told)
    (inr (subst (StandsOn image) (sym c.in-Ok.ensures.buffer) (c.args.upto, c.in-Ok.ensures.read told)))

pub returns-in-Err-BadCount-clause-read : goal.returns-in-Err-BadCount-clause-read
returns-in-Err-BadCount-clause-read g c told =
    let image = image_in (g.H.Hall.meaning c.args.hall.now) (g.H.Hall.facts c.args.hall.now) c.args.vol.now.unit in
    let at : IsBroken image c.args.vol.now.buf.geometry c.args.upto c.args.track (errors.BadCount c.in-Err-BadCount.field-0-0) =
    subst (λ (e : TrackErr). IsBroken image c.args.vol.now.buf.geometry c.args.upto c.args.track e) c.in-Err-BadCount.field-0-is (c.in-Err-BadCount.ensures.broken told) in
    read_as image c.args.upto c.args.track _ c.requires.unit.buffer.0 (broken_none image c.args.vol.now.buf.geometry c.args.upto c.args.track c.in-Err-BadCount.field-0-0 at)
