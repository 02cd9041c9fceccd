use Rattle.std.proofs.Common.{inr, None, refl}
use Rattle.hall_core.specs.Images.{image_of}
use Rattle.vtoc_index.proofs.CallsMade.{broken_none}
use Rattle.vtoc_index.proofs.TracksRead.{slots_none}
use Rattle.vtoc_index.proofs.read.read_track.Goals as goal

pub returns-in-Err-BadCount-clause-refused : goal.returns-in-Err-BadCount-clause-refused
returns-in-Err-BadCount-clause-refused g c told =
    let image = image_of (g.H.Hall.meaning c.args.hall.now).state (g.H.Hall.facts c.args.hall.now) c.args.unit in
    inr (refl, slots_none image c.args.buf.now.geometry c.args.track (broken_none image c.args.buf.now.geometry None c.args.track _ c.in-Err-BadCount.field-0-0 c.in-Err-BadCount.field-0-is (c.in-Err-BadCount.ensures.broken told)))
