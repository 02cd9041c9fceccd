use Rattle.std.proofs.Common.{sym, subst}
use Rattle.hall_core.specs.Images.{image_in}
use Rattle.seq_access.specs.Bodies.{ChecksTrack}
use Rattle.seq_access.proofs.HeldParts.{part_whole}
use Rattle.seq_access.proofs.checking.check_end_track.Goals as goal

pub returns-then-whole-clause-track : goal.returns-then-whole-clause-track
returns-then-whole-clause-track g c told =
    let v = c.args.vol.now in
    let image = image_in (g.H.Hall.meaning c.args.hall.now) (g.H.Hall.facts c.args.hall.now) v.unit in
    subst (ChecksTrack c.check_held.result c.args.end.tt) (sym (part_whole image v c.args.set.now (c.requires.set told) c.args.end c.args.to v.buf (c.requires.held told c.if-whole.true))) c.check_held.ensures.track
