use Rattle.std.proofs.Common.{◌∙◌, ℕ, ap, arith, min}
use Rattle.dadsm_ops.proofs.FreedLists.{part_tracks}
use Rattle.dadsm_ops.proofs.scratching.first_part.Goals as goal

pub returns-clause-tracks : goal.returns-clause-tracks
returns-clause-tracks c track low =
    part_tracks c.args.run.start c.args.run.len c.args.tracks c.min-start.result c.min-end.result track c.min-start.ensures
    (c.min-end.ensures ∙ ap (λ (n : ℕ). min n c.args.tracks) c.saturating_add.ensures) (omega (arith, c.ranges.tracks.fits)) low
