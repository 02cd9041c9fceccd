-- The blocks of a track: full tracks stand before it.
use Rattle.std.proofs.Common.{◌*◌, ℕ, min, ap, ◌∙◌}
use Rattle.dadsm_ops.proofs.DirectoryTracks.{numbers_by}
use Rattle.dadsm_ops.proofs.formatting.blocks_on.Goals as goal

pub returns-clause-numbers : goal.returns-clause-numbers
returns-clause-numbers c =
    let many = c.from-per_track.ensures ∙ c.directory_blocks_per_track.ensures.table in
    numbers_by c.args.device c.args.dir c.args.k c.from-per_track.result _ _ many
    (ap (λ (x : ℕ). x * c.from-per_track.result) c.from.ensures)
    (c.min-count.ensures ∙ ap (min c.from-per_track.result) c.saturating_sub.ensures)
