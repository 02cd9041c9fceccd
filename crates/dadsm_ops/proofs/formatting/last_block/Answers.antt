-- The place of the last block, by division.
use Rattle.std.proofs.Common.{◌-◌, ◌+◌, ◌/◌, ◌%◌, ℕ, ap, ◌∙◌}
use Rattle.dadsm_ops.proofs.DirectoryPlaces.{last_block}
use Rattle.dadsm_ops.proofs.formatting.last_block.Goals as goal

pub returns-clause-place : goal.returns-clause-place
returns-clause-place c =
    let i : ℕ = c.args.dir - 1 in
    let many = c.from-per_track.ensures ∙ c.directory_blocks_per_track.ensures.table in
    last_block c.args.device i _ (ap (λ (n : ℕ). i / n) many) (ap (λ (n : ℕ). i % n + 1) many)
