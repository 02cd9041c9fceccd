use Rattle.std.proofs.Common.{◌≡◌, ◌+◌}
use Rattle.job_runner.specs.Space.{blocks_per_track}
use Rattle.job_runner.proofs.SpaceLemmas.{more_blocks}
use Rattle.job_runner.proofs.new_sets.short_blocks.Given as goal

abbrev pub invariant-loop-n : goal.invariant-loop-n
invariant-loop-n l = blocks_per_track l.device l.len ≡ l.n + more_blocks l.device l.len l.n
