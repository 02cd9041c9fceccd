-- The order of a group says it.
use Rattle.std.proofs.Common.{◌+◌}
use Rattle.gen_groups.specs.Generations.{relative}
use Rattle.gen_groups.proofs.Groups.{newest_is_highest, next_is_newer, rank_is_place}
use Rattle.gen_groups.proofs.laws.relative_law.Goals as goal

pub returns-clause-highest : goal.returns-clause-highest
returns-clause-highest c = newest_is_highest

pub returns-clause-newest : goal.returns-clause-newest
unfolding relative
returns-clause-newest c = λ gens are. rank_is_place gens 0 are

pub returns-clause-older : goal.returns-clause-older
unfolding relative
returns-clause-older c = λ gens n are. rank_is_place gens (n + 1) are

pub returns-clause-next : goal.returns-clause-next
returns-clause-next c = next_is_newer
