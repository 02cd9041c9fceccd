-- The sets that are counted are those that pass the test.
use Rattle.std.proofs.Common.{rules}
use Rattle.plain_steps.proofs.allocating.count_long.Goals as goal

pub returns : goal.returns
returns c = search rules
