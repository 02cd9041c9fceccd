use Rattle.std.proofs.Common.{◌∙◌}
use Rattle.free_rebuild.proofs.HeldLemmas.{settled_held}
use Rattle.free_rebuild.proofs.RunCounts.{few_runs}
use Rattle.free_rebuild.proofs.settled.is_settled.Goals as goal

pub are_settled-requires-clause-few : goal.are_settled-requires-clause-few
are_settled-requires-clause-few c = few_runs c.requires.unit.0 c.args.vol.now c.requires.unit.1

pub returns : goal.returns
returns c image mounted = c.are_settled.ensures ∙ settled_held image c.args.vol.now mounted
