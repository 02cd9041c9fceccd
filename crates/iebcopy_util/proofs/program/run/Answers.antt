use Rattle.iebcopy_util.proofs.RunLemmas.{runs_all}
use Rattle.iebcopy_util.proofs.program.run.Goals as goal

pub returns-clause-runs : goal.returns-clause-runs
returns-clause-runs g c = runs_all g.M.Machine c.run_step.ensures.items c.run_step.ensures.small

pub returns-clause-memory : goal.returns-clause-memory
returns-clause-memory g c told room failed = (c.run_step.ensures.items.does told).memory room failed
