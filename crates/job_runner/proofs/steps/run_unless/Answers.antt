use Rattle.std.proofs.Common.{Bool, ap}
use Rattle.util_steps.proofs.Taking.{runs_as}
use Rattle.job_runner.specs.Jobs.{program_unless}
use Rattle.job_runner.proofs.PartLemmas.{runs_none}
use Rattle.job_runner.proofs.steps.run_unless.Goals as goal

pub returns-then-is_refused : goal.returns-then-is_refused
returns-then-is_refused g c = runs_as g.M.Machine (λ shelf. ap (λ (b : Bool). program_unless b c.args.program c.args.step.now shelf) c.if-is_refused.true) (runs_none g.M.Machine c.requires)

pub returns-else-is_refused : goal.returns-else-is_refused
returns-else-is_refused g c = runs_as g.M.Machine (λ shelf. ap (λ (b : Bool). program_unless b c.args.program c.args.step.now shelf) c.if-is_refused.false) c.run_program.ensures
