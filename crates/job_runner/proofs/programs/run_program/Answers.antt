use Rattle.std.proofs.Common.{ap}
use Rattle.util_steps.proofs.Taking.{runs_as}
use Rattle.job_runner.specs.declared.programs.Program.{Program}
use Rattle.job_runner.specs.Programs.{program_items}
use Rattle.job_runner.proofs.PartLemmas.{runs_none}
use Rattle.job_runner.proofs.programs.run_program.Goals as goal

pub returns-in-Iefbr14 : goal.returns-in-Iefbr14
returns-in-Iefbr14 g c = runs_as g.M.Machine (λ shelf. ap (λ (p : Program). program_items p c.args.step.now shelf) c.in-Iefbr14.is) (runs_none g.M.Machine c.requires)
