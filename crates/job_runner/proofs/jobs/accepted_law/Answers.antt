use Rattle.job_runner.proofs.AcceptedLemmas.{jobs_accepted}
use Rattle.job_runner.proofs.jobs.accepted_law.Goals as goal

pub returns : goal.returns
returns c = λ date jobs shelf. jobs_accepted date jobs shelf
