use Rattle.std.proofs.Common.{rules}
use Rattle.util_steps.specs.Items.{items_along}
use Rattle.job_runner.specs.Dispositions.{deleted}
use Rattle.job_runner.specs.Jobs.{program_unless}
use Rattle.job_runner.proofs.JobLemmas.{coded_stopped, coded_then, coded_unfinished}
use Rattle.job_runner.proofs.PartLemmas.{coded_by, runs_by}
use Rattle.job_runner.proofs.steps.finish.Goals as goal

pub returns-in_err-code : goal.returns-in_err-code
returns-in_err-code g c =
    let shelf = (g.M.Machine.meaning c.args.machine.now).state in
    runs_by g.M.Machine
    (λ told. coded_stopped (program_unless c.args.is_refused c.args.program c.args.step.now shelf) (λ s. items_along (deleted c.args.step.now.date) s c.args.deletions.now) c.from_residual.result c.from_residual.ensures.0 (coded_by g.M.Machine c.run_unless.ensures told))
    (search rules) (search rules) (search rules)

pub returns-in_err-after : goal.returns-in_err-after
returns-in_err-after g c =
    let shelf = (g.M.Machine.meaning c.args.machine.now).state in
    runs_by g.M.Machine
    (λ told. coded_unfinished (program_unless c.args.is_refused c.args.program c.args.step.now shelf) (λ s. items_along (deleted c.args.step.now.date) s c.args.deletions.now) c.from_residual-in_err-after.result c.from_residual-in_err-after.ensures.0 (coded_by g.M.Machine c.in_ok-code.ensures told) (coded_by g.M.Machine c.delete_all.ensures told))
    (search rules) (search rules) (search rules)

pub returns : goal.returns
returns g c =
    let shelf = (g.M.Machine.meaning c.args.machine.now).state in
    runs_by g.M.Machine
    (λ told. coded_then (program_unless c.args.is_refused c.args.program c.args.step.now shelf) (λ s. items_along (deleted c.args.step.now.date) s c.args.deletions.now) c.in_ok-code.code c.in_ok-after.after c.higher.result (coded_by g.M.Machine c.in_ok-code.ensures told) (coded_by g.M.Machine c.in_ok-after.ensures told) c.higher.ensures)
    (search rules) (search rules) (search rules)
