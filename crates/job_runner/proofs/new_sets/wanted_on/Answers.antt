use Rattle.std.proofs.Common.{◌∙◌, ap}
use Rattle.std.specs.Prelude.{slice_get}
use Rattle.job_runner.specs.DataSets.{wanted_with}
use Rattle.job_runner.proofs.SpaceLemmas.{wanted_told}
use Rattle.job_runner.proofs.new_sets.wanted_on.Goals as goal

pub returns-in-Some-request_on-clause-wanted : goal.returns-in-Some-request_on-clause-wanted
returns-in-Some-request_on-clause-wanted g c told =
    ap (wanted_with c.args.space.now c.args.v) c.in-Some-request_on.ensures.request ∙ wanted_told c.args.space.now c.args.v (slice_get (g.M.Machine.meaning c.args.machine.now).state.volumes c.args.v) c.in-Some.info (c.in-Some.ensures told)

pub returns-in-None-clause-wanted : goal.returns-in-None-clause-wanted
returns-in-None-clause-wanted g c told =
    ap (wanted_with c.args.space.now c.args.v) c.in-None.ensures.request ∙ wanted_told c.args.space.now c.args.v (slice_get (g.M.Machine.meaning c.args.machine.now).state.volumes c.args.v) c.in-Some.info (c.in-Some.ensures told)
