use Rattle.std.proofs.Common.{sym, ◌∙◌}
use Rattle.std.specs.Prelude.{Err}
use Rattle.util_syntax.specs.declared.listing.Outcome.TheVariants as outcome
use Rattle.util_steps.proofs.Taking.{ready_after, takes_none, takes_read}
use Rattle.iehprogm_util.proofs.StepLemmas.{kept_back, not_kept}
use Rattle.iehprogm_util.proofs.steps.scratch.Goals as goal

pub returns-then-branch : goal.returns-then-branch
returns-then-branch g c =
    takes_read g.M.Machine (λ told. g.met.M.Machine.durable c.args.machine.now told c.requires.sound) c.in_ok-is_unexpired.ensures
    (λ told value. kept_back c.args.date.now (g.M.Machine.meaning c.args.machine.now).state c.args.v c.args.dsn.now (sym value ∙ c.if-branch.true))
    (takes_none g.M.Machine (Err outcome.Expires) (ready_after g.M.Machine c.in_ok-is_unexpired.ensures.faults))

pub returns : goal.returns
returns g c =
    takes_read g.M.Machine (λ told. g.met.M.Machine.durable c.args.machine.now told c.requires.sound) c.in_ok-is_unexpired.ensures
    (λ told value. not_kept c.args.date.now (g.M.Machine.meaning c.args.machine.now).state c.args.v c.args.dsn.now (sym value ∙ c.if-branch.false))
    c.purge.ensures
