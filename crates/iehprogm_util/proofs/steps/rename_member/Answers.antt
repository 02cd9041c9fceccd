use Rattle.std.specs.Prelude.{Err}
use Rattle.vol_model.specs.declared.contents.Shelf.{Shelf}
use Rattle.util_syntax.specs.declared.listing.Outcome.TheVariants as outcome
use Rattle.util_steps.proofs.Taking.{ready_after, takes_none, takes_read, takes_unread}
use Rattle.iehprogm_util.specs.Items.{member_renamed}
use Rattle.iehprogm_util.proofs.StepLemmas.{renamed_nowhere, renamed_there}
use Rattle.iehprogm_util.proofs.steps.rename_member.Goals as goal

pub returns-in_err-entry : goal.returns-in_err-entry
returns-in_err-entry g c =
    takes_unread g.M.Machine (λ (shelf : Shelf). member_renamed shelf c.args.v c.args.dsn.now c.args.old.now c.args.new.now) c.from_residual.result c.from_residual.ensures (λ told. g.met.M.Machine.durable c.args.machine.now told c.requires.ready.sound) (rw c.in_err-entry.was at c.find_member.ensures.reads)

pub returns-in-Ok : goal.returns-in-Ok
returns-in-Ok g c =
    takes_read g.M.Machine (λ told. g.met.M.Machine.durable c.args.machine.now told c.requires.ready.sound) (rw c.in-Ok.is at c.in_ok-entry.ensures.reads)
    (λ told is. renamed_there (g.M.Machine.meaning c.args.machine.now).state c.args.v c.args.dsn.now c.args.old.now c.args.new.now c.in-Ok.entry is) c.rename_entry.ensures

pub returns-in-Err : goal.returns-in-Err
returns-in-Err g c =
    let found = rw c.in-Err.is at c.in_ok-entry.ensures.reads in
    takes_read g.M.Machine (λ told. g.met.M.Machine.durable c.args.machine.now told c.requires.ready.sound) found
    (λ told is. renamed_nowhere (g.M.Machine.meaning c.args.machine.now).state c.args.v c.args.dsn.now c.args.old.now c.args.new.now c.in-Err.refusal is)
    (takes_none g.M.Machine (Err (outcome.Refused c.in-Err.refusal)) (ready_after g.M.Machine c.in_ok-entry.ensures.reads.faults))
