use Rattle.std.proofs.Common.{false}
use Rattle.vol_model.specs.declared.contents.Shelf.{Shelf}
use Rattle.vol_model.specs.declared.requests.Op.TheVariants as ops
use Rattle.util_steps.proofs.Taking.{takes_ends, takes_stops, takes_then}
use Rattle.util_program.specs.Outcomes.{performed}
use Rattle.iehprogm_util.specs.Items.{entry_renamed}
use Rattle.iehprogm_util.proofs.steps.rename_entry.Goals as goal

pub returns-in_err-enter_as : goal.returns-in_err-enter_as
unfolding entry_renamed
returns-in_err-enter_as g c =
    takes_stops g.M.Machine (λ (shelf : Shelf). performed shelf (ops.Enter c.args.v c.args.dsn.now (record c.args.entry { name = c.args.new.now }) false)) (λ (x : Unit {0}) (u : Shelf). performed u (ops.Drop c.args.v c.args.dsn.now c.args.old.now))
    c.from_residual.result c.from_residual.ensures (rw c.in_err-enter_as.was at c.enter_as.ensures)

pub returns-in-Ok : goal.returns-in-Ok
unfolding entry_renamed
returns-in-Ok g c =
    takes_then g.M.Machine (λ (shelf : Shelf). performed shelf (ops.Enter c.args.v c.args.dsn.now (record c.args.entry { name = c.args.new.now }) false)) (λ (x : Unit {0}) (u : Shelf). performed u (ops.Drop c.args.v c.args.dsn.now c.args.old.now))
    (rw c.in-Ok.is at c.in_ok-enter_as.ensures) c.drop_member.ensures

pub returns-in-Err : goal.returns-in-Err
unfolding entry_renamed
returns-in-Err g c =
    takes_ends g.M.Machine (λ (shelf : Shelf). performed shelf (ops.Enter c.args.v c.args.dsn.now (record c.args.entry { name = c.args.new.now }) false)) (λ (x : Unit {0}) (u : Shelf). performed u (ops.Drop c.args.v c.args.dsn.now c.args.old.now))
    (rw c.in-Err.is at c.in_ok-enter_as.ensures)
