use Rattle.std.proofs.Common.{map}
use Rattle.util_steps.proofs.Taking.{runs_as}
use Rattle.util_syntax.specs.Items.{item_view}
use Rattle.util_program.proofs.Answering.{items_none, items_some}
use Rattle.util_program.proofs.statements.run_program.Goals as goal

pub returns-in-Some : goal.returns-in-Some
returns-in-Some g c = runs_as g.M.Machine (items_some (g.P.Program.item c.args.program.now) c.args.step.now (map item_view c.deref.result.now) (rw c.deref.ensures.value (rw c.in-Some.is at c.in_ok-items.ensures))) c.run_statements.ensures

pub returns-in-None : goal.returns-in-None
returns-in-None g c = runs_as g.M.Machine (items_none (g.P.Program.item c.args.program.now) c.args.step.now (rw c.in-None.is at c.in_ok-items.ensures)) c.report_no_sysin.ensures
