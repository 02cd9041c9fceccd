use Rattle.std.proofs.Common.{List, map, sym, subst}
use Rattle.std.specs.Prelude.{Some, Ok}
use Rattle.util_steps.specs.Items.{DoesNext, items_along}
use Rattle.util_steps.proofs.Reporting.{next_item, next_stopped}
use Rattle.util_syntax.specs.declared.items.Item.{Item}
use Rattle.util_syntax.specs.Items.{item_view}
use Rattle.util_program.specs.Statements.{statement_item}
use Rattle.util_program.proofs.statements.StatementsItems.next.Goals as goal

pub returns-in_err-code-in-Some-clause-item : goal.returns-in_err-code-in-Some-clause-item
returns-in_err-code-in-Some-clause-item g c told =
    let m = g.M.Machine.meaning in
    let s = g.M.Machine.status in
    let item_of = statement_item (g.P.Program.item c.args.self.now.program.now) in
    let after = items_along item_of (m c.do_statement.new.machine).state (map item_view c.args.self.now.rest.now) in
    subst (λ (l : List Item). DoesNext g.M.Machine.tells_prints (items_along item_of (m c.args.machine.now).state (map item_view l)) after (m c.args.machine.now) (m c.do_statement.new.machine) (s c.args.machine.now).done (s c.do_statement.new.machine).done c.from_residual.result)
    (sym c.in-Some.ensures.cases.0)
    (next_stopped item_of (item_view c.in-Some.first.now) (map item_view c.in-Some.others.now) after c.from_residual.result c.from_residual.ensures.0 (c.do_statement.ensures.item told))

pub returns-in_ok-code-in-Some-clause-item : goal.returns-in_ok-code-in-Some-clause-item
returns-in_ok-code-in-Some-clause-item g c told =
    let m = g.M.Machine.meaning in
    let s = g.M.Machine.status in
    let item_of = statement_item (g.P.Program.item c.args.self.now.program.now) in
    let after = items_along item_of (m c.do_statement.new.machine).state (map item_view c.in-Some.others.now) in
    subst (λ (l : List Item). DoesNext g.M.Machine.tells_prints (items_along item_of (m c.args.machine.now).state (map item_view l)) after (m c.args.machine.now) (m c.do_statement.new.machine) (s c.args.machine.now).done (s c.do_statement.new.machine).done (Ok (Some c.in_ok-code-in-Some.code)))
    (sym c.in-Some.ensures.cases.0)
    (next_item item_of (item_view c.in-Some.first.now) (map item_view c.in-Some.others.now) c.in_ok-code-in-Some.code (c.in_ok-code-in-Some.ensures.item told))
