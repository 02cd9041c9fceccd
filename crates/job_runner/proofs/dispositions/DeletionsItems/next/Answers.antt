use Rattle.std.proofs.Common.{List, sym, subst}
use Rattle.std.specs.Prelude.{Some, Ok}
use Rattle.util_steps.specs.Items.{DoesNext, items_along}
use Rattle.util_steps.proofs.Reporting.{next_item, next_stopped}
use Rattle.job_runner.specs.declared.dispositions.Deletion.{Deletion}
use Rattle.job_runner.specs.Dispositions.{deleted}
use Rattle.job_runner.proofs.dispositions.DeletionsItems.next.Goals as goal

pub returns-in_err-code-in-Some-clause-item : goal.returns-in_err-code-in-Some-clause-item
returns-in_err-code-in-Some-clause-item g c told =
    let m = g.M.Machine.meaning in
    let s = g.M.Machine.status in
    let item_of = deleted c.args.self.now.date in
    let after = items_along item_of (m c.delete.new.machine).state c.args.self.now.rest.now in
    subst (λ (l : List Deletion). DoesNext g.M.Machine.tells_prints (items_along item_of (m c.args.machine.now).state l) after (m c.args.machine.now) (m c.delete.new.machine) (s c.args.machine.now).done (s c.delete.new.machine).done c.from_residual.result)
    (sym c.in-Some.ensures.cases.0)
    (next_stopped item_of c.in-Some.first.now c.in-Some.behind.now after c.from_residual.result c.from_residual.ensures.0 (c.delete.ensures.item told))

pub returns-in_ok-code-in-Some-clause-item : goal.returns-in_ok-code-in-Some-clause-item
returns-in_ok-code-in-Some-clause-item g c told =
    let m = g.M.Machine.meaning in
    let s = g.M.Machine.status in
    let item_of = deleted c.args.self.now.date in
    let after = items_along item_of (m c.delete.new.machine).state c.in-Some.behind.now in
    subst (λ (l : List Deletion). DoesNext g.M.Machine.tells_prints (items_along item_of (m c.args.machine.now).state l) after (m c.args.machine.now) (m c.delete.new.machine) (s c.args.machine.now).done (s c.delete.new.machine).done (Ok (Some c.in_ok-code-in-Some.code)))
    (sym c.in-Some.ensures.cases.0)
    (next_item item_of c.in-Some.first.now c.in-Some.behind.now c.in_ok-code-in-Some.code (c.in_ok-code-in-Some.ensures.item told))
