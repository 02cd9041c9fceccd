use Rattle.std.proofs.Common.{true, false, sym, ◌∙◌}
use Rattle.record_files.specs.Inputs.{records_of}
use Rattle.iebupdte_util.proofs.CheckLemmas.{checked_broken, checked_whole}
use Rattle.iebupdte_util.proofs.checking.check_function.Goals as goal

pub returns-then-not-branch-clause-checked : goal.returns-then-not-branch-clause-checked
returns-then-not-branch-clause-checked g c told found reads known =
    let s = (g.M.Machine.meaning c.args.machine.now).state in
    sym (checked_broken c.args.function.now (records_of found) c.in_ok-records.records c.walk.new.records s (c.in_ok-records.ensures s found reads known) (rw c.if-not-branch.true at (c.in_ok-walk.ensures.walked told)))

pub returns-then-is_ordered-clause-checked : goal.returns-then-is_ordered-clause-checked
returns-then-is_ordered-clause-checked g c told found reads known =
    let s = (g.M.Machine.meaning c.args.machine.now).state in
    sym (checked_whole c.args.function.now (records_of found) c.in_ok-records.records c.walk.new.records s (c.in_ok-records.ensures s found reads known) (rw c.if-not-branch.false at (c.in_ok-walk.ensures.walked told)) true (sym c.if-is_ordered.true ∙ c.is_ordered.ensures))

pub returns-clause-checked : goal.returns-clause-checked
returns-clause-checked g c told found reads known =
    let s = (g.M.Machine.meaning c.args.machine.now).state in
    sym (checked_whole c.args.function.now (records_of found) c.in_ok-records.records c.walk.new.records s (c.in_ok-records.ensures s found reads known) (rw c.if-not-branch.false at (c.in_ok-walk.ensures.walked told)) false (sym c.if-is_ordered.false ∙ c.is_ordered.ensures))
