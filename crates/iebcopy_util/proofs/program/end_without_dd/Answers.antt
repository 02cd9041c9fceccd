use Rattle.std.proofs.Common.{false, refl}
use Rattle.vol_model.specs.declared.contents.Shelf.{Shelf}
use Rattle.util_syntax.specs.Program.{no_dd_item}
use Rattle.iebcopy_util.specs.Items.{ends_with}
use Rattle.iebcopy_util.proofs.RunLemmas.{course_ends, runs_handed, runs_item}
use Rattle.iebcopy_util.proofs.program.end_without_dd.Goals as goal

pub returns-in_err-code-clause-course : goal.returns-in_err-code-clause-course
returns-in_err-code-clause-course g c = runs_handed g.M.Machine c.from_residual.result c.from_residual.ensures (runs_item g.M.Machine (rw c.in_err-code.was at c.report_no_dd.ensures.item) c.report_no_dd.ensures.state)

pub returns-clause-course : goal.returns-clause-course
returns-clause-course g c = course_ends g.M.Machine {course = λ (s : Shelf). ends_with (no_dd_item c.args.card c.args.name.now)} false (λ told. refl) (runs_item g.M.Machine c.in_ok-code.ensures.item c.report_no_dd.ensures.state)
