use Rattle.std.proofs.Common.{Ok, ap, refl, true}
use Rattle.vol_model.specs.declared.contents.Shelf.{Shelf}
use Rattle.iebcopy_util.specs.Items.{order_if}
use Rattle.iebcopy_util.proofs.RunLemmas.{course_as, course_ends, runs_handed, runs_unmade}
use Rattle.iebcopy_util.proofs.program.do_copy.Goals as goal

pub returns-in_err-sets-clause-course : goal.returns-in_err-sets-clause-course
returns-in_err-sets-clause-course g c = runs_unmade g.M.Machine _ c.from_residual.result c.from_residual.ensures c.requires.ready

pub returns-in-Err-clause-course : goal.returns-in-Err-clause-course
returns-in-Err-clause-course g c = course_as g.M.Machine (λ told. ap (order_if c.args.step.now (g.M.Machine.meaning c.args.machine.now).state c.args.copy.now) (rw c.in-Err.is at c.in_ok-sets.ensures)) c.end_without_dd.ensures.course

pub returns-in_err-code-clause-course : goal.returns-in_err-code-clause-course
returns-in_err-code-clause-course g c =
    course_as g.M.Machine {x = λ (s : Shelf). order_if c.args.step.now s c.args.copy.now (Ok c.in-Ok.sets)} (λ told. ap (order_if c.args.step.now (g.M.Machine.meaning c.args.machine.now).state c.args.copy.now) (rw c.in-Ok.is at c.in_ok-sets.ensures))
    (runs_handed g.M.Machine c.from_residual-in_err-code.result c.from_residual-in_err-code.ensures (rw c.in_err-code.was at c.copy_sets.ensures.items))

pub returns-clause-course : goal.returns-clause-course
returns-clause-course g c =
    course_as g.M.Machine {x = λ (s : Shelf). order_if c.args.step.now s c.args.copy.now (Ok c.in-Ok.sets)} (λ told. ap (order_if c.args.step.now (g.M.Machine.meaning c.args.machine.now).state c.args.copy.now) (rw c.in-Ok.is at c.in_ok-sets.ensures))
    (course_ends g.M.Machine {course = λ (s : Shelf). order_if c.args.step.now s c.args.copy.now (Ok c.in-Ok.sets)} true (λ told. refl) c.in_ok-code.ensures.items)
