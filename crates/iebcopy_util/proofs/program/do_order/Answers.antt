use Rattle.std.proofs.Common.{sym}
use Rattle.iebcopy_util.proofs.RunLemmas.{course_as}
use Rattle.iebcopy_util.proofs.StepItems.{order_copy, order_fault}
use Rattle.iebcopy_util.proofs.program.do_order.Goals as goal

pub returns-in-Copy-clause-course : goal.returns-in-Copy-clause-course
returns-in-Copy-clause-course g c = course_as g.M.Machine (λ told. sym (order_copy c.args.step.now (g.M.Machine.meaning c.args.machine.now).state c.args.order.now c.in-Copy.copy c.in-Copy.is)) c.do_copy.ensures.course

pub returns-in-Fault-clause-course : goal.returns-in-Fault-clause-course
returns-in-Fault-clause-course g c = course_as g.M.Machine (λ told. sym (order_fault c.args.step.now (g.M.Machine.meaning c.args.machine.now).state c.args.order.now c.in-Fault.fault c.in-Fault.is)) c.end_in_fault.ensures.course
