use Rattle.std.proofs.Common.{◌∙◌, ap, sym, None, []}
use Rattle.record_files.proofs.Reading.{reads_as, reads_on}
use Rattle.iebcopy_util.specs.Items.{tasks_if}
use Rattle.iebcopy_util.specs.Tasks.{tasks_of}
use Rattle.iebcopy_util.proofs.program.find_tasks.Goals as goal

pub returns-in-Ok-clause-reads : goal.returns-in-Ok-clause-reads
returns-in-Ok-clause-reads g c =
    let sets = c.args.sets.now in
    let s0 = (g.M.Machine.meaning c.args.machine.now).state in
    reads_on g.M.Machine (rw c.in-Ok.is at c.in_ok-find_set.ensures) c.tasks_of.ensures.reads (λ told found answer is. is ∙ ap (tasks_of s0 c.args.choice.now 0 None []) c.as_slice.ensures ∙ sym (ap (tasks_if s0 c.args.choice.now sets.out sets.inputs) found.1))

pub returns-in-Err-clause-reads : goal.returns-in-Err-clause-reads
returns-in-Err-clause-reads g c = reads_as g.M.Machine (rw c.in-Err.is at c.in_ok-find_set.ensures) _ (λ told is. sym (ap (tasks_if (g.M.Machine.meaning c.args.machine.now).state c.args.choice.now c.args.sets.now.out c.args.sets.now.inputs) is))
