use Rattle.iebcopy_util.specs.declared.tasks.InputLibrary.{InputLibrary}
use Rattle.record_files.proofs.Reading.{reads_then}
use Rattle.iebcopy_util.proofs.TaskLemmas.{input_taken, source_told}
use Rattle.iebcopy_util.proofs.tasks.take_input.Goals as goal

pub returns-in-Ok-2-clause-reads : goal.returns-in-Ok-2-clause-reads
returns-in-Ok-2-clause-reads g c =
    reads_then g.M.Machine (rw c.in-Ok.is at c.in_ok-info.ensures) _ (rw c.in-Ok-2.is at c.in_ok-take_entries.ensures.reads) (λ told found taken.
    let i = c.args.input.now in
    let source : InputLibrary = record { number = c.args.number; set = i.set; attr = c.in-Ok.info.attr; given = c.unwrap_or.result; replace = i.replace } in
    input_taken (g.M.Machine.meaning c.args.machine.now).state c.args.choice.now c.args.number c.args.given i c.args.tasks.now.items c.take_entries.new.tasks.items found.0 source found.1
    (source_told c.args.number c.args.given i found.0 c.in-Ok.info c.unwrap_or.result found.2 c.unwrap_or.ensures) (taken found.0 found.1).1)
