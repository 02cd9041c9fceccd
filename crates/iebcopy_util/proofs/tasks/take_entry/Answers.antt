use Rattle.std.proofs.Common.{List, take, sym, subst}
use Rattle.std.specs.List.{AllByRecursion}
use Rattle.record_files.proofs.Reading.{reads_as}
use Rattle.iebcopy_util.specs.declared.tasks.MemberCopy.{MemberCopy}
use Rattle.iebcopy_util.specs.Tasks.{IsLawfulMemberCopy, wanted}
use Rattle.iebcopy_util.proofs.TaskLemmas.{all_append, wanted_lawful}
use Rattle.iebcopy_util.proofs.tasks.take_entry.Goals as goal

pub returns-in-Err-clause-reads : goal.returns-in-Err-clause-reads
returns-in-Err-clause-reads g c = reads_as g.M.Machine (rw c.in-Err.is at c.in_ok-entry.ensures.reads) _ (λ told found es is. let never = found es is in cc)

pub returns-clause-lawful : goal.returns-clause-lawful
returns-clause-lawful g c =
    let more = wanted c.args.choice.now (take c.args.first c.args.tasks.now.items) c.args.source.now c.in-Ok-Some.entry in
    let lawful = rw (c.in-Ok-Some.is, c.in-Ok-Some.field-0-is) at c.in_ok-entry.ensures.lawful in
    subst (λ (l : List MemberCopy). AllByRecursion IsLawfulMemberCopy l) (sym {A = List MemberCopy} c.in_ok-push_wanted.ensures)
    (all_append IsLawfulMemberCopy c.args.tasks.now.items more c.requires.lawful (wanted_lawful c.args.choice.now (take c.args.first c.args.tasks.now.items) c.args.source.now c.in-Ok-Some.entry c.requires.choice lawful))
