use Rattle.std.proofs.Common.{◌≡◌, ◌∙◌, List, true, false, ap, sym, subst, Ok}
use Rattle.std.specs.List.{AllByRecursion}
use Rattle.vol_model.specs.declared.contents.Shelf.{Shelf}
use Rattle.iebcopy_util.specs.declared.tasks.MemberCopy.{MemberCopy}
use Rattle.iebcopy_util.specs.Items.{copy_items, tasks_if}
use Rattle.iebcopy_util.specs.Sets.{is_among, library}
use Rattle.iebcopy_util.specs.Tasks.{IsLawfulMemberCopy}
use Rattle.iebcopy_util.proofs.ApartLemmas.{tasks_apart}
use Rattle.iebcopy_util.proofs.RunLemmas.{runs_as, runs_item, runs_read, runs_unread}
use Rattle.iebcopy_util.proofs.StepItems.{copies_refused, copies_same_set, copies_taken}
use Rattle.iebcopy_util.proofs.program.copy_sets.Goals as goal

pub returns-then-is_among-clause-items : goal.returns-then-is_among-clause-items
returns-then-is_among-clause-items g c =
    let sets = c.args.sets.now in
    let is : is_among sets.out sets.inputs ≡ true = cc (c.is_among.ensures, c.as_slice.ensures, c.if-is_among.true) in
    runs_as g.M.Machine (λ told. sym (copies_same_set (g.M.Machine.meaning c.args.machine.now).state c.args.card c.args.choice.now sets is)) (runs_item g.M.Machine c.report_refused.ensures.item c.report_refused.ensures.state)

pub returns-in_err-tasks-clause-items : goal.returns-in_err-tasks-clause-items
returns-in_err-tasks-clause-items g c =
    runs_unread g.M.Machine (λ (s : Shelf). copy_items s c.args.card c.args.choice.now c.args.sets.now) c.from_residual.result c.from_residual.ensures (λ told. g.met.M.Machine.durable c.args.machine.now told c.requires.ready.sound) (rw c.in_err-tasks.was at c.find_tasks.ensures.reads)

pub copy_tasks-requires-clause-apart : goal.copy_tasks-requires-clause-apart
copy_tasks-requires-clause-apart g c told =
    let s0 = (g.M.Machine.meaning c.args.machine.now).state in
    let sets = c.args.sets.now in
    let none : is_among sets.out sets.inputs ≡ false = cc (c.is_among.ensures, c.as_slice.ensures, c.if-is_among.false) in
    let found : Ok c.deref.result.now ≡ tasks_if s0 c.args.choice.now sets.out sets.inputs (library s0 sets.out) = ap (λ (l : List MemberCopy). Ok l) c.deref.ensures.value ∙ (rw c.in-Ok.is at (c.in_ok-tasks.ensures.reads.value told)) in
    tasks_apart sets.out s0 c.args.choice.now sets.inputs c.deref.result.now (library s0 sets.out) none (sym found)

pub copy_tasks-requires-clause-lawful : goal.copy_tasks-requires-clause-lawful
copy_tasks-requires-clause-lawful g c = subst (λ (l : List MemberCopy). AllByRecursion IsLawfulMemberCopy l) (sym c.deref.ensures.value) (rw c.in-Ok.is at c.in_ok-tasks.ensures.lawful)

pub returns-in-Ok-clause-items : goal.returns-in-Ok-clause-items
returns-in-Ok-clause-items g c =
    let sets = c.args.sets.now in
    let none : is_among sets.out sets.inputs ≡ false = cc (c.is_among.ensures, c.as_slice.ensures, c.if-is_among.false) in
    runs_read g.M.Machine (λ told. g.met.M.Machine.durable c.args.machine.now told c.requires.ready.sound) (rw c.in-Ok.is at c.in_ok-tasks.ensures.reads)
    (λ told found. sym (copies_taken (g.M.Machine.meaning c.args.machine.now).state c.args.card c.args.choice.now sets c.deref.result.now none (ap (λ (l : List MemberCopy). Ok l) c.deref.ensures.value ∙ found))) c.copy_tasks.ensures.items

pub returns-in-Err-clause-items : goal.returns-in-Err-clause-items
returns-in-Err-clause-items g c =
    let sets = c.args.sets.now in
    let none : is_among sets.out sets.inputs ≡ false = cc (c.is_among.ensures, c.as_slice.ensures, c.if-is_among.false) in
    runs_read g.M.Machine (λ told. g.met.M.Machine.durable c.args.machine.now told c.requires.ready.sound) (rw c.in-Err.is at c.in_ok-tasks.ensures.reads)
    (λ told found. sym (copies_refused (g.M.Machine.meaning c.args.machine.now).state c.args.card c.args.choice.now sets c.in-Err.refused none found)) (runs_item g.M.Machine c.report_refused-in-Err.ensures.item c.report_refused-in-Err.ensures.state)
