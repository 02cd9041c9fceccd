use Rattle.std.proofs.Common.{sym, ◌∙◌}
use Rattle.record_files.specs.Members.{entries_of}
use Rattle.record_files.proofs.FoundLemmas.{library_entries}
use Rattle.record_files.proofs.Reading.{reads_as, reads_then}
use Rattle.output_files.specs.Members.{names_view}
use Rattle.output_files.proofs.MemberLemmas.{not_refused, taking_ended, taking_free, taking_refused, taking_taken, told_so}
use Rattle.output_files.proofs.members.find_library.Goals as goal

pub returns-in-Err-clause-reads : goal.returns-in-Err-clause-reads
returns-in-Err-clause-reads g c = reads_as g.M.Machine (rw c.in-Err.is at c.in_ok-info.ensures) _ (λ told is. taking_refused (g.M.Machine.meaning c.args.machine.now).state c.args.to.now (names_view c.args.names.now) c.in-Err.refusal is)

pub returns-then-has_end_name-clause-reads : goal.returns-then-has_end_name-clause-reads
returns-then-has_end_name-clause-reads g c =
    reads_as g.M.Machine (rw c.in-Ok.is at c.in_ok-info.ensures) _ (λ told finds. taking_ended (g.M.Machine.meaning c.args.machine.now).state c.args.to.now (names_view c.args.names.now) c.in-Ok.info finds (sym c.has_end_name.ensures ∙ c.if-has_end_name.true))

pub returns-in-Err-2-clause-reads : goal.returns-in-Err-2-clause-reads
returns-in-Err-2-clause-reads g c =
    reads_then g.M.Machine (rw c.in-Ok.is at c.in_ok-info.ensures) _ (rw c.in-Err-2.is at c.in_ok-is_taken.ensures) (λ told finds never. absurd (not_refused c.in-Err-2.refusal _ (never (entries_of finds.0.body) (library_entries (g.M.Machine.meaning c.args.machine.now).state c.args.to.now finds.0 finds.1))))

pub returns-in-Ok-true-clause-reads : goal.returns-in-Ok-true-clause-reads
returns-in-Ok-true-clause-reads g c =
    reads_then g.M.Machine (rw c.in-Ok.is at c.in_ok-info.ensures) _ (rw (c.in-Ok-true.is, c.in-Ok-true.field-0-test) at c.in_ok-is_taken.ensures) (λ told finds has.
    taking_taken (g.M.Machine.meaning c.args.machine.now).state c.args.to.now (names_view c.args.names.now) c.in-Ok.info finds (sym c.has_end_name.ensures ∙ c.if-has_end_name.false)
    (told_so _ _ (has (entries_of finds.0.body) (library_entries (g.M.Machine.meaning c.args.machine.now).state c.args.to.now finds.0 finds.1))))

pub returns-in-Ok-false-clause-reads : goal.returns-in-Ok-false-clause-reads
returns-in-Ok-false-clause-reads g c =
    reads_then g.M.Machine (rw c.in-Ok.is at c.in_ok-info.ensures) _ (rw (c.in-Ok-false.is, c.in-Ok-false.field-0-test) at c.in_ok-is_taken.ensures) (λ told finds has.
    taking_free (g.M.Machine.meaning c.args.machine.now).state c.args.to.now (names_view c.args.names.now) c.in-Ok.info finds (sym c.has_end_name.ensures ∙ c.if-has_end_name.false)
    (told_so _ _ (has (entries_of finds.0.body) (library_entries (g.M.Machine.meaning c.args.machine.now).state c.args.to.now finds.0 finds.1))))
