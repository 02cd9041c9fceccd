use Rattle.record_files.specs.Members.{entries_of}
use Rattle.record_files.proofs.FoundLemmas.{library_entries, place_found, place_missing, place_refused}
use Rattle.record_files.proofs.MemberLemmas.{entry_answered, entry_told}
use Rattle.record_files.proofs.Reading.{reads_as, reads_then}
use Rattle.record_files.proofs.members.find_member.Goals as goal

pub returns-in-Err : goal.returns-in-Err
returns-in-Err g c = reads_as g.M.Machine (rw c.in-Err.is at c.in_ok-info.ensures) _ (λ told is. place_refused (g.M.Machine.meaning c.args.machine.now).state c.args.set.now c.args.name.now c.in-Err.refusal is)

pub returns-in-Ok-Some : goal.returns-in-Ok-Some
returns-in-Ok-Some g c =
    reads_then g.M.Machine (rw c.in-Ok.is at c.in_ok-info.ensures) _ (rw (c.in-Ok-Some.is, c.in-Ok-Some.field-0-is) at c.in_ok-entry.ensures) (λ told finds entry.
    place_found (g.M.Machine.meaning c.args.machine.now).state c.args.set.now c.args.name.now c.in-Ok.info finds c.in-Ok-Some.entry (entry_told _ _ (entry (entries_of finds.0.body) (library_entries (g.M.Machine.meaning c.args.machine.now).state c.args.set.now finds.0 finds.1))))

pub returns-in-Ok-None : goal.returns-in-Ok-None
returns-in-Ok-None g c =
    reads_then g.M.Machine (rw c.in-Ok.is at c.in_ok-info.ensures) _ (rw (c.in-Ok-None.is, c.in-Ok-None.field-0-is) at c.in_ok-entry.ensures) (λ told finds entry.
    place_missing (g.M.Machine.meaning c.args.machine.now).state c.args.set.now c.args.name.now c.in-Ok.info finds (entry_told _ _ (entry (entries_of finds.0.body) (library_entries (g.M.Machine.meaning c.args.machine.now).state c.args.set.now finds.0 finds.1))))

pub returns-in-Err-2 : goal.returns-in-Err-2
returns-in-Err-2 g c =
    reads_then g.M.Machine (rw c.in-Ok.is at c.in_ok-info.ensures) _ (rw c.in-Err-2.is at c.in_ok-entry.ensures) (λ told finds never. absurd (entry_answered _ _ (never (entries_of finds.0.body) (library_entries (g.M.Machine.meaning c.args.machine.now).state c.args.set.now finds.0 finds.1))))
