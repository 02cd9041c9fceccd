use Rattle.std.proofs.Common.{ap, sym, ◌∙◌, Ok}
use Rattle.std.specs.Prelude.{is_some}
use Rattle.record_files.proofs.MemberLemmas.{entry_answered, entry_told, found_some}
use Rattle.record_files.proofs.Reading.{reads_as}
use Rattle.record_files.proofs.members.has_entry.Goals as goal

pub returns-in-Ok : goal.returns-in-Ok
returns-in-Ok g c = reads_as g.M.Machine (rw c.in-Ok.is at c.in_ok-found.ensures) _ (λ told entry es is. ap Ok (c.is_some.ensures ∙ sym (ap is_some (entry_told _ _ (entry es is))) ∙ found_some c.args.name.now.bytes es))

pub returns-in-Err : goal.returns-in-Err
returns-in-Err g c = reads_as g.M.Machine (rw c.in-Err.is at c.in_ok-found.ensures) _ (λ told never es is. absurd (entry_answered _ _ (never es is)))
