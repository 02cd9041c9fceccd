use Rattle.std.proofs.Common.{Bool, ◌∙◌, ap, Ok}
use Rattle.std.specs.Prelude.{◌||◌}
use Rattle.record_files.proofs.Reading.{reads_as, reads_on}
use Rattle.output_files.specs.Members.{are_aliases_taken, names_view}
use Rattle.output_files.proofs.MemberLemmas.{not_refused, told_so}
use Rattle.output_files.proofs.members.is_taken.Goals as goal

pub returns-in-Ok-false : goal.returns-in-Ok-false
returns-in-Ok-false g c = reads_on g.M.Machine (rw (c.in-Ok-false.is, c.in-Ok-false.field-0-test) at c.in_ok-is_own_taken.ensures) c.are_aliases_taken.ensures (λ told own answer others es is. others es is ∙ ap (λ (t : Bool). Ok (t || are_aliases_taken es (names_view c.args.names.now))) (told_so _ _ (own es is)))

pub returns-in-Ok-true : goal.returns-in-Ok-true
returns-in-Ok-true g c = reads_as g.M.Machine (rw (c.in-Ok-true.is, c.in-Ok-true.field-0-test) at c.in_ok-is_own_taken.ensures) _ (λ told own es is. ap (λ (t : Bool). Ok (t || are_aliases_taken es (names_view c.args.names.now))) (told_so _ _ (own es is)))

pub returns-in-Err : goal.returns-in-Err
returns-in-Err g c = reads_as g.M.Machine (rw c.in-Err.is at c.in_ok-is_own_taken.ensures) _ (λ told never es is. absurd (not_refused c.in-Err.refusal _ (never es is)))
