use Rattle.std.proofs.Common.{sym, ◌∙◌, ap, Ok}
use Rattle.record_files.proofs.Reading.{reads_weaker}
use Rattle.output_files.proofs.MemberLemmas.{left_to_read}
use Rattle.output_files.proofs.members.are_aliases_taken.Goals as goal

pub returns : goal.returns
returns g c = reads_weaker g.M.Machine c.has_any_entry.ensures (λ told answer has es is. has es is ∙ ap Ok (left_to_read _ _ _ c.if-names.false (sym c.repeats.ensures ∙ c.if-repeats.false)))
