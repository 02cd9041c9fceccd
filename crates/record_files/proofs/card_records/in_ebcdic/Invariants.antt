use Rattle.std.proofs.Common.{◌≡◌, take}
use Rattle.record_files.specs.Streams.{in_ebcdic}
use Rattle.record_files.proofs.card_records.in_ebcdic.Given as goal

abbrev pub invariant-loop-character : goal.invariant-loop-character
invariant-loop-character l = l.bytes.items ≡ in_ebcdic (take l.character-index l.text)
