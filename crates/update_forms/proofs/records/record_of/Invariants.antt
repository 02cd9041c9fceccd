-- The bytes so far.
use Rattle.std.proofs.Common.{◌≡◌, take, map, length}
use Rattle.ebcdic_names.specs.Names.{byte_of}
use Rattle.update_forms.proofs.records.record_of.Given as goal

abbrev pub invariant-loop-at : goal.invariant-loop-at
invariant-loop-at l = record { front : take l.at l.bytes ≡ map byte_of (take l.at l.card.bytes); whole : length l.bytes ≡ 80; card : length l.card.bytes ≡ 80 }
