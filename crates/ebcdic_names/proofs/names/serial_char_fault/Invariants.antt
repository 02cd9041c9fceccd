use Rattle.std.proofs.Common.{◌≡◌, length, drop}
use Rattle.std.specs.Prelude.{slice_get}
use Rattle.std.specs.Str.{chars}
use Rattle.ebcdic_names.specs.Names.{serial_faults}
use Rattle.ebcdic_names.proofs.NameLemmas.{serial_rest}
use Rattle.ebcdic_names.proofs.names.serial_char_fault.Given as goal

abbrev pub invariant-loop-c : goal.invariant-loop-c
invariant-loop-c l =
    (l.place ≡ length l.yielded)
    × (serial_rest (length l.yielded) (drop (length l.yielded) (chars l.text)) ≡ slice_get (serial_faults 0 (chars l.text)) 0)
