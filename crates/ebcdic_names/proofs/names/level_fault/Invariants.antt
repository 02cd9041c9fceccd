use Rattle.std.proofs.Common.{◌≡◌, ◌≤◌, length, drop}
use Rattle.std.specs.Str.{chars}
use Rattle.ebcdic_names.specs.Names.{level_fault}
use Rattle.ebcdic_names.proofs.NameLemmas.{rest_fault}
use Rattle.ebcdic_names.proofs.names.level_fault.Given as goal

abbrev pub invariant-loop-c : goal.invariant-loop-c
invariant-loop-c l =
    (l.place ≡ length l.yielded)
    × (l.level ≤ l.place)
    × (l.at ≤ 8)
    × (rest_fault l.form l.level l.at l.place (drop l.place (chars l.text)) ≡ level_fault l.form (chars l.text))
