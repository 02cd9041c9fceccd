use Rattle.std.proofs.Common.{map, take}
use Rattle.std.specs.Fmt.{HasWritten, IsPlainFormatter}
use Rattle.ebcdic_names.specs.CodePage.{ascii_of}
use Rattle.ebcdic_names.proofs.names.write_characters.Given as goal

abbrev pub invariant-loop-e : goal.invariant-loop-e
invariant-loop-e g l =
    IsPlainFormatter l.initial.f → HasWritten g.W.Write.write_str_gives l.initial.f (map ascii_of (take l.e-index l.e-items)) l.f
