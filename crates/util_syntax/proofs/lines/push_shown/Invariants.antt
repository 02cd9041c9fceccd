use Rattle.std.proofs.Common.{◌≡◌, ◌++◌, take, map}
use Rattle.ebcdic_names.specs.CodePage.{ascii_of}
use Rattle.util_syntax.proofs.lines.push_shown.Given as goal

abbrev pub invariant-loop-byte : goal.invariant-loop-byte
invariant-loop-byte l = l.line.items ≡ l.initial.line.items ++ map ascii_of (take l.byte-index l.byte-items)
