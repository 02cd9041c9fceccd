-- The bytes so far are added in hexadecimal.
use Rattle.std.proofs.Common.{◌≡◌, ◌++◌, take}
use Rattle.iehlist_util.specs.Lines.{hex_bytes}
use Rattle.iehlist_util.proofs.lines.push_hex_bytes.Given as goal

abbrev pub invariant-loop-byte : goal.invariant-loop-byte
invariant-loop-byte l = l.line.items ≡ l.initial.line.items ++ hex_bytes (take l.byte-index l.bytes)
