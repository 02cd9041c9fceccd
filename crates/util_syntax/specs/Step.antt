-- The DDs of a step.
use Rattle.std.specs.Prelude.{Bool, nat_eq}
use Rattle.std.specs.Cmp.Lexicographic.{pointwise}
use Rattle.ebcdic_names.specs.declared.names.Name8.{Name8}
use Rattle.util_syntax.specs.declared.step.DdIn.{DdIn}
use Rattle.util_syntax.specs.declared.step.DdKey.{DdKey}

abbrev pub same_name : Name8 → Name8 → Bool
same_name name other = pointwise nat_eq name.bytes other.bytes

-- a DD with its name, of its key
abbrev pub named : DdKey × DdIn → Name8 × DdIn
named entry = (record { bytes = entry.0.bytes }, entry.1)
