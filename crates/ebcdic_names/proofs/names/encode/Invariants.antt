use Rattle.std.proofs.Common.{◌≡◌, ◌-◌, ◌++◌, length, replicate, map}
use Rattle.ebcdic_names.specs.Names.{byte_of}
use Rattle.ebcdic_names.proofs.names.encode.Given as goal

abbrev pub invariant-loop-c : goal.invariant-loop-c
invariant-loop-c g l =
    (l.at ≡ length l.yielded)
    × (l.bytes ≡ map byte_of l.yielded ++ replicate (g.row.N - l.at) 64)
