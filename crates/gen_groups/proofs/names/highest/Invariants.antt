-- The highest number so far.
use Rattle.std.proofs.Common.{◌≡◌, ◌≤◌, take}
use Rattle.gen_groups.specs.Generations.{highest}
use Rattle.gen_groups.proofs.names.highest.Given as goal

abbrev pub invariant-loop-name : goal.invariant-loop-name
invariant-loop-name l = record { value : l.number ≡ highest (take l.name-index l.gens); small : l.number ≤ 16665 }
