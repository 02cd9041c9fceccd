use Rattle.std.proofs.Common.{◌≡◌, length}
use Rattle.output_files.specs.Members.{has_twice}
use Rattle.output_files.proofs.members.has_twice.Given as goal

-- those that are left decide
abbrev pub invariant-loop-parts : goal.invariant-loop-parts
invariant-loop-parts l = has_twice l.names ≡ has_twice l.rest

abbrev pub decreases-loop-parts : goal.decreases-loop-parts
decreases-loop-parts l = length l.rest
