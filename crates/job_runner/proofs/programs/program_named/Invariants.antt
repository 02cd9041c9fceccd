use Rattle.std.proofs.Common.{◌≡◌, drop}
use Rattle.std.specs.Map.{lookup}
use Rattle.std.specs.Str.{bytes_eq}
use Rattle.job_runner.specs.Programs.{program_named, programs}
use Rattle.job_runner.proofs.programs.program_named.Given as goal

abbrev pub invariant-loop-known : goal.invariant-loop-known
invariant-loop-known l = lookup (bytes_eq l.name.bytes) (drop l.known-index programs) ≡ program_named l.name
