use Rattle.std.proofs.Common.{refl, sym, ◌∙◌, false}
use Rattle.std.specs.Str.{bytes_eq}
use Rattle.job_runner.specs.Programs.{program_named, programs}
use Rattle.job_runner.proofs.ProgramLemmas.{row_at}
use Rattle.job_runner.proofs.programs.program_named.Goals as goal

pub loop-known-init : goal.loop-known-init
unfolding program_named
loop-known-init c = refl

pub loop-known-preserved : goal.loop-known-preserved
loop-known-preserved c = sym (row_at (bytes_eq c.args.name.now.bytes) programs c.loop-known.known-index _ false c.loop-known-test.true (sym c.if-eq.false ∙ c.eq.ensures)) ∙ c.loop-known.invariant
