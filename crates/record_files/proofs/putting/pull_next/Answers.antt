use Rattle.std.proofs.Common.{ℕ, List, ◌++◌, refl, ap}
use Rattle.std.specs.Prelude.{Ok, Err}
use Rattle.record_blocks.specs.declared.packer.Packer.{Packer}
use Rattle.record_blocks.specs.Packer.{blocks_with}
use Rattle.record_files.specs.Advancing.{forgetting}
use Rattle.record_files.specs.RecordWriter.{held_by}
use Rattle.record_files.specs.Writing.{coming_of}
use Rattle.record_files.proofs.AfterLemmas.{stopped_forgets}
use Rattle.record_files.proofs.PutLemmas.{fault_alike}
use Rattle.record_files.proofs.RecordLemmas.{advances_as}
use Rattle.record_files.proofs.putting.pull_next.Goals as goal

pub returns-in_err-pass_on-clause-advances : goal.returns-in_err-pass_on-clause-advances
returns-in_err-pass_on-clause-advances g c told records broken =
    advances_as (forgetting c.from_residual-in_err-pass_on.result) (ap (λ (l : List (List ℕ)). coming_of (held_by c.args.writer.now ++ l) broken) (c.in_ok-full.ensures.blocks records)) refl
    (stopped_forgets _ c.from_residual-in_err-pass_on.result c.from_residual-in_err-pass_on.ensures.0 (c.in_err-pass_on.ensures.advances told (blocks_with c.pull.new.self records) broken))

pub returns-in-Ok-clause-advances : goal.returns-in-Ok-clause-advances
returns-in-Ok-clause-advances g c told records broken =
    advances_as (Ok (Ok tt)) (ap (λ (l : List (List ℕ)). coming_of (held_by c.args.writer.now ++ l) broken) (c.in_ok-full.ensures.blocks records))
    (ap (λ (p : Packer). coming_of (held_by c.pass_on.new.writer ++ blocks_with p records) broken) c.pass_on.ensures.packer)
    (record { step = (rw c.in-Ok.is at (c.in_ok-pass_on.ensures.advances told (blocks_with c.pull.new.self records) broken)).step })

pub returns-in-Err-clause-advances : goal.returns-in-Err-clause-advances
returns-in-Err-clause-advances g c told records broken =
    advances_as (Ok (Err c.in-Err.fault)) (ap (λ (l : List (List ℕ)). coming_of (held_by c.args.writer.now ++ l) broken) (c.in_ok-full.ensures.blocks records)) refl
    (fault_alike c.in-Err.fault (rw c.in-Err.is at (c.in_ok-pass_on.ensures.advances told (blocks_with c.pull.new.self records) broken)))
