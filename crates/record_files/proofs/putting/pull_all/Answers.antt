use Rattle.std.proofs.Common.{refl, ◌∙◌}
use Rattle.std.specs.Prelude.{Ok, Err}
use Rattle.record_files.specs.RecordWriter.{blocks_to_come}
use Rattle.record_files.specs.Writing.{coming_of}
use Rattle.record_files.proofs.AdvanceLemmas.{advanced_none, advanced_then, advances_then}
use Rattle.record_files.proofs.CallLemmas.{puts_none, puts_then}
use Rattle.record_files.proofs.PutLemmas.{fault_alike, stops_alike}
use Rattle.record_files.proofs.putting.pull_all.Goals as goal

pub loop-fault-init : goal.loop-fault-init
loop-fault-init g c = record {
  so_far = λ told records broken. advanced_none g.M.Machine.tells_prints (coming_of (blocks_to_come c.args.writer.now records) broken) (g.M.Machine.writer c.args.machine.now) (g.M.Machine.meaning c.args.machine.now) (g.M.Machine.status c.args.machine.now).done;
  format = refl;
  call = puts_none g.M.Machine tt c.requires;
}

pub loop-fault-preserved : goal.loop-fault-preserved
loop-fault-preserved g c = record {
  so_far = λ told records broken. advanced_then (c.loop-fault.invariant.so_far told records broken) (rw c.in-Ok-true.is at (c.in_ok-pull_next.ensures.advances told records broken)).step;
  format = c.pull_next.ensures.format ∙ c.loop-fault.invariant.format;
  call = puts_then g.M.Machine tt c.loop-fault.invariant.call (rw c.in_ok-pull_next.was at c.pull_next.ensures.call);
}

pub returns-in_err-pull_next-clause-advances : goal.returns-in_err-pull_next-clause-advances
returns-in_err-pull_next-clause-advances g c told records broken =
    advances_then (c.loop-fault.invariant.so_far told records broken) c.from_residual.result (stops_alike _ c.from_residual.result c.from_residual.ensures.0 (c.in_err-pull_next.ensures.advances told records broken))

pub returns-in-Ok-false-clause-advances : goal.returns-in-Ok-false-clause-advances
returns-in-Ok-false-clause-advances g c told records broken =
    advances_then (c.loop-fault.invariant.so_far told records broken) (Ok (Ok tt)) (record { step = (rw c.in-Ok-false.is at (c.in_ok-pull_next.ensures.advances told records broken)).step })

pub returns-in-Err-clause-advances : goal.returns-in-Err-clause-advances
returns-in-Err-clause-advances g c told records broken =
    advances_then (c.loop-fault.invariant.so_far told records broken) (Ok (Err c.in-Err.fault)) (fault_alike c.in-Err.fault (rw c.in-Err.is at (c.in_ok-pull_next.ensures.advances told records broken)))
