use Rattle.std.proofs.Common.{refl, ◌∙◌, arith}
use Rattle.record_files.proofs.CallLemmas.{beside_none, beside_stops, beside_then}
use Rattle.record_files.proofs.block_reading.BlockRecordsRecordSource.next.Goals as goal

pub loop-init : goal.loop-init
loop-init g c = record { reads = beside_none g.M.Machine tt c.requires.sound (λ told. refl); fewer = omega arith }

pub loop-smaller : goal.loop-smaller
loop-smaller g c = (rw c.in-Part.is at c.in_ok-step.ensures.fewer) tt

pub loop-preserved : goal.loop-preserved
loop-preserved g c =
    let fewer = (rw c.in-Part.is at c.in_ok-step.ensures.fewer) tt in
    record {
      reads = beside_then g.M.Machine c.loop.invariant.reads tt (rw c.in-Part.is at c.in_ok-step.ensures.reads) (λ told so gives. so ∙ gives);
      fewer = omega (arith, c.loop.invariant.fewer, fewer);
    }

pub returns-in_err-step-clause-reads : goal.returns-in_err-step-clause-reads
returns-in_err-step-clause-reads g c = beside_stops g.M.Machine c.loop.invariant.reads c.from_residual.result c.from_residual.ensures (rw c.in_err-step.was at c.step.ensures.reads)

pub returns-in-Record-clause-reads : goal.returns-in-Record-clause-reads
returns-in-Record-clause-reads g c = beside_then g.M.Machine c.loop.invariant.reads _ (rw c.in-Record.is at c.in_ok-step.ensures.reads) (λ told so gives. so ∙ gives)

pub returns-in-Record-clause-fewer : goal.returns-in-Record-clause-fewer
returns-in-Record-clause-fewer g c given = let fewer = (rw c.in-Record.is at c.in_ok-step.ensures.fewer) tt in omega (arith, c.loop.invariant.fewer, fewer)

pub returns-in-End-clause-reads : goal.returns-in-End-clause-reads
returns-in-End-clause-reads g c = beside_then g.M.Machine c.loop.invariant.reads _ (rw c.in-End.is at c.in_ok-step.ensures.reads) (λ told so gives. so ∙ gives)

pub returns-in-Broken-clause-reads : goal.returns-in-Broken-clause-reads
returns-in-Broken-clause-reads g c = beside_then g.M.Machine c.loop.invariant.reads _ (rw c.in-Broken.is at c.in_ok-step.ensures.reads) (λ told so gives. so ∙ gives)
