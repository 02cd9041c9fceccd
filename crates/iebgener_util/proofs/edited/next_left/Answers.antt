use Rattle.std.proofs.Common.{refl, ◌∙◌, arith}
use Rattle.record_files.specs.Reader.{reader_given, reader_stream}
use Rattle.record_files.proofs.CallLemmas.{beside_none, beside_stops, beside_then}
use Rattle.iebgener_util.proofs.EditedLemmas.{end_left, fault_left, record_skipped}
use Rattle.iebgener_util.proofs.edited.next_left.Goals as goal

pub loop-skipped-init : goal.loop-skipped-init
loop-skipped-init g c = record { reads = beside_none g.M.Machine tt c.requires.sound (λ told. refl); fewer = omega arith }

pub loop-skipped-smaller : goal.loop-skipped-smaller
loop-skipped-smaller g c = c.in_ok-next.ensures.fewer c.in-Record.is

pub loop-skipped-preserved : goal.loop-skipped-preserved
loop-skipped-preserved g c =
    let fewer = c.in_ok-next.ensures.fewer c.in-Record.is in
    record {
      reads = beside_then g.M.Machine c.loop-skipped.invariant.reads tt (rw c.in-Record.is at c.in_ok-next.ensures.reads) (λ told so gives.
          let s = (g.M.Machine.meaning c.args.machine.now).state in
          let st = reader_stream c.next.new.self s in
          let passed = rw (c.last_record.ensures, c.if-not-branch.false) at (c.in_ok-take.ensures st.records) in
          so ∙ record_skipped c.loop-skipped.skipped c.take.new.self (reader_stream c.loop-skipped.reader s) st (reader_given c.next.new.self) gives passed);
      fewer = omega (arith, c.loop-skipped.invariant.fewer, fewer);
    }

pub returns-in_err-next-clause-reads : goal.returns-in_err-next-clause-reads
returns-in_err-next-clause-reads g c = beside_stops g.M.Machine c.loop-skipped.invariant.reads c.from_residual.result c.from_residual.ensures (rw c.in_err-next.was at c.next.ensures.reads)

pub returns-in-End-clause-reads : goal.returns-in-End-clause-reads
returns-in-End-clause-reads g c = beside_then g.M.Machine c.loop-skipped.invariant.reads _ (rw c.in-End.is at c.in_ok-next.ensures.reads) (λ told so end. so ∙ end_left c.loop-skipped.skipped _ end)

pub returns-in-Broken-clause-reads : goal.returns-in-Broken-clause-reads
returns-in-Broken-clause-reads g c = beside_then g.M.Machine c.loop-skipped.invariant.reads _ (rw c.in-Broken.is at c.in_ok-next.ensures.reads) (λ told so fault. so ∙ fault_left c.loop-skipped.skipped _ fault)
