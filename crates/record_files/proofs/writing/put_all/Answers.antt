use Rattle.std.proofs.Common.{ℕ, false, List, [], refl, sym, ◌∙◌, ap}
use Rattle.std.specs.Prelude.{Ok, Err}
use Rattle.record_files.specs.RecordWriter.{coming}
use Rattle.record_files.specs.Streams.{with_record}
use Rattle.record_files.specs.Writing.{coming_of}
use Rattle.record_files.proofs.AdvanceLemmas.{advanced_none, advanced_reads, advanced_then, advances_then}
use Rattle.record_files.proofs.AfterLemmas.{after_read, read_ends}
use Rattle.record_files.proofs.CallLemmas.{puts_beside, puts_none, puts_then}
use Rattle.record_files.proofs.PutLemmas.{fault_alike, stops_alike}
use Rattle.record_files.proofs.RecordLemmas.{advances_as}
use Rattle.record_files.proofs.writing.put_all.Goals as goal

pub loop-machine-init : goal.loop-machine-init
loop-machine-init g c = record {
  so_far = λ told. advanced_none g.M.Machine.tells_prints (coming c.args.writer.now (g.R.RecordSource.stream c.args.records.now (g.M.Machine.meaning c.args.machine.now).state)) (g.M.Machine.writer c.args.machine.now) (g.M.Machine.meaning c.args.machine.now) (g.M.Machine.status c.args.machine.now).done;
  idle = c.requires.idle;
  call = puts_none g.M.Machine tt c.requires.writing;
}

pub returns-in_err-next-clause-advances : goal.returns-in_err-next-clause-advances
returns-in_err-next-clause-advances g c told =
    advances_then (c.loop-machine.invariant.so_far told) c.from_residual.result (read_ends (c.next.ensures.reads.runs told) c.from_residual.result c.from_residual.ensures.0)

pub returns-in-End-clause-advances : goal.returns-in-End-clause-advances
returns-in-End-clause-advances g c told =
    let w = c.loop-machine.writer in
    let ends = rw c.in-End.is at (c.in_ok-next.ensures.reads.value told) in
    advances_then (c.loop-machine.invariant.so_far told) c.finish.result
    (after_read g.M.Machine c.next.ensures.reads told c.finish.result
    (advances_as c.finish.result (ap (coming w) ends) refl (c.finish.ensures.advances told)))

pub returns-in-Broken-clause-advances : goal.returns-in-Broken-clause-advances
returns-in-Broken-clause-advances g c told =
    let w = c.loop-machine.writer in
    let breaks = rw c.in-Broken.is at (c.in_ok-next.ensures.reads.value told) in
    advances_then (c.loop-machine.invariant.so_far told) c.break_off.result
    (after_read g.M.Machine c.next.ensures.reads told c.break_off.result
    (advances_as c.break_off.result (ap (coming w) breaks) refl (c.break_off.ensures.advances told (coming_of [] false) c.break_off.new.writer.start)))

pub returns-in_err-fault-clause-advances : goal.returns-in_err-fault-clause-advances
returns-in_err-fault-clause-advances g c told =
    let w = c.loop-machine.writer in
    let gives = rw c.in-Record.is at (c.in_ok-next.ensures.reads.value told) in
    let st = g.R.RecordSource.stream c.next.new.self (g.M.Machine.meaning c.loop-machine.machine).state in
    advances_then (c.loop-machine.invariant.so_far told) c.from_residual-in_err-fault.result
    (after_read g.M.Machine c.next.ensures.reads told c.from_residual-in_err-fault.result
    (advances_as c.from_residual-in_err-fault.result (ap (coming w) gives ∙ ap (λ (l : List ℕ). coming w (with_record l st)) (sym c.record.ensures)) refl
    (stops_alike _ c.from_residual-in_err-fault.result c.from_residual-in_err-fault.ensures.0 (c.in_err-fault.ensures.advances told st))))

pub returns-in-Err-clause-advances : goal.returns-in-Err-clause-advances
returns-in-Err-clause-advances g c told =
    let w = c.loop-machine.writer in
    let gives = rw c.in-Record.is at (c.in_ok-next.ensures.reads.value told) in
    let st = g.R.RecordSource.stream c.next.new.self (g.M.Machine.meaning c.loop-machine.machine).state in
    advances_then (c.loop-machine.invariant.so_far told) (Ok (Err c.in-Err.fault))
    (after_read g.M.Machine c.next.ensures.reads told (Ok (Err c.in-Err.fault))
    (advances_as (Ok (Err c.in-Err.fault)) (ap (coming w) gives ∙ ap (λ (l : List ℕ). coming w (with_record l st)) (sym c.record.ensures)) refl
    (fault_alike c.in-Err.fault (rw c.in-Err.is at (c.in_ok-fault.ensures.advances told st)))))

pub loop-machine-smaller : goal.loop-machine-smaller
loop-machine-smaller g c = c.in_ok-next.ensures.fewer c.in-Record.is

pub loop-machine-preserved : goal.loop-machine-preserved
loop-machine-preserved g c =
    let m = g.M.Machine.meaning in
    let w = c.loop-machine.writer in
    let records = c.next.new.self in
    let inv = c.loop-machine.invariant in
    record {
      so_far = λ told.
          let gives = rw c.in-Record.is at (c.in_ok-next.ensures.reads.value told) in
          let st = g.R.RecordSource.stream records (m c.loop-machine.machine).state in
          let part =
          after_read g.M.Machine c.next.ensures.reads told (Ok (Ok tt))
          (advances_as (Ok (Ok tt)) (ap (coming w) gives ∙ ap (λ (l : List ℕ). coming w (with_record l st)) (sym c.record.ensures)) refl (rw c.in_default.is at (c.in_ok-fault.ensures.advances told st))) in
          let stays = g.met.R.RecordSource.stays records (m c.loop-machine.machine).state (m c.put_record.new.machine).state (advanced_reads part.step) in
          advanced_then (inv.so_far told) (advances_as (Ok (Ok tt)) refl (ap (coming c.put_record.new.writer) stays) part).step;
      idle = rw c.in_default.is at c.in_ok-fault.ensures.idle;
      call = puts_then g.M.Machine tt (puts_beside g.M.Machine inv.call (rw c.in_ok-next.was at c.next.ensures.reads)) (rw (c.in_ok-fault.was, c.in_default.is) at c.put_record.ensures.call);
    }
