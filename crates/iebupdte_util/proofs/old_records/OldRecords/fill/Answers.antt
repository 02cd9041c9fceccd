use Rattle.std.proofs.Common.{refl}
use Rattle.iebupdte_util.specs.declared.old_records.Next.TheVariants.{Ended}
use Rattle.iebupdte_util.proofs.OldLemmas.{ended_order, ended_stream, fault_left, filled_most, filled_order, filled_stream}
use Rattle.iebupdte_util.proofs.old_records.OldRecords.fill.Goals as goal

pub returns-in_ok-hold-in-Record-clause-fills : goal.returns-in_ok-hold-in-Record-clause-fills
returns-in_ok-hold-in-Record-clause-fills g c told =
    let s = (g.M.Machine.meaning c.args.machine.now).state in
    let o = c.args.self.now in
    let n = c.hold.new.self in
    let gives = rw c.in-Record.is at (c.in_ok-next.ensures.reads.value told) in
    let h = c.in_ok-hold-in-Record.ensures in
    (filled_stream o n s c.in-Wanted.is h.next c.next.new.self h.reader gives, filled_order o n s c.in-Wanted.is h.next c.next.new.self h.reader gives h.last h.rising)

pub returns-in_ok-hold-in-Record-clause-fewer : goal.returns-in_ok-hold-in-Record-clause-fewer
returns-in_ok-hold-in-Record-clause-fewer g c whole =
    let h = c.in_ok-hold-in-Record.ensures in
    filled_most c.args.self.now c.hold.new.self c.next.new.self c.in-Wanted.is h.next h.reader (c.in_ok-next.ensures.fewer c.in-Record.is)

pub returns-in-End-clause-fills : goal.returns-in-End-clause-fills
returns-in-End-clause-fills g c told =
    let s = (g.M.Machine.meaning c.args.machine.now).state in
    let o = c.args.self.now in
    let n = record o { reader = c.next.new.self; next = Ended } in
    let gives = rw c.in-End.is at (c.in_ok-next.ensures.reads.value told) in
    (ended_stream o n s c.in-Wanted.is refl gives, ended_order o n s c.in-Wanted.is refl gives refl)

pub returns-in-Broken-clause-fills : goal.returns-in-Broken-clause-fills
returns-in-Broken-clause-fills g c told = fault_left c.args.self.now (g.M.Machine.meaning c.args.machine.now).state c.in-Wanted.is (rw c.in-Broken.is at (c.in_ok-next.ensures.reads.value told))
