use Rattle.std.proofs.Common.{List, sym, subst}
use Rattle.hall_core.specs.Facts.{Attached}
use Rattle.shelf_machine.specs.Machine.{AreIndexes, shelf_under, units_of}
use Rattle.shelf_machine.specs.Parts.{pack_names}
use Rattle.shelf_machine.proofs.Machines.{by_files, just_printed, keeps_printed, printed_at, prints_at, prints_done, prints_failed}
use Rattle.shelf_machine.specs.PendingShelves.{kept_in, pending_left}
use Rattle.shelf_machine.proofs.Pendings.{pending_same, writer_same}
use Rattle.shelf_machine.proofs.ReadyPacks.{ready_later}
use Rattle.shelf_machine.specs.ReadyPacks.{vols_of}
use Rattle.shelf_machine.proofs.machine.HallShelfMachine.print.Goals as goal

pub invariant_of-self : goal.invariant_of-self
invariant_of-self g c =
    let was = c.args.self.now in
    let run = c.print.ensures in
    record {
      indexes = subst (λ (us : List Attached). AreIndexes us (vols_of was.packs.items)) (sym run.faults.units) was.indexes;
      ready = λ sound. ready_later g.H.Hall.tells (g.H.Hall.facts was.hall) (g.H.Hall.facts c.print.new.self) (g.H.Hall.meaning was.hall) (g.H.Hall.meaning c.print.new.self) was.packs.items run.faults.units (λ told. (run.files told).state) (was.ready sound);
      slot = λ sound. was.slot sound;
      pending = λ sound told. pending_same (g.H.Hall.meaning was.hall) (g.H.Hall.meaning c.print.new.self) (g.H.Hall.facts was.hall).units (g.H.Hall.facts c.print.new.self).units (vols_of was.packs.items) was.writer (run.files told).state (λ j left. ((run.files told).left j).0 left) run.faults.units (was.pending sound told);
    }

pub returns-in-Ok-clause-shelf : goal.returns-in-Ok-clause-shelf
returns-in-Ok-clause-shelf g c told = prints_at _ _ (units_of (vols_of c.args.self.now.packs.items)) c.print.ensures.faults.units (g.H.Hall.meaning c.args.self.now.hall) (g.H.Hall.meaning c.print.new.self)
    (prints_done (shelf_under (pack_names c.args.self.now)) g.H.Hall.tells (pending_left (g.H.Hall.meaning c.args.self.now.hall) (g.H.Hall.facts c.args.self.now.hall).units (vols_of c.args.self.now.packs.items) c.args.self.now.writer (kept_in (c.args.self.now.ready c.requires.sound) told) (c.args.self.now.slot c.requires.sound) (c.args.self.now.pending c.requires.sound told)) _ _ (c.in-Ok.ensures.files told))

pub returns-in-Ok-clause-promise : goal.returns-in-Ok-clause-promise
returns-in-Ok-clause-promise g c told = by_files (printed_at _ _ (units_of (vols_of c.args.self.now.packs.items)) c.print.ensures.faults.units (vols_of c.args.self.now.packs.items) (g.H.Hall.meaning c.args.self.now.hall) (g.H.Hall.meaning c.print.new.self)
    (keeps_printed {names = pack_names c.args.self.now} {vols = (vols_of c.args.self.now.packs.items)} (g.met.H.Hall.counts_now c.args.self.now.hall) (c.print.ensures.files told)))

pub returns-in-Err-clause-shelf : goal.returns-in-Err-clause-shelf
returns-in-Err-clause-shelf g c told = prints_at _ _ (units_of (vols_of c.args.self.now.packs.items)) c.print.ensures.faults.units (g.H.Hall.meaning c.args.self.now.hall) (g.H.Hall.meaning c.print.new.self)
    (prints_failed (shelf_under (pack_names c.args.self.now)) g.H.Hall.tells (pending_left (g.H.Hall.meaning c.args.self.now.hall) (g.H.Hall.facts c.args.self.now.hall).units (vols_of c.args.self.now.packs.items) c.args.self.now.writer (kept_in (c.args.self.now.ready c.requires.sound) told) (c.args.self.now.slot c.requires.sound) (c.args.self.now.pending c.requires.sound told)) c.fault.result c.fault.ensures.error (c.print.ensures.files told))

pub returns-in-Err-clause-promise : goal.returns-in-Err-clause-promise
returns-in-Err-clause-promise g c told = by_files (printed_at _ _ (units_of (vols_of c.args.self.now.packs.items)) c.print.ensures.faults.units (vols_of c.args.self.now.packs.items) (g.H.Hall.meaning c.args.self.now.hall) (g.H.Hall.meaning c.print.new.self)
    (keeps_printed {names = pack_names c.args.self.now} {vols = (vols_of c.args.self.now.packs.items)} (g.met.H.Hall.counts_now c.args.self.now.hall) (c.print.ensures.files told)))

pub returns-in-Ok-clause-stays : goal.returns-in-Ok-clause-stays
returns-in-Ok-clause-stays g c told = just_printed (g.met.H.Hall.counts_now c.args.self.now.hall) (c.print.ensures.files told)

pub returns-in-Err-clause-stays : goal.returns-in-Err-clause-stays
returns-in-Err-clause-stays g c told = just_printed (g.met.H.Hall.counts_now c.args.self.now.hall) (c.print.ensures.files told)

pub returns-in-Ok-clause-writer : goal.returns-in-Ok-clause-writer
returns-in-Ok-clause-writer g c told = writer_same _ _ _ _ (vols_of c.args.self.now.packs.items) c.args.self.now.writer (c.print.ensures.files told).state c.print.ensures.faults.units

pub returns-in-Err-clause-writer : goal.returns-in-Err-clause-writer
returns-in-Err-clause-writer g c told = writer_same _ _ _ _ (vols_of c.args.self.now.packs.items) c.args.self.now.writer (c.print.ensures.files told).state c.print.ensures.faults.units
