use Rattle.std.proofs.Common.{List, sym, subst}
use Rattle.hall_core.specs.Facts.{Attached}
use Rattle.shelf_machine.specs.Machine.{AreIndexes, units_of}
use Rattle.shelf_machine.specs.PendingShelves.{kept_in, pending_left}
use Rattle.shelf_machine.proofs.BeginCalls.{promise_at, same_at}
use Rattle.shelf_machine.specs.Pending.{HasSlot, IsPendingBy}
use Rattle.shelf_machine.specs.ReadyPacks.{vols_of}
use Rattle.vtoc_index.specs.declared.vol.Vol.{Vol}
use Rattle.shelf_machine.proofs.ReadyPacks.{ready_alike, ready_later}
use Rattle.shelf_machine.proofs.machine.HallShelf.start.Goals as goal

pub open_writer-requires-clause-ready : goal.open_writer-requires-clause-ready
open_writer-requires-clause-ready g c = c.args.self.now.ready c.requires.sound

pub invariant_of-self : goal.invariant_of-self
invariant_of-self g c =
    let was = c.args.self.now in
    let run = c.open_writer.ensures in
    let m' = g.H.Hall.meaning c.open_writer.new.hall in
    let f' = g.H.Hall.facts c.open_writer.new.hall in
    let w' = c.open_writer.new.writer in
    record {
      indexes = subst (AreIndexes f'.units) (sym run.same.vols) (subst (λ (us : List Attached). AreIndexes us (vols_of was.packs.items)) (sym run.faults.units) was.indexes);
      ready = λ sound. ready_alike g.H.Hall.tells f' m' was.packs.items c.open_writer.new.packs.items run.same
          (ready_later g.H.Hall.tells (g.H.Hall.facts was.hall) f' (g.H.Hall.meaning was.hall) m' was.packs.items run.faults.units (λ told. (run.files told).state) (was.ready c.requires.sound));
      slot = λ sound. subst (λ (vs : List Vol). HasSlot vs w') (sym run.same.vols) run.slot;
      pending = λ sound told. subst (λ (vs : List Vol). IsPendingBy m' f'.units vs w') (sym run.same.vols) (run.pending told);
    }

pub returns-in-Ok-true-clause-same : goal.returns-in-Ok-true-clause-same
returns-in-Ok-true-clause-same g c told = rw c.open_writer.ensures.same.vols (same_at (g.H.Hall.facts c.args.self.now.hall).units (g.H.Hall.facts c.open_writer.new.hall).units (units_of (vols_of c.args.self.now.packs.items)) c.open_writer.ensures.faults.units (vols_of c.args.self.now.packs.items) (g.H.Hall.meaning c.args.self.now.hall) (g.H.Hall.meaning c.open_writer.new.hall)
    (pending_left (g.H.Hall.meaning c.args.self.now.hall) (g.H.Hall.facts c.args.self.now.hall).units (vols_of c.args.self.now.packs.items) c.args.self.now.writer (kept_in (c.args.self.now.ready c.requires.sound) told) (c.args.self.now.slot c.requires.sound) (c.args.self.now.pending c.requires.sound told))
    (g.met.H.Hall.leaves_state c.args.self.now.hall) (g.met.H.Hall.leaves_state c.open_writer.new.hall) _ (c.open_writer.ensures.files told))

pub returns-in-Ok-false-clause-same : goal.returns-in-Ok-false-clause-same
returns-in-Ok-false-clause-same g c told = rw c.open_writer.ensures.same.vols (same_at (g.H.Hall.facts c.args.self.now.hall).units (g.H.Hall.facts c.open_writer.new.hall).units (units_of (vols_of c.args.self.now.packs.items)) c.open_writer.ensures.faults.units (vols_of c.args.self.now.packs.items) (g.H.Hall.meaning c.args.self.now.hall) (g.H.Hall.meaning c.open_writer.new.hall)
    (pending_left (g.H.Hall.meaning c.args.self.now.hall) (g.H.Hall.facts c.args.self.now.hall).units (vols_of c.args.self.now.packs.items) c.args.self.now.writer (kept_in (c.args.self.now.ready c.requires.sound) told) (c.args.self.now.slot c.requires.sound) (c.args.self.now.pending c.requires.sound told))
    (g.met.H.Hall.leaves_state c.args.self.now.hall) (g.met.H.Hall.leaves_state c.open_writer.new.hall) _ (c.open_writer.ensures.files told))

pub returns-in-Ok-true-clause-promise : goal.returns-in-Ok-true-clause-promise
returns-in-Ok-true-clause-promise g c told = rw c.open_writer.ensures.same.vols (promise_at (g.H.Hall.facts c.args.self.now.hall).units (g.H.Hall.facts c.open_writer.new.hall).units (units_of (vols_of c.args.self.now.packs.items)) c.open_writer.ensures.faults.units (vols_of c.args.self.now.packs.items) (g.H.Hall.meaning c.args.self.now.hall) (g.H.Hall.meaning c.open_writer.new.hall)
    (g.met.H.Hall.counts_now c.args.self.now.hall) _ (c.open_writer.ensures.files told))

pub returns-in-Ok-false-clause-promise : goal.returns-in-Ok-false-clause-promise
returns-in-Ok-false-clause-promise g c told = rw c.open_writer.ensures.same.vols (promise_at (g.H.Hall.facts c.args.self.now.hall).units (g.H.Hall.facts c.open_writer.new.hall).units (units_of (vols_of c.args.self.now.packs.items)) c.open_writer.ensures.faults.units (vols_of c.args.self.now.packs.items) (g.H.Hall.meaning c.args.self.now.hall) (g.H.Hall.meaning c.open_writer.new.hall)
    (g.met.H.Hall.counts_now c.args.self.now.hall) _ (c.open_writer.ensures.files told))

pub returns-in-Err-clause-promise : goal.returns-in-Err-clause-promise
returns-in-Err-clause-promise g c told = rw c.open_writer.ensures.same.vols (promise_at (g.H.Hall.facts c.args.self.now.hall).units (g.H.Hall.facts c.open_writer.new.hall).units (units_of (vols_of c.args.self.now.packs.items)) c.open_writer.ensures.faults.units (vols_of c.args.self.now.packs.items) (g.H.Hall.meaning c.args.self.now.hall) (g.H.Hall.meaning c.open_writer.new.hall)
    (g.met.H.Hall.counts_now c.args.self.now.hall) _ (c.open_writer.ensures.files told))
