use Rattle.std.proofs.Common.{subst, sym}
use Rattle.shelf_machine.specs.Pending.{HasSlot, IsPendingBy}
use Rattle.shelf_machine.proofs.Machines.{same_here}
use Rattle.shelf_machine.proofs.Pendings.{pending_closed, slot_closed}
use Rattle.shelf_machine.specs.ReadyPacks.{vols_of}
use Rattle.shelf_machine.proofs.machine.HallShelfMachine.abandon.Goals as goal

pub invariant_of-self : goal.invariant_of-self
invariant_of-self g c =
    let was = c.args.self.now in
    let vols = (vols_of was.packs.items) in
    record {
      indexes = was.indexes;
      ready = λ sound. was.ready sound;
      slot = λ sound. subst (HasSlot vols) (sym c.abandoned-self.ensures) (slot_closed vols was.writer (was.slot sound));
      pending = λ sound told. subst (IsPendingBy (g.H.Hall.meaning was.hall) (g.H.Hall.facts was.hall).units vols) (sym c.abandoned-self.ensures)
          (pending_closed (g.H.Hall.meaning was.hall) (g.H.Hall.facts was.hall).units vols was.writer (was.pending sound told));
    }

pub returns-clause-same : goal.returns-clause-same
returns-clause-same g c told = same_here _ _ (g.met.H.Hall.counts_now c.args.self.now.hall)
