use Rattle.shelf_machine.proofs.HallShelves.{kept_settled}
use Rattle.shelf_machine.specs.PendingShelves.{kept_in, pending_durable}
use Rattle.shelf_machine.specs.ReadyPacks.{vols_of}
use Rattle.shelf_machine.proofs.machine.HallShelf.close.Goals as goal

pub returns-clause-settled : goal.returns-clause-settled
returns-clause-settled g c sound told = record {
  settled = kept_settled (g.H.Hall.meaning c.args.self.hall).state (g.H.Hall.facts c.args.self.hall).units (vols_of c.args.self.packs.items) (kept_in (c.args.self.ready sound) told);
  durable = pending_durable (g.H.Hall.meaning c.args.self.hall) (g.H.Hall.facts c.args.self.hall).units (vols_of c.args.self.packs.items) c.args.self.writer (kept_in (c.args.self.ready sound) told) (c.args.self.slot sound) (c.args.self.pending sound told);
}
