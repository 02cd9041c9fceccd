use Rattle.shelf_machine.proofs.HallShelves.{machine_volumes}
use Rattle.std.proofs.Common.{[], refl}
use Rattle.pack_machine.proofs.ShelfReads.{picks_none}
use Rattle.shelf_machine.proofs.Machines.{idles}
use Rattle.shelf_machine.proofs.machine.HallShelfMachine.cat_node.Goals as goal

pub returns-in-Some-clause-value : goal.returns-in-Some-clause-value
returns-in-Some-clause-value g c told = (c.in-Some.ensures _ (machine_volumes c.args.self.now c.deref.result.now c.deref.ensures.value c.requires.sound told))

pub returns-in-Some-clause-idle : goal.returns-in-Some-clause-idle
returns-in-Some-clause-idle g c told = idles _ _ (g.met.H.Hall.counts_now c.args.self.now.hall)

pub returns-in-None-clause-value : goal.returns-in-None-clause-value
returns-in-None-clause-value g c told = picks_none _ _ [] (c.in-None.ensures _ (machine_volumes c.args.self.now c.deref.result.now c.deref.ensures.value c.requires.sound told)) refl

pub returns-in-None-clause-idle : goal.returns-in-None-clause-idle
returns-in-None-clause-idle g c told = idles _ _ (g.met.H.Hall.counts_now c.args.self.now.hall)
