use Rattle.shelf_machine.proofs.HallShelves.{machine_order, machine_volumes}
use Rattle.shelf_machine.proofs.Machines.{idles}
use Rattle.shelf_machine.proofs.machine.HallShelfMachine.extent.Goals as goal

pub returns-clause-value : goal.returns-clause-value
returns-clause-value g c told = c.extent_on.ensures _ (machine_volumes c.args.self.now c.deref.result.now c.deref.ensures.value c.requires.sound told)

pub returns-clause-idle : goal.returns-clause-idle
returns-clause-idle g c told = idles _ _ (g.met.H.Hall.counts_now c.args.self.now.hall)

pub extent_on-requires-clause-order : goal.extent_on-requires-clause-order
extent_on-requires-clause-order g c = machine_order c.args.self.now c.deref.result.now c.deref.ensures.value c.requires.sound
