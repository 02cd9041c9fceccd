use Rattle.shelf_machine.proofs.HallShelves.{machine_order, machine_volumes}
use Rattle.shelf_machine.proofs.Machines.{idles}
use Rattle.shelf_machine.proofs.machine.HallShelfMachine.name_at.Goals as goal

pub returns-clause-value : goal.returns-clause-value
returns-clause-value g c told = c.name_on.ensures _ (machine_volumes c.args.self.now c.deref.result.now c.deref.ensures.value c.requires.sound told)

pub returns-clause-idle : goal.returns-clause-idle
returns-clause-idle g c told = idles _ _ (g.met.H.Hall.counts_now c.args.self.now.hall)

pub name_on-requires : goal.name_on-requires
name_on-requires g c = record { order = machine_order c.args.self.now c.deref.result.now c.deref.ensures.value c.requires.sound }
