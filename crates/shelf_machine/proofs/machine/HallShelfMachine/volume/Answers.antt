use Rattle.shelf_machine.proofs.HallShelves.{machine_volumes}
use Rattle.shelf_machine.proofs.machine.HallShelfMachine.volume.Goals as goal

pub returns : goal.returns
returns g c told = c.volume_on.ensures _ (machine_volumes c.args.self.now c.deref.result.now c.deref.ensures.value c.requires told)
