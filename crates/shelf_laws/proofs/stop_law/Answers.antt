use Rattle.shelf_laws.proofs.Stopping.{stop_lawful}
use Rattle.shelf_laws.proofs.stop_law.Goals as goal

pub returns : goal.returns
returns c s left es printed stays stop = stop_lawful es s left printed stays stop
