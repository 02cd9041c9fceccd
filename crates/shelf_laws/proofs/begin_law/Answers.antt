use Rattle.shelf_laws.proofs.Handing.{begin_ready}
use Rattle.shelf_laws.proofs.begin_law.Goals as goal

pub returns : goal.returns
returns c s t = begin_ready s t
