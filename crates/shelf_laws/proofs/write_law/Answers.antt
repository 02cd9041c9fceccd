use Rattle.shelf_laws.proofs.Handing.{write_lawful}
use Rattle.shelf_laws.proofs.write_law.Goals as goal

pub returns : goal.returns
returns c s t cs h is k = write_lawful s t cs k is h
