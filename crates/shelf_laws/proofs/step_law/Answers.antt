use Rattle.shelf_laws.proofs.Admitting.{admitted_lawful}
use Rattle.shelf_laws.proofs.step_law.Goals as goal

pub returns : goal.returns
returns c op is s t h done = admitted_lawful s t op is h done
