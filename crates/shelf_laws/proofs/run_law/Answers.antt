use Rattle.shelf_laws.proofs.Stopping.{asked_lawful, joined_lawful}
use Rattle.shelf_laws.proofs.run_law.Goals as goal

pub returns-clause-asked : goal.returns-clause-asked
returns-clause-asked c s ops is h = asked_lawful ops s is h

pub returns-clause-joined : goal.returns-clause-joined
returns-clause-joined c s first more a b = joined_lawful first more s a b
