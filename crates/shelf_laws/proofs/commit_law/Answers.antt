use Rattle.shelf_laws.proofs.Handing.{commit_lawful}
use Rattle.shelf_laws.proofs.commit_law.Goals as goal

pub returns : goal.returns
returns c s w h ready k = commit_lawful s w k h ready
