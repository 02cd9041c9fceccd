use Rattle.mount_repair.proofs.SettledTests.{settled_by, settled_is}
use Rattle.mount_repair.proofs.scanning.settled_law.Goals as goal

pub returns : goal.returns
returns c image = (settled_by image, settled_is image)
