use Rattle.std.proofs.Common.{refl}
use Rattle.pack_machine.proofs.HeldEntries.{put_behind}
use Rattle.pack_machine.proofs.entries.give_back.Goals as goal

pub returns-in-Ok-clause-libraries : goal.returns-in-Ok-clause-libraries
returns-in-Ok-clause-libraries c = put_behind _ _ _ _ _ refl refl c.keep.ensures

pub returns-in-Err-clause-libraries : goal.returns-in-Err-clause-libraries
returns-in-Err-clause-libraries c = put_behind _ _ _ _ _ refl refl c.keep-in-Err.ensures
