use Rattle.std.proofs.Common.{sym}
use Rattle.pack_machine.proofs.ShelfReads.{not_other}
use Rattle.pack_machine.proofs.refusals.slot_of.Goals as goal

pub returns-in_default : goal.returns-in_default
returns-in_default c = absurd (not_other c.args.dsn.now.bytes c.args.vol.now.slots.items c.in_ok-slot.slot c.index.result.now (sym c.in_ok-slot.ensures) c.index.ensures c.in_default.not-F1)
