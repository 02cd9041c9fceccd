use Rattle.std.proofs.Common.{subst, sym}
use Rattle.std.specs.Option.{option_copied}
use Rattle.vol_model.specs.Writing.{set_on}
use Rattle.pack_machine.specs.Reads.{IsSetOn}
use Rattle.pack_machine.proofs.ShelfReads.{is_set, item_is, no_set, not_other}
use Rattle.pack_machine.proofs.reads.set_in.Goals as goal

pub returns-in_err-slot : goal.returns-in_err-slot
returns-in_err-slot c shelf n has =
    let v = c.args.vol.now in
    let name = c.args.dsn.now.bytes in
    subst (λ o. IsSetOn has.image v (set_on shelf n name) (option_copied o)) (sym c.from_residual.ensures) (no_set shelf n v has name (sym c.in_err-slot.ensures))

pub returns-in-F1 : goal.returns-in-F1
returns-in-F1 c shelf n has =
    let v = c.args.vol.now in
    let name = c.args.dsn.now.bytes in
    is_set shelf n v has name c.in_ok-slot.slot c.in-F1.set (sym c.in_ok-slot.ensures) (item_is name v.slots.items c.in_ok-slot.slot c.index.result.now c.in-F1.set (sym c.in_ok-slot.ensures) c.index.ensures c.in-F1.is)

pub returns-in_default : goal.returns-in_default
returns-in_default c shelf n has = absurd (not_other c.args.dsn.now.bytes c.args.vol.now.slots.items c.in_ok-slot.slot c.index.result.now (sym c.in_ok-slot.ensures) c.index.ensures c.in_default.not-F1)
