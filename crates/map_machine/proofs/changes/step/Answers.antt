-- The step of the shelf is that of the volume of its number.
use Rattle.std.proofs.Common.{Err, Ok, sym, ap, slice_get, ◌∙◌}
use Rattle.map_machine.proofs.StepLemmas.{steps_found, steps_nowhere}
use Rattle.map_machine.proofs.changes.step.Goals as goal

pub returns-in-None : goal.returns-in-None
returns-in-None c =
    steps_nowhere c.args.shelf.now c.args.op.now (ap (slice_get c.args.shelf.now.volumes) (sym (c.from.ensures ∙ c.volume_number.ensures)) ∙ sym c.in-None.ensures)

pub returns-in-Ok-Ok : goal.returns-in-Ok-Ok
returns-in-Ok-Ok c =
    steps_found c.args.shelf.now c.args.op.now c.in-Some.volume.now (Ok c.in-Ok-Ok.after)
    (ap (slice_get c.args.shelf.now.volumes) (sym (c.from.ensures ∙ c.volume_number.ensures)) ∙ sym c.in-Some.ensures)
    (let told = c.in-Ok-Ok.ensures in let first = c.in-Ok-Ok.is in let second = c.in-Ok-Ok.field-0-is in cc)

pub returns-in-Ok-Err : goal.returns-in-Ok-Err
returns-in-Ok-Err c =
    steps_found c.args.shelf.now c.args.op.now c.in-Some.volume.now (Err c.in-Ok-Err.reason)
    (ap (slice_get c.args.shelf.now.volumes) (sym (c.from.ensures ∙ c.volume_number.ensures)) ∙ sym c.in-Some.ensures)
    (let told = c.in-Ok-Err.ensures in let first = c.in-Ok-Err.is in let second = c.in-Ok-Err.field-0-is in cc)
