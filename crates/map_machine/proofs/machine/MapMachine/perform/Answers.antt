-- The volume is there, the shelf stays lawful, and the change is on the record.
use Rattle.std.proofs.Common.{subst, ◌∙◌}
use Rattle.map_machine.specs.Held.{held_of}
use Rattle.map_machine.specs.Steps.{Steps}
use Rattle.map_machine.proofs.StepLemmas.{change_applied, inside_at, lawful_at}
use Rattle.map_machine.proofs.machine.MapMachine.perform.Goals as goal

pub change-requires-clause-inside : goal.change-requires-clause-inside
change-requires-clause-inside c =
    let steps = subst (Steps c.args.self.now.shelf c.args.op.now) c.in_ok-after.was c.step.ensures in
    inside_at c.args.self.now.shelf c.args.op.now c.from.result c.in_ok-after.after (c.from.ensures ∙ c.volume_number.ensures) steps

pub change-requires-clause-lawful : goal.change-requires-clause-lawful
change-requires-clause-lawful c =
    let steps = subst (Steps c.args.self.now.shelf c.args.op.now) c.in_ok-after.was c.step.ensures in
    lawful_at c.args.self.now.shelf c.args.op.now c.from.result c.in_ok-after.after (c.from.ensures ∙ c.volume_number.ensures) steps c.requires.lawful

pub returns-clause-shelf : goal.returns-clause-shelf
returns-clause-shelf c =
    let steps = subst (Steps c.args.self.now.shelf c.args.op.now) c.in_ok-after.was c.step.ensures in
    change_applied (held_of c.args.self.now) (held_of c.change.new.self) c.args.op.now c.from.result c.in_ok-after.after (c.from.ensures ∙ c.volume_number.ensures) c.change.result steps c.change.ensures
