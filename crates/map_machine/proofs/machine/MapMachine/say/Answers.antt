-- The bytes stand after those that were printed, and the number on the record leads back.
use Rattle.std.proofs.Common.{refl, rules}
use Rattle.map_machine.specs.Held.{Held, held_of}
use Rattle.map_machine.proofs.StepLemmas.{printed}
use Rattle.map_machine.proofs.machine.MapMachine.say.Goals as goal

pub returns-clause-shelf : goal.returns-clause-shelf
returns-clause-shelf c =
    let old = held_of c.args.self.now in
    let new : Held = record old { now = record { shelf = old.now.shelf; text = c.extend_from_slice.new.self.items }; log = c.push.new.self.items } in
    printed old new c.args.bytes.now c.len-before.result (search rules) (search rules) (search rules) refl refl refl
