use Rattle.std.proofs.Common.{◌≡◌, None, sym, subst, ◌∙◌}
use Rattle.stop_model.proofs.MomentLemmas.{same_then}
use Rattle.vol_model.specs.declared.contents.Shelf.{Shelf}
use Rattle.vol_model.specs.Writing.{begin_refusal}
use Rattle.shelf_machine.proofs.BeginCalls.{opens_well}
use Rattle.shelf_machine.proofs.HallShelves.{machine_bodies, machine_order, machine_volumes}
use Rattle.shelf_machine.proofs.MachineLibraries.{keeps_behind}
use Rattle.shelf_machine.proofs.machine.HallShelfMachine.begin.Goals as goal

pub write_refusal-requires-clause-order : goal.write_refusal-requires-clause-order
write_refusal-requires-clause-order g c = machine_order c.args.self.now c.deref.result.now c.deref.ensures.value c.requires.sound

pub returns-in-Some-clause-answer : goal.returns-in-Some-clause-answer
returns-in-Some-clause-answer g c told = sym (c.in-Some.ensures _ (machine_volumes c.args.self.now c.deref.result.now c.deref.ensures.value c.requires.sound told) (machine_bodies c.args.self.now c.deref.result.now c.deref.ensures.value c.requires.sound told))

pub start-requires-clause-well : goal.start-requires-clause-well
start-requires-clause-well g c told =
    let was = c.args.self.now in
    let well = sym (c.write_refusal.ensures _ (machine_volumes was c.deref.result.now c.deref.ensures.value c.requires.sound told) (machine_bodies was c.deref.result.now c.deref.ensures.value c.requires.sound told)) ∙ c.in_default.is in
    subst (λ (s : Shelf). begin_refusal s (record { v = c.args.v; dsn = c.args.dsn.now; mode = c.args.mode }) ≡ None) (sym (c.front.ensures.idle told).same.state) well

pub returns-in-Ok-clause-answer : goal.returns-in-Ok-clause-answer
returns-in-Ok-clause-answer g c told =
    let was = c.args.self.now in
    opens_well c.start.result (sym (c.write_refusal.ensures _ (machine_volumes was c.deref.result.now c.deref.ensures.value c.requires.sound told) (machine_bodies was c.deref.result.now c.deref.ensures.value c.requires.sound told)) ∙ c.in_default.is) c.start.ensures.error

pub returns-in-Ok-clause-same : goal.returns-in-Ok-clause-same
returns-in-Ok-clause-same g c told = same_then (c.in-Ok.ensures.idle told).same (c.start.ensures.same told)

pub returns-in-Ok-clause-promise : goal.returns-in-Ok-clause-promise
returns-in-Ok-clause-promise g c told = keeps_behind (c.in-Ok.ensures.idle told).same.time.later (c.in-Ok.ensures.idle told).promise_kept (c.start.ensures.promise told)

pub returns-in-Ok-clause-stays : goal.returns-in-Ok-clause-stays
returns-in-Ok-clause-stays g c told undone = keeps_behind (c.in-Ok.ensures.idle told).same.time.later (c.in-Ok.ensures.idle told).stays_kept (c.start.ensures.stays told undone)
