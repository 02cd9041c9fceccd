-- The first slots go before single slots.
use Rattle.std.proofs.Common.{◌≡◌, ◌++◌, ◌∙◌}
use Rattle.std.proofs.lemmas.Result.{IfOk-weaker}
use Rattle.std.specs.List.{slice_get}
use Rattle.pack_spec.specs.Rules.{front_faults, slot_faults}
use Rattle.pack_spec.proofs.FirstFaults.{first_append-some, first_append-none}
use Rattle.vtoc_index.proofs.rules.first_fault.Goals as goal

pub returns-in-Some-clause-first : goal.returns-in-Some-clause-first
returns-in-Some-clause-first c =
    first_append-some (front_faults c.args.slots.now) _ c.in-Some.fault c.in-Some.ensures.first

pub returns-clause-first : goal.returns-clause-first
returns-clause-first c =
    let slots = c.args.slots.now in
    IfOk-weaker c.first_slot_fault.result (λ fault. fault ≡ slice_get (slot_faults c.args.geometry slots) 0) (λ fault. fault ≡ slice_get (front_faults slots ++ slot_faults c.args.geometry slots) 0)
    (λ fault is. is ∙ first_append-none (front_faults slots) _ c.in_default.ensures.first) c.first_slot_fault.ensures.first
