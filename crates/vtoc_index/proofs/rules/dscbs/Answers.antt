-- A slot holds a DSCB or not.
use Rattle.std.proofs.Common.{ap, ◌∙◌}
use Rattle.vtoc_index.proofs.HeldDscbs.{dscbs-more, dscbs-same}
use Rattle.vtoc_index.proofs.rules.dscbs.Goals as goal
use Rattle.vtoc_index.proofs.rules.dscbs.Goals.{in-Ok+in_ok-push, in_default}

pub loop-slot-preserved : goal.loop-slot-preserved
loop-slot-preserved c =
    let slots = c.args.slots.now in
    let i = c.loop-slot.slot-index in
    let below = c.loop-slot-test.true in
    elim c.match-slot.branch [
      | in-Ok+in_ok-push w ↦ ap (λ v. v.items) w.found-is ∙ dscbs-more slots i _ below c.loop-slot.found.items w.push.new.self.items w.in-Ok.dscb c.loop-slot.invariant w.in_ok-push.ensures.items w.in-Ok.is
      | in_default w ↦ ap (λ v. v.items) w.found-is ∙ dscbs-same slots i _ below c.loop-slot.found.items c.loop-slot.invariant w.in_default.not-Ok
    ]
