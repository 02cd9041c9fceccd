use Rattle.std.proofs.Common.{◌≡◌, ◌∷◌, ◌∙◌, length, ap, arith}
use Rattle.std.specs.Vec.Iter.{into_iter_items}
use Rattle.stow_ops.proofs.WrittenEntries.{one_written, rest_within}
use Rattle.stow_ops.proofs.storing.written.Goals as goal

pub loop-at-preserved : goal.loop-at-preserved
loop-at-preserved c =
    let at = c.loop-at in
    let steps : into_iter_items at.at-iterator ≡ (c.in-Some.at, c.in-Some.block) ∷ into_iter_items c.next.new.self = c.in-Some.ensures.steps.0 in (
      one_written (into_iter_items at.at-iterator) (into_iter_items c.next.new.self) c.in-Some.at c.in-Some.block steps at.blocks.items ∙ at.invariant.0,
      rest_within (into_iter_items at.at-iterator) (into_iter_items c.next.new.self) c.in-Some.at c.in-Some.block steps at.blocks.items at.invariant.1,
      let was = at.invariant.2 in
          let gone = c.in-Some.ensures.steps.1 in
          let short = ap length steps in
          omega (arith, was, gone, short),
    )
