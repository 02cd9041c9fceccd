-- Each step halves the slots among which the first is that doesn't stand before the name.
use Rattle.std.proofs.Common.{◌≡◌, ◌+◌, ◌-◌, ◌/◌, ◌<◌, ◌≤◌, ℕ, sym, ap, ◌∙◌, arith}
use Rattle.vtoc_index.specs.Names.{name_at}
use Rattle.vtoc_index.proofs.NameSearch.{before_lower, behind_lower}
use Rattle.vtoc_index.proofs.named.slot_from.Goals as goal

pub loop-low-preserved-then-is_before : goal.loop-low-preserved-then-is_before
loop-low-preserved-then-is_before c =
    let middle = c.loop-low.low + (c.loop-low.high - c.loop-low.low) / 2 in
    let inv = c.loop-low.invariant in
    let some = c.loop-low-test.true in
    record {
      order = omega arith;
      within = inv.within;
      below = λ k less. before_lower (name_at c.args.slots.now) c.args.by_name.now c.requires c.args.name.now middle k (omega (arith, inv.within, some)) (sym c.if-is_before.ensures) less;
      above = inv.above;
    }

pub loop-low-preserved : goal.loop-low-preserved
loop-low-preserved c =
    let middle = c.loop-low.low + (c.loop-low.high - c.loop-low.low) / 2 in
    let inv = c.loop-low.invariant in
    let some = c.loop-low-test.true in
    record {
      order = omega arith;
      within = omega (arith, inv.within, some);
      below = inv.below;
      above = λ k le low. behind_lower (name_at c.args.slots.now) c.args.by_name.now c.requires c.args.name.now middle k (sym c.if-is_before.ensures) le low;
    }
