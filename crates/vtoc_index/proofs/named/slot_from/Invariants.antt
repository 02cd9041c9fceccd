-- The names in front stand before the one that is searched for, and those after don't.
use Rattle.std.proofs.Common.{◌≡◌, ◌-◌, ◌<◌, ◌≤◌, ℕ, true, false, length, get_or}
use Rattle.vtoc_index.specs.Names.{is_lower, name_at}
use Rattle.vtoc_index.proofs.named.slot_from.Given as goal

abbrev pub invariant-loop-low : goal.invariant-loop-low
invariant-loop-low l = record {
  order : l.low ≤ l.high;
  within : l.high ≤ length l.by_name;
  below : (k : ℕ) → k < l.low → is_lower (name_at l.slots) l.name (get_or l.by_name k 0) ≡ true;
  above : (k : ℕ) → l.high ≤ k → k < length l.by_name → is_lower (name_at l.slots) l.name (get_or l.by_name k 0) ≡ false;
}

abbrev pub decreases-loop-low : goal.decreases-loop-low
decreases-loop-low l = l.high - l.low
