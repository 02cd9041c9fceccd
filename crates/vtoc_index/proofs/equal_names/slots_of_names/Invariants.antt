-- The map gives the lowest slot so far of each name, and no name so far stands earlier.
use Rattle.std.proofs.Common.{◌≡◌, ℕ, List, drop, take}
use Rattle.std.specs.BTreeMap.{get}
use Rattle.std.specs.Cmp.Lexicographic.{slice_cmp}
use Rattle.std.specs.List.{enumerate_from, filter_map, position, slice_get}
use Rattle.std.specs.Ordering.{nat_cmp}
use Rattle.pack_spec.specs.Rules.{is_named, name_fault, name_faults}
use Rattle.vtoc_index.proofs.equal_names.slots_of_names.Given as goal

abbrev pub invariant-loop-index : goal.invariant-loop-index
invariant-loop-index l = record {
  lowest : (name : List ℕ) → get (slice_cmp nat_cmp) l.lowest name ≡ position (λ s. is_named name s.content) (take l.index l.slots);
  apart : slice_get (filter_map (λ p. name_fault l.slots p.0 p.1) (enumerate_from l.index (drop l.index l.slots))) 0 ≡ slice_get (name_faults l.slots) 0;
}
