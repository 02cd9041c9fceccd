-- The slots so far break no rule by themselves.
use Rattle.std.proofs.Common.{◌≡◌, drop}
use Rattle.std.specs.List.{enumerate_from, filter_map, slice_get}
use Rattle.pack_spec.specs.Rules.{slot_fault, slot_faults}
use Rattle.vtoc_index.proofs.rules.first_slot_fault.Given as goal

abbrev pub invariant-loop-index : goal.invariant-loop-index
invariant-loop-index l =
    slice_get (filter_map (λ p. slot_fault l.geometry l.slots p.0 p.1) (enumerate_from l.index (drop l.index l.slots))) 0 ≡ slice_get (slot_faults l.geometry l.slots) 0
