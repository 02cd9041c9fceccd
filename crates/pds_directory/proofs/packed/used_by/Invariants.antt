use Rattle.std.proofs.Common.{◌≡◌, ◌+◌, drop}
use Rattle.chain_spec.specs.Cut.{total}
use Rattle.vol_model.specs.Slots.{entry_size}
use Rattle.pds_directory.proofs.packed.used_by.Given as goal

abbrev pub invariant-loop-entry : goal.invariant-loop-entry
invariant-loop-entry l = l.used + total entry_size (drop l.entry-index l.entries) ≡ total entry_size l.entries
