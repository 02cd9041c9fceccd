use Rattle.std.proofs.Common.{◌≡◌, map, take, slice_index_or, length, ℕ}
use Rattle.std.specs.List.{range_with_len}
use Rattle.pack_spec.specs.FreeChain.{entry_of, no_entry}
use Rattle.free_rebuild.proofs.space.entries_from.Given as goal

abbrev pub invariant-loop-i : goal.invariant-loop-i
invariant-loop-i g l = record {
  size : length l.entries ≡ l.i-end;
  done : take l.i l.entries ≡ map (λ (j : ℕ). slice_index_or (map (entry_of l.heads) l.free) j no_entry) (range_with_len l.first l.i);
}
