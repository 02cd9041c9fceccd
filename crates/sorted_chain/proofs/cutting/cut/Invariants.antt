use Rattle.std.proofs.Common.{map, ◌≤◌, take, length, vec_items}
use Rattle.sorted_chain.specs.Cutting.{IsOpen}
use Rattle.sorted_chain.specs.Plan.{write_of}
use Rattle.sorted_chain.proofs.cutting.cut.Given as goal

abbrev pub invariant-loop-entry : goal.invariant-loop-entry
invariant-loop-entry g l = record {
  so_far : IsOpen g.E.ChainEntry.bytes l.room l.end (map write_of (vec_items l.cutting.done)) (vec_items l.cutting.block) l.cutting.used (take l.entry-index l.new);
  few : length (vec_items l.cutting.done) ≤ l.entry-index;
}
