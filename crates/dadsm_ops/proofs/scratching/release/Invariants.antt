use Rattle.std.proofs.Common.{◌≡◌, ◌+◌, ◌≤◌, take, vec_len}
use Rattle.std.specs.Vec.{vec_capacity}
use Rattle.dadsm_ops.specs.Scratching.{AreFreed, usable_tracks}
use Rattle.dadsm_ops.proofs.scratching.release.Given as goal

abbrev pub invariant-loop-run : goal.invariant-loop-run
invariant-loop-run l = record {
  grown : vec_len l.free ≤ vec_len l.fn.free + l.run-index;
  capacity : vec_capacity l.free ≡ vec_capacity l.fn.free;
  freed : AreFreed (usable_tracks l.fn.geometry) l.fn.free.items (take l.run-index l.runs) l.free.items;
}
