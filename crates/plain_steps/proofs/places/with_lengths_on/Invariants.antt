-- The lengths of the blocks so far that stand on the track.
use Rattle.std.proofs.Common.{◌≡◌, ◌++◌, take}
use Rattle.vol_model.specs.Places.{lengths_on}
use Rattle.plain_steps.proofs.places.with_lengths_on.Given as goal

abbrev pub invariant-loop-block : goal.invariant-loop-block
invariant-loop-block l = l.before.items ≡ l.fn.before.items ++ lengths_on l.tt (take l.block-index l.blocks)
