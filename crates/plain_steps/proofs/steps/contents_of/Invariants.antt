-- The contents of the blocks so far.
use Rattle.std.proofs.Common.{◌≡◌, take, map}
use Rattle.vol_model.specs.Places.{content}
use Rattle.plain_steps.proofs.steps.contents_of.Given as goal

abbrev pub invariant-loop-block : goal.invariant-loop-block
invariant-loop-block l = l.contents ≡ map content (take l.block-index l.blocks)
