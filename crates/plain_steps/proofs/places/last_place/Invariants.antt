-- After the last block so far stand the others.
use Rattle.std.proofs.Common.{◌≡◌, drop}
use Rattle.vol_model.specs.Places.{last_place}
use Rattle.plain_steps.proofs.places.last_place.Given as goal

abbrev pub invariant-loop-block : goal.invariant-loop-block
invariant-loop-block l = last_place l.place (drop l.block-index l.blocks) ≡ last_place l.fn.first l.blocks
