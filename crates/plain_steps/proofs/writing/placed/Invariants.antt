-- The blocks so far, and those of the other contents after the body with them.
use Rattle.std.proofs.Common.{◌≡◌, ◌++◌, drop}
use Rattle.vol_model.specs.Places.{placed}
use Rattle.plain_steps.proofs.writing.placed.Given as goal

abbrev pub invariant-loop-content : goal.invariant-loop-content
invariant-loop-content l = l.blocks ++ placed l.device l.so_far (drop l.content-index l.contents) ≡ placed l.device l.body l.contents
