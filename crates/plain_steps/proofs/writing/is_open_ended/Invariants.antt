-- What is said of the blocks so far stands where there are no others.
use Rattle.std.proofs.Common.{◌≡◌, take}
use Rattle.vol_model.specs.Places.{is_open_ended}
use Rattle.plain_steps.proofs.writing.is_open_ended.Given as goal

abbrev pub invariant-loop-block : goal.invariant-loop-block
invariant-loop-block l = l.is_open ≡ is_open_ended (take l.block-index l.blocks)
