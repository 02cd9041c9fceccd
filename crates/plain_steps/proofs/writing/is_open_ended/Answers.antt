-- The last block so far says it.
use Rattle.std.proofs.Common.{◌≡◌, not, sym, ap, ◌∙◌}
use Rattle.plain_steps.proofs.Blocks.{open_more}
use Rattle.plain_steps.proofs.writing.is_open_ended.Goals as goal

pub loop-block-preserved : goal.loop-block-preserved
loop-block-preserved c = ap not c.is_end_of_file-is_open.ensures ∙ sym (open_more c.args.blocks.now c.loop-block.block-index c.block-item.result c.loop-block-test.true c.block-item.is)
