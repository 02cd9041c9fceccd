-- Each content in turn is placed.
use Rattle.std.proofs.Common.{◌∷◌, [], ◌++◌, ap, ◌∙◌}
use Rattle.plain_steps.proofs.Placing.{placed_more, placed_all}
use Rattle.plain_steps.proofs.writing.placed.Goals as goal

pub loop-content-preserved : goal.loop-content-preserved
loop-content-preserved c =
    let l = c.loop-content in
    placed_more c.args.device l.so_far c.add_block.new.body l.blocks c.push.new.self c.args.contents.now l.content-index c.content-item.result c.in_ok-block.block
    c.loop-content-test.true c.content-item.is c.in_ok-block.ensures
    (c.in_ok-push.ensures.ok ∙ ap (λ b. l.blocks ++ b ∷ []) c.in_ok-copy.ensures) c.in_ok-add_block.ensures
    ∙ l.invariant

pub returns : goal.returns
returns c =
    let l = c.loop-content in
    placed_all c.args.device c.args.body.now l.so_far l.blocks c.args.contents.now l.content-index c.loop-content-test.false l.invariant
