use Rattle.std.proofs.Common.{◌≡◌, ap, ◌∙◌, arith}
use Rattle.vol_model.specs.Slots.{directory_needed}
use Rattle.vol_model.specs.declared.refusals.Refusal.{Refusal}
use Rattle.stow_ops.proofs.ChainSizes.{chain_needed}
use Rattle.stow_ops.proofs.storing.planned.Goals as goal

pub returns-then-made-len-clause-full : goal.returns-then-made-len-clause-full
returns-then-made-len-clause-full c =
    let count : c.in-Ok.made.blocks ≡ directory_needed c.args.entries.now = c.in-Ok.ensures.count ∙ chain_needed c.args.entries.now c.requires.entries.each in
    λ r is. let same : r ≡ Refusal.DirFull c.in-Ok.made.blocks = cc in (same ∙ ap Refusal.DirFull count, omega (arith, count))
