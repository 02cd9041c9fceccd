use Rattle.std.proofs.Common.{ℕ, List, ◌∷◌, ◌++◌, ap, ◌∙◌, replicate}
use Rattle.dadsm_ops.proofs.NewBlocks.{first_data, later_data}
use Rattle.dadsm_ops.proofs.formatting.block_data.Goals as goal

pub returns-then-number-eq0 : goal.returns-then-number-eq0
returns-then-number-eq0 c = ap (λ (xs : List ℕ). 0 ∷ 14 ∷ (xs ++ replicate 246 0)) c.copy_from_slice.ensures.after ∙ first_data c.args.number c.if-number-eq0.true

pub returns-else-number-eq0 : goal.returns-else-number-eq0
returns-else-number-eq0 c = later_data c.args.number c.if-number-eq0.false
