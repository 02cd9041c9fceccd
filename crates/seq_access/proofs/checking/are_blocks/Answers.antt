use Rattle.std.proofs.Common.{◌≡◌, ◌+◌, ◌-◌, ℕ, ap, ◌∙◌, arith}
use Rattle.std.specs.Prelude.{slice_get}
use Rattle.std.specs.Option.{option_map}
use Rattle.pack_spec.specs.Blocks.{is_block}
use Rattle.seq_access.proofs.Checked.{all_more, not_all}
use Rattle.seq_access.proofs.checking.are_blocks.Goals as goal

pub returns-then-not-is_block : goal.returns-then-not-is_block
returns-then-not-is_block c =
    let same : c.loop-passed.passed ≡ c.loop-passed.passed + 1 - 1 = omega arith in
    not_all is_block c.args.buf.now.records c.loop-passed.passed (ap (λ (n : ℕ). option_map is_block (slice_get c.args.buf.now.records n)) same ∙ c.if-not-is_block.ensures)

pub loop-passed-preserved : goal.loop-passed-preserved
loop-passed-preserved c =
    let same : c.loop-passed.passed ≡ c.loop-passed.passed + 1 - 1 = omega arith in
    all_more is_block c.args.buf.now.records c.loop-passed.passed c.loop-passed.invariant (ap (λ (n : ℕ). option_map is_block (slice_get c.args.buf.now.records n)) same ∙ c.if-not-is_block.ensures)
