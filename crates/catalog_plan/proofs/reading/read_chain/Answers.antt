use Rattle.std.proofs.Common.{◌≡◌, ◌-◌, [], ℕ, suc, Ok, ap, arith, sym, ◌∙◌}
use Rattle.std.specs.Prelude.{◌/◌}
use Rattle.catalog_blocks.specs.declared.chains.Chain.{Chain}
use Rattle.catalog_blocks.specs.Trees.{Store, chain_from, with_block}
use Rattle.catalog_plan.proofs.ReadAll.{fault_next, last_next, left_more, none_next, on_next}
use Rattle.catalog_plan.proofs.reading.read_chain.Goals as goal

pub returns-in-Err-clause-chain : goal.returns-in-Err-clause-chain
returns-in-Err-clause-chain c =
    let l = c.loop-most in
    let most : l.most ≡ suc (l.most - 1) = omega (arith, c.loop-most-test.true) in
    sym (l.invariant.0
    ∙ ap (λ (n : ℕ). chain_from n c.args.per_track l.left [] l.so_far.chain l.place l.from) most
    ∙ fault_next (l.most - 1) c.args.per_track l.left l.so_far.chain l.place l.from c.in-Err.track (sym c.in-Err.ensures.block))

pub returns-then-is_zeros-clause-chain : goal.returns-then-is_zeros-clause-chain
returns-then-is_zeros-clause-chain c =
    let l = c.loop-most in
    let most : l.most ≡ suc (l.most - 1) = omega (arith, c.loop-most-test.true) in
    sym (l.invariant.0
    ∙ ap (λ (n : ℕ). chain_from n c.args.per_track l.left [] l.so_far.chain l.place l.from) most
    ∙ last_next (l.most - 1) c.args.per_track l.left l.so_far.chain l.place l.from c.in-Ok.found (sym c.in-Ok.ensures.block) (sym c.is_zeros.ensures ∙ c.if-is_zeros.true)
    ∙ ap (λ (x : Chain). Ok x) (sym c.in_ok-add_block.ensures.chain))

pub returns-then-is_zeros-clause-left : goal.returns-then-is_zeros-clause-left
returns-then-is_zeros-clause-left c =
    let l = c.loop-most in
    c.in-Ok.ensures.left
    ∙ left_more c.args.left.now l.left l.so_far.chain c.add_block.new.so_far.chain c.in-Ok.found.0 c.in-Ok.found.1.entries c.in_ok-add_block.ensures.chain l.invariant.2

pub loop-most-preserved : goal.loop-most-preserved
loop-most-preserved c =
    let l = c.loop-most in
    let x = c.in-Ok.found in
    let n : ℕ = l.most - 1 in
    let per : ℕ = c.args.per_track in
    let most : l.most ≡ suc (l.most - 1) = omega (arith, c.loop-most-test.true) in (
      l.invariant.0
          ∙ ap (λ (m : ℕ). chain_from m per l.left [] l.so_far.chain l.place l.from) most
          ∙ on_next n per l.left l.so_far.chain l.place l.from x (sym c.in-Ok.ensures.block) (sym c.is_zeros.ensures ∙ c.if-is_zeros.false)
          ∙ ap (λ (s : Store). chain_from n per s [] (with_block l.so_far.chain x.0 x.1.entries) x.1.next (x.0 / per)) (sym c.in-Ok.ensures.left)
          ∙ ap (λ (d : Chain). chain_from n per c.next_block.new.left [] d x.1.next (x.0 / per)) (sym c.in_ok-add_block.ensures.chain)
          ∙ ap (λ (p : ℕ). chain_from n per c.next_block.new.left [] c.add_block.new.so_far.chain x.1.next (x.0 / p)) (sym c.from.ensures),
      c.in_ok-add_block.ensures.bound,
      c.in-Ok.ensures.left ∙ left_more c.args.left.now l.left l.so_far.chain c.add_block.new.so_far.chain x.0 x.1.entries c.in_ok-add_block.ensures.chain l.invariant.2,
    )

pub returns-clause-chain : goal.returns-clause-chain
returns-clause-chain c =
    let l = c.loop-most in
    let none : l.most ≡ 0 = omega (arith, c.loop-most-test.false) in
    sym (l.invariant.0
    ∙ ap (λ (n : ℕ). chain_from n c.args.per_track l.left [] l.so_far.chain l.place l.from) none
    ∙ none_next c.args.per_track l.left l.so_far.chain l.place l.from)
