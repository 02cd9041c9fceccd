-- Those of the next rank come after those of the ranks so far.
use Rattle.std.proofs.Common.{◌≡◌, ◌==◌, ℕ, List, ◌++◌, length, sym, ap, ◌∙◌, arith}
use Rattle.std.specs.Prelude.{filter}
use Rattle.std.specs.List.{flat_map, range_with_len}
use Rattle.vol_model.specs.declared.contents.DataSet.{DataSet}
use Rattle.vol_model.specs.Order.{in_order, rank}
use Rattle.plain_steps.proofs.Rows.{flat_map_next}
use Rattle.plain_steps.proofs.sorting.in_order.Goals as goal

pub loop-k-preserved : goal.loop-k-preserved
loop-k-preserved c =
    let of_rank : ℕ → List DataSet = λ k. filter (λ x. rank c.args.sets.now x == k) c.args.sets.now in
    c.in_ok-ordered.ensures ∙ ap (λ l. l ++ of_rank c.loop-k.k) c.loop-k.invariant ∙ sym (flat_map_next of_rank c.loop-k.k)

pub returns : goal.returns
unfolding in_order
returns c =
    let of_rank : ℕ → List DataSet = λ k. filter (λ x. rank c.args.sets.now x == k) c.args.sets.now in
    let all : c.loop-k.k ≡ length c.args.sets.now = omega (arith, c.loop-k-test.false, c.loop-k.auto.k-end) in
    c.loop-k.invariant ∙ ap (λ n. flat_map of_rank (range_with_len 0 n)) all
