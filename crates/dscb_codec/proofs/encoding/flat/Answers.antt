use Rattle.std.proofs.Common.{◌≡◌, ◌+◌, ◌*◌, ◌≤◌, [], ◌∙◌, below_more, take, sym, ap, arith, List, ℕ}
use Rattle.std.proofs.Math.Nat.{mul-le-mul_left}
use Rattle.std.proofs.lemmas.List.{take_all}
use Rattle.dscb_codec.proofs.Rows.{rows_by_index}
use Rattle.dscb_codec.proofs.Parts.{split_at, placed, written, concat-map}
use Rattle.dscb_codec.proofs.encoding.flat.Goals as goal

pub copy_row-at-requires : goal.copy_row-at-requires
copy_row-at-requires g c =
    let below : c.loop-row.row-index + 1 ≤ g.row.M = omega arith in
    let fits : g.row.N * (c.loop-row.row-index + 1) ≤ g.row.N * g.row.M = mul-le-mul_left g.row.N below in
    omega arith

pub loop-row-preserved : goal.loop-row-preserved
loop-row-preserved g c =
    let next = split_at (λ (row : List ℕ). row) c.args.rows.now c.loop-row.row-index [] (take c.loop-row.at c.loop-row.out) (omega arith) c.loop-row.invariant.whole in
    record {
      wide = omega arith;
      end = omega arith;
      widths = below_more _ _ c.loop-row.invariant.widths c.copy_row-at.ensures.wide;
      whole = placed (take c.loop-row.at c.loop-row.out) _ _ _ _ c.copy_row-at.ensures.front next;
    }

pub returns-clause-bytes : goal.returns-clause-bytes
returns-clause-bytes g c =
    let front = written (λ (row : List ℕ). row) c.args.rows.now c.loop-row.row-index c.loop-row.out c.loop-row.at (omega arith) c.loop-row.invariant.whole in
    let last : g.row.N * c.loop-row.row-index ≡ g.row.N * g.row.M = let at_end : c.loop-row.row-index ≡ g.row.M = omega arith in ap (λ (i : ℕ). g.row.N * i) at_end in
    sym (take_all c.loop-row.at c.loop-row.out (omega arith)) ∙ front ∙ concat-map c.args.rows.now

pub returns-clause-rows : goal.returns-clause-rows
returns-clause-rows g c =
    (omega arith, rows_by_index g.row.N c.args.rows.now (λ k below. c.loop-row.invariant.widths k (omega arith)))
