use Rattle.std.proofs.Common.{rules, ◌≡◌, ◌≤◌, get_or, arith, sym}
use Rattle.vol_model.specs.declared.contents.Run.{Run}
use Rattle.dadsm_ops.proofs.CutRuns.{counted_more, counted_none, first_some, rest_apart, rest_ends}
use Rattle.dadsm_ops.proofs.planning.count_without.Goals as goal

pub loop-run-init : goal.loop-run-init
loop-run-init c = record { apart = c.requires.maximal; ends = c.requires.within; count = sym (counted_none c.args.taken.now) }

pub loop-run-preserved : goal.loop-run-preserved
loop-run-preserved c =
    let runs = c.args.free.now in
    let i = c.loop-run.run-index in
    let r : Run = get_or runs i (record { start = 0; len = 0 }) in
    let here : r ≡ get_or runs i r = search rules in
    let some = first_some c.loop-run.left runs i r c.loop-run-test.true here c.loop-run.invariant.apart in
    let few : c.pieces-left.result ≤ r.len = omega (arith, c.pieces-left.ensures.few) in
    record {
      apart = rest_apart c.loop-run.left c.pieces-left.result runs i r c.loop-run-test.true here few c.loop-run.invariant.apart;
      ends = rest_ends runs i r c.loop-run-test.true here c.loop-run.invariant.ends;
      count = counted_more c.args.taken.now runs i r c.loop-run.left c.pieces-left.result c.loop-run-test.true here some c.loop-run.invariant.count c.pieces-left.ensures.runs;
    }
