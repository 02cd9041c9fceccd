use Rattle.std.proofs.Common.{rules, ◌≡◌, length, arith, length-take}
use Rattle.dadsm_ops.proofs.new_set.extent_count.Goals as goal

pub returns : goal.returns
returns c =
    let e = c.args.extents in
    let size : length e.runs ≡ 5 = search rules in
    omega (arith, length-take e.n e.runs)
