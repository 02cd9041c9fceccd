use Rattle.std.proofs.Common.{◌≡◌, ◌+◌, ◌-◌, length, arith}
use Rattle.hall_core.proofs.UnitLemmas.{mid_patched}
use Rattle.hall_core.proofs.mem_hall.pairs.patch.Goals as goal

pub returns : goal.returns
returns c =
    let size : c.args.at + length c.args.bytes.now - c.args.at ≡ length c.args.bytes.now = omega arith in
    rw (size, c.copy_from_slice.ensures.after) (mid_patched c.args.image.now c.args.bytes.now c.args.at)
