use Rattle.std.proofs.Common.{arith}
use Rattle.hall_core.proofs.UnitLemmas.{pair_read}
use Rattle.hall_core.proofs.mem_hall.MemHallHall.size.Goals as goal

pub returns : goal.returns
returns c =
    let hall = c.args.self.now in
    let pair = pair_read hall.files.items hall.units.items c.args.unit c.index.result.now c.index-2.result.now hall.replay.firsts c.requires c.index.ensures c.index-2.ensures in
    omega (arith, pair.size)
