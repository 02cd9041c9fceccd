use Rattle.std.proofs.Common.{◌≤◌, arith}
use Rattle.std.proofs.lemmas.Result.{on_ok_weaker}
use Rattle.vtoc_index.proofs.SlotsRead.{adds_few}
use Rattle.vtoc_index.proofs.tracks.ReadSlots.add.Goals as goal

pub returns-clause-few : goal.returns-clause-few
returns-clause-few c =
    let few : c.args.count ≤ 255 = omega arith in
    on_ok_weaker c.push_slots.result (λ adds. (c.args.count, few, adds_few c.args.geometry c.args.track c.args.count c.args.buf.now.records _ _ c.requires.count adds)) c.push_slots.ensures.added
