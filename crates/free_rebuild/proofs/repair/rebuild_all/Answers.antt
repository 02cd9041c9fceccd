use Rattle.hall_core.specs.Images.{image_in}
use Rattle.free_rebuild.proofs.RepairSteps.{open_there}
use Rattle.free_rebuild.proofs.StandLemmas.{has_front}
use Rattle.free_rebuild.proofs.repair.rebuild_all.Goals as goal

pub check_front-requires-clause-first : goal.check_front-requires-clause-first
check_front-requires-clause-first g c told =
    let v = c.args.vol.now in
    open_there v.slots.items (has_front (image_in (g.H.Hall.meaning c.args.hall.now) (g.H.Hall.facts c.args.hall.now) v.unit) v (c.requires.mounted told))
