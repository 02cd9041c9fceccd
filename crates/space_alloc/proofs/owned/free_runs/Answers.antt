use Rattle.space_alloc.proofs.FreeTracks.{free_from_all}
use Rattle.space_alloc.proofs.owned.free_runs.Goals as goal

pub returns : goal.returns
returns c = free_from_all c.args.tracks c.in_ok-free.free.items c.args.owned.now c.insert.new.free.items c.remove_all.new.free.items c.in_ok-free.ensures.items c.insert.ensures.runs c.remove_all.ensures.runs
