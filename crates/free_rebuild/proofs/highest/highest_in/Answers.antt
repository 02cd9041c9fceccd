use Rattle.vtoc_index.specs.Index.{address_in}
use Rattle.free_rebuild.proofs.HighestLemmas.{none_so_far}
use Rattle.free_rebuild.proofs.highest.highest_in.Goals as goal

pub loop-slot-init : goal.loop-slot-init
loop-slot-init c = record { highest = none_so_far (address_in c.args.vol.now) c.args.vol.now.slots.items }
