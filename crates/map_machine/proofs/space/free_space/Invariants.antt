-- The tracks from the present one on are counted.
use Rattle.std.proofs.Common.{◌*◌}
use Rattle.ckd_image.specs.Device.{row_of}
use Rattle.vol_model.specs.Space.{is_unowned, usable_cylinders}
use Rattle.map_machine.proofs.FreeSpaceLemmas.{IsCounted}
use Rattle.map_machine.proofs.space.free_space.Given as goal

abbrev pub invariant-loop-track : goal.invariant-loop-track
invariant-loop-track l = IsCounted (is_unowned l.fn.volume) (usable_cylinders l.fn.volume.geometry * (row_of l.fn.volume.geometry.device).heads) l.track l.space.tracks l.space.runs l.is_next_free

abbrev pub decreases-loop-track : goal.decreases-loop-track
decreases-loop-track l = l.track
