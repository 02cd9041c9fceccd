use Rattle.pack_spec.specs.Slots.{slots_of_vtoc}
use Rattle.vtoc_sets.proofs.CountedRows.{run_is}
use Rattle.vtoc_sets.proofs.extents.run_at.Goals as goal

pub returns : goal.returns
returns c image set = run_is c.args.vol.now.geometry (slots_of_vtoc image c.args.vol.now.geometry c.args.vol.now.vtoc) c.args.set.now c.args.k c.in_ok-extent_at.field-0 c.run_of.result set.extents (c.in_ok-extent_at.ensures image set.mounted.index) c.run_of.ensures
