use Rattle.std.proofs.Common.{arith, ap, ◌∙◌}
use Rattle.vol_model.specs.Places.{tracks_in}
use Rattle.vtoc_sets.proofs.FewRuns.{free_few, free_most}
use Rattle.pack_machine.proofs.FreeCounts.{info_is}
use Rattle.pack_machine.proofs.space.volume_info.Goals as goal

pub tracks_in-requires : goal.tracks_in-requires
tracks_in-requires c = omega (arith, ap tracks_in c.deref.ensures.value, free_most c.requires.unit.0 c.args.vol.now c.requires.unit.1)

pub overflow_cast-result : goal.overflow_cast-result
overflow_cast-result c = omega (arith, free_few c.requires.unit.0 c.args.vol.now c.requires.unit.1, c.args.vol.now.free.ok.0)

pub returns : goal.returns
returns c image mounted =
    info_is image c.args.vol.now mounted c.tracks_in.result c.len.result c.saturating_sub.result
    (c.tracks_in.ensures ∙ ap tracks_in c.deref.ensures.value)
    (omega (arith, c.args.vol.now.free.ok.0))
    (omega (arith, c.args.vol.now.slots.ok.0, c.slots_needed.ensures image mounted))
