use Rattle.std.proofs.Common.{ap, ◌∙◌}
use Rattle.hall_core.specs.Images.{image_in}
use Rattle.vol_model.specs.Places.{is_before}
use Rattle.seq_access.proofs.PartReading.{gives_members, gives_no_members, is_readable, onward_given}
use Rattle.seq_access.proofs.members.read_part_block.Goals as goal

pub returns-then-not-is_before-clause-block : goal.returns-then-not-is_before-clause-block
returns-then-not-is_before-clause-block g c told =
    let image = image_in (g.H.Hall.meaning c.args.hall.now) (g.H.Hall.facts c.args.hall.now) c.args.vol.now.unit in
    gives_no_members image c.args.vol.now c.args.set.now c.args.end (c.requires.end told) (c.requires.readable told) (c.if-not-is_before.ensures ∙ ap (is_before c.args.end) c.last_of.ensures) c.args.from

pub read_block-requires-clause-readable : goal.read_block-requires-clause-readable
read_block-requires-clause-readable g c told =
    let image = image_in (g.H.Hall.meaning c.args.hall.now) (g.H.Hall.facts c.args.hall.now) c.args.vol.now.unit in
    is_readable image c.args.vol.now c.args.set.now c.args.end (c.requires.end told) (c.requires.readable told) (c.if-not-is_before.ensures ∙ ap (is_before c.args.end) c.last_of.ensures)

pub returns-clause-block : goal.returns-clause-block
returns-clause-block g c told =
    let image = image_in (g.H.Hall.meaning c.args.hall.now) (g.H.Hall.facts c.args.hall.now) c.args.vol.now.unit in
    gives_members image c.args.vol.now c.args.set.now c.args.end (c.requires.end told) (c.requires.readable told) (c.if-not-is_before.ensures ∙ ap (is_before c.args.end) c.last_of.ensures) c.args.from c.members_from.result c.members_from.ensures
    c.read_block.result (c.read_block.ensures.block told)

pub returns-clause-onward : goal.returns-clause-onward
returns-clause-onward g c = onward_given c.args.end c.args.from c.members_from.result c.members_from.ensures c.read_block.result c.read_block.ensures.onward c.read_block.ensures.lawful
