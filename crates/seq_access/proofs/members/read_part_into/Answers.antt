use Rattle.std.proofs.Common.{ap, ◌∙◌}
use Rattle.hall_core.specs.Images.{image_in}
use Rattle.vol_model.specs.Places.{is_before}
use Rattle.seq_access.proofs.PartReading.{is_readable, onward_into, reads_members, reads_no_members}
use Rattle.seq_access.proofs.members.read_part_into.Goals as goal

pub returns-then-not-is_before-clause-block : goal.returns-then-not-is_before-clause-block
returns-then-not-is_before-clause-block g c told =
    let image = image_in (g.H.Hall.meaning c.args.hall.now) (g.H.Hall.facts c.args.hall.now) c.args.vol.now.unit in
    reads_no_members image c.args.vol.now c.args.set.now c.args.end (c.requires.end told) (c.requires.readable told) (c.if-not-is_before.ensures ∙ ap (is_before c.args.end) c.last_of.ensures) c.args.from c.clear.new.self

pub read_into-requires-clause-readable : goal.read_into-requires-clause-readable
read_into-requires-clause-readable g c told =
    let image = image_in (g.H.Hall.meaning c.args.hall.now) (g.H.Hall.facts c.args.hall.now) c.args.vol.now.unit in
    is_readable image c.args.vol.now c.args.set.now c.args.end (c.requires.end told) (c.requires.readable told) (c.if-not-is_before.ensures ∙ ap (is_before c.args.end) c.last_of.ensures)

pub returns-clause-block : goal.returns-clause-block
returns-clause-block g c told =
    let image = image_in (g.H.Hall.meaning c.args.hall.now) (g.H.Hall.facts c.args.hall.now) c.args.vol.now.unit in
    reads_members image c.args.vol.now c.args.set.now c.args.end (c.requires.end told) (c.requires.readable told) (c.if-not-is_before.ensures ∙ ap (is_before c.args.end) c.last_of.ensures) c.args.from c.members_from.result c.members_from.ensures
    c.read_into.result c.read_into.new.block (c.read_into.ensures.block told)

pub returns-clause-onward : goal.returns-clause-onward
returns-clause-onward g c = onward_into c.args.end c.args.from c.members_from.result c.members_from.ensures c.read_into.result c.read_into.new.block c.read_into.ensures.onward c.read_into.ensures.lawful
