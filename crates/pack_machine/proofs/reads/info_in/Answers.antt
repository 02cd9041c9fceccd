use Rattle.std.proofs.Common.{◌∙◌, ap, sym}
use Rattle.vol_model.specs.Reading.{directory_size}
use Rattle.pack_machine.proofs.ShelfReads.{body_found, info_found, info_none, known_set}
use Rattle.pack_machine.proofs.reads.info_in.Goals as goal

pub returns-clause-info : goal.returns-clause-info
returns-clause-info c shelf n has lists dir =
    let set = c.in_ok-set.ensures shelf n has in
    let f = c.in_ok-set.set.now in
    let known = known_set shelf n c.args.vol.now has c.args.dsn.now.bytes f c.args.known.now.unread.items set lists in
    info_found shelf n c.args.vol.now has c.args.dsn.now.bytes f _ set c.attr_of.ensures.attr (c.kind_in.ensures _ _ _ known) (c.space_of-space.ensures.extents has.image set.0.set) (c.space_of-space.ensures.tracks has.image set.0.set)
    (dir ∙ ap directory_size (sym (body_found shelf n c.args.vol.now has c.args.dsn.now.bytes f set)))

pub returns-in_err-set-clause-info : goal.returns-in_err-set-clause-info
returns-in_err-set-clause-info c shelf n has lists dir = c.from_residual.ensures ∙ info_none shelf n c.args.vol.now has c.args.dsn.now.bytes (c.in_err-set.ensures shelf n has)
