use Rattle.std.proofs.Common.{◌∙◌, sym}
use Rattle.vtoc_sets.specs.Sets.{volume_in}
use Rattle.pack_machine.proofs.ShelfReads.{name_is, name_missing}
use Rattle.pack_machine.specs.declared.pack.Pack.{Pack}
use Rattle.pack_machine.proofs.ListPlaces.{get_map}
use Rattle.shelf_machine.proofs.SeveralPacks.{missing}
use Rattle.shelf_machine.proofs.reads.name_on.Goals as goal

pub name_at-requires : goal.name_at-requires
name_at-requires c = c.requires.order c.args.v c.in_ok-pack.pack.now.vol (get_map (λ (p : Pack). p.vol) c.args.packs.now c.args.v c.in_ok-pack.pack.now (sym c.in_ok-pack.ensures))

pub returns-in_err-pack : goal.returns-in_err-pack
returns-in_err-pack c shelf has = c.from_residual.ensures ∙ name_missing shelf c.args.v (has.none c.args.v (missing c.args.packs.now c.args.v (sym c.in_err-pack.ensures))) c.args.k

pub returns : goal.returns
returns c shelf has =
    let v = c.in_ok-pack.pack.now.vol in
    let here = has.each c.args.v v (get_map (λ (p : Pack). p.vol) c.args.packs.now c.args.v c.in_ok-pack.pack.now (sym c.in_ok-pack.ensures)) in
    name_is shelf c.args.v v here c.args.k c.name_at.result (c.name_at.ensures here.image (volume_in here.image v) here.mounted here.mounted.volume)
