use Rattle.std.proofs.Common.{◌∙◌, sym}
use Rattle.pack_machine.proofs.ShelfReads.{volume_is, volume_missing}
use Rattle.pack_machine.specs.declared.pack.Pack.{Pack}
use Rattle.pack_machine.proofs.ListPlaces.{get_map}
use Rattle.shelf_machine.proofs.SeveralPacks.{missing}
use Rattle.shelf_machine.proofs.reads.volume_on.Goals as goal

pub volume_info-requires : goal.volume_info-requires
volume_info-requires c = record { unit = (c.requires.units.0, c.requires.units.1.each c.args.v c.in_ok-pack.pack.now.vol (get_map (λ (p : Pack). p.vol) c.args.packs.now c.args.v c.in_ok-pack.pack.now (sym c.in_ok-pack.ensures))) }

pub returns-in_err-pack : goal.returns-in_err-pack
returns-in_err-pack c shelf has = c.from_residual.ensures ∙ volume_missing shelf c.args.v (has.none c.args.v (missing c.args.packs.now c.args.v (sym c.in_err-pack.ensures)))

pub returns : goal.returns
returns c shelf has =
    let here = has.each c.args.v c.in_ok-pack.pack.now.vol (get_map (λ (p : Pack). p.vol) c.args.packs.now c.args.v c.in_ok-pack.pack.now (sym c.in_ok-pack.ensures)) in
    volume_is shelf c.args.v c.in_ok-pack.pack.now.vol here c.volume_info.result (c.volume_info.ensures here.image here.mounted)
