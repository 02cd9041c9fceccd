use Rattle.std.proofs.Common.{◌∙◌, sym}
use Rattle.pack_machine.proofs.ShelfReads.{extent_missing}
use Rattle.pack_machine.specs.declared.pack.Pack.{Pack}
use Rattle.pack_machine.proofs.ListPlaces.{get_map}
use Rattle.shelf_machine.proofs.SeveralPacks.{missing}
use Rattle.shelf_machine.proofs.reads.extent_on.Goals as goal

pub extent_in-requires-clause-unit : goal.extent_in-requires-clause-unit
extent_in-requires-clause-unit c = (c.requires.units.0, c.requires.units.1.each c.args.v c.in_ok-pack.pack.now.vol (get_map (λ (p : Pack). p.vol) c.args.packs.now c.args.v c.in_ok-pack.pack.now (sym c.in_ok-pack.ensures)))

pub extent_in-requires-clause-names : goal.extent_in-requires-clause-names
extent_in-requires-clause-names c = c.requires.order c.args.v c.in_ok-pack.pack.now.vol (get_map (λ (p : Pack). p.vol) c.args.packs.now c.args.v c.in_ok-pack.pack.now (sym c.in_ok-pack.ensures))

pub returns-in_err-pack : goal.returns-in_err-pack
returns-in_err-pack c shelf has = c.from_residual.ensures ∙ extent_missing shelf c.args.v (has.none c.args.v (missing c.args.packs.now c.args.v (sym c.in_err-pack.ensures))) c.args.k c.args.dsn.now.bytes

pub returns : goal.returns
returns c shelf has = c.extent_in.ensures shelf c.args.v (has.each c.args.v c.in_ok-pack.pack.now.vol (get_map (λ (p : Pack). p.vol) c.args.packs.now c.args.v c.in_ok-pack.pack.now (sym c.in_ok-pack.ensures)))
