use Rattle.std.proofs.Common.{sym, ◌∙◌}
use Rattle.pack_machine.proofs.ShelfReads.{info_missing}
use Rattle.pack_machine.specs.declared.pack.Pack.{Pack}
use Rattle.pack_machine.proofs.ListPlaces.{get_map}
use Rattle.shelf_machine.proofs.SeveralPacks.{missing}
use Rattle.shelf_machine.proofs.reads.info_on.Goals as goal

pub info_in-requires-clause-unit : goal.info_in-requires-clause-unit
info_in-requires-clause-unit c = (c.requires.units.0, c.requires.units.1.each c.args.v c.in_ok-pack.pack.now.vol (get_map (λ (p : Pack). p.vol) c.args.packs.now c.args.v c.in_ok-pack.pack.now (sym c.in_ok-pack.ensures)))

pub info_in-requires-clause-names : goal.info_in-requires-clause-names
info_in-requires-clause-names c = c.requires.order c.args.v c.in_ok-pack.pack.now.vol (get_map (λ (p : Pack). p.vol) c.args.packs.now c.args.v c.in_ok-pack.pack.now (sym c.in_ok-pack.ensures))

pub returns-in_err-pack-clause-info : goal.returns-in_err-pack-clause-info
returns-in_err-pack-clause-info c shelf has knows dir = c.from_residual.ensures ∙ info_missing shelf c.args.v (has.none c.args.v (missing c.args.packs.now c.args.v (sym c.in_err-pack.ensures))) c.args.dsn.now.bytes

pub returns-clause-info : goal.returns-clause-info
returns-clause-info c shelf has knows dir = c.info_in.ensures.info shelf c.args.v (has.each c.args.v c.in_ok-pack.pack.now.vol (get_map (λ (p : Pack). p.vol) c.args.packs.now c.args.v c.in_ok-pack.pack.now (sym c.in_ok-pack.ensures))) (knows c.args.v c.in_ok-pack.pack.now.cache (get_map (λ (p : Pack). p.cache) c.args.packs.now c.args.v c.in_ok-pack.pack.now (sym c.in_ok-pack.ensures))) dir
