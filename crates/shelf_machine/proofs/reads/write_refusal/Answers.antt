use Rattle.std.proofs.Common.{sym}
use Rattle.pack_machine.proofs.ShelfReads.{begin_missing}
use Rattle.pack_machine.specs.declared.pack.Pack.{Pack}
use Rattle.pack_machine.proofs.ListPlaces.{get_map}
use Rattle.shelf_machine.proofs.SeveralPacks.{missing}
use Rattle.shelf_machine.proofs.reads.write_refusal.Goals as goal

pub write_refusal_in-requires-clause-unit : goal.write_refusal_in-requires-clause-unit
write_refusal_in-requires-clause-unit c = (c.requires.units.0, c.requires.units.1.each c.args.v c.in-Some.pack.now.vol (get_map (λ (p : Pack). p.vol) c.args.packs.now c.args.v c.in-Some.pack.now (sym c.in-Some.ensures)))

pub write_refusal_in-requires-clause-names : goal.write_refusal_in-requires-clause-names
write_refusal_in-requires-clause-names c = c.requires.order c.args.v c.in-Some.pack.now.vol (get_map (λ (p : Pack). p.vol) c.args.packs.now c.args.v c.in-Some.pack.now (sym c.in-Some.ensures))

pub returns-in-Some : goal.returns-in-Some
returns-in-Some c shelf has knows = c.write_refusal_in.ensures shelf c.args.v (has.each c.args.v c.in-Some.pack.now.vol (get_map (λ (p : Pack). p.vol) c.args.packs.now c.args.v c.in-Some.pack.now (sym c.in-Some.ensures))) (knows c.args.v c.in-Some.pack.now.cache (get_map (λ (p : Pack). p.cache) c.args.packs.now c.args.v c.in-Some.pack.now (sym c.in-Some.ensures)))

pub returns-in-None : goal.returns-in-None
returns-in-None c shelf has knows = begin_missing shelf c.args.v (has.none c.args.v (missing c.args.packs.now c.args.v (sym c.in-None.ensures))) c.args.dsn.now c.args.mode
