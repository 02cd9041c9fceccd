use Rattle.std.proofs.Common.{ℕ, Option, subst, sym, true, false}
use Rattle.pack_machine.specs.Reads.{IsUnreadCatalog}
use Rattle.vol_model.specs.Reading.{catalog_on}
use Rattle.pack_machine.proofs.ShelfReads.{catalog_here, catalog_missing}
use Rattle.pack_machine.specs.declared.pack.Pack.{Pack}
use Rattle.pack_machine.proofs.ListPlaces.{get_map}
use Rattle.shelf_machine.proofs.SeveralPacks.{missing}
use Rattle.shelf_machine.proofs.reads.unread_catalog.Goals as goal

pub returns-in_err-pack : goal.returns-in_err-pack
returns-in_err-pack c shelf has =
    subst (λ (o : Option ℕ). IsUnreadCatalog o (catalog_on shelf c.args.v)) (sym c.from_residual.ensures) (catalog_missing shelf c.args.v (has.none c.args.v (missing c.args.packs.now c.args.v (sym c.in_err-pack.ensures))))

pub returns-then-has_catalog : goal.returns-then-has_catalog
returns-then-has_catalog c shelf has =
    catalog_here shelf c.args.v c.in_ok-pack.pack.now.vol (has.each c.args.v c.in_ok-pack.pack.now.vol (get_map (λ (p : Pack). p.vol) c.args.packs.now c.args.v c.in_ok-pack.pack.now (sym c.in_ok-pack.ensures))) true c.if-has_catalog.ensures

pub returns-else-has_catalog : goal.returns-else-has_catalog
returns-else-has_catalog c shelf has =
    catalog_here shelf c.args.v c.in_ok-pack.pack.now.vol (has.each c.args.v c.in_ok-pack.pack.now.vol (get_map (λ (p : Pack). p.vol) c.args.packs.now c.args.v c.in_ok-pack.pack.now (sym c.in_ok-pack.ensures))) false c.if-has_catalog.ensures
