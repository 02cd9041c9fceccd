-- A shelf stays lawful under each operation that may be asked for.
use Rattle.std.proofs.Common.{◌≡◌}
use Rattle.std.specs.Prelude.{Ok}
use Rattle.vol_model.specs.declared.contents.Shelf.{Shelf}
use Rattle.vol_model.specs.declared.requests.Op.{Op}
use Rattle.vol_model.specs.declared.requests.Op.TheVariants.{Alias, Allocate, Area, BuildGroup, BuildIndex, Catalog, Drop, DropNode, Empty, Enter, Extend, Fill, Rename, Scratch, Uncatalog}
use Rattle.vol_model.specs.Lawful.{IsLawful, IsLawfulOp}
use Rattle.vol_model.specs.Shelf.{step}
use Rattle.shelf_laws.proofs.Allocating.{allocate_lawful}
use Rattle.shelf_laws.proofs.Cataloging.{alias_lawful, build_group_lawful, build_index_lawful, catalog_lawful, drop_node_lawful, uncatalog_lawful}
use Rattle.shelf_laws.proofs.Directories.{drop_lawful, enter_lawful}
use Rattle.shelf_laws.proofs.Emptying.{empty_lawful}
use Rattle.shelf_laws.proofs.Extending.{extend_lawful}
use Rattle.shelf_laws.proofs.Renaming.{rename_lawful}
use Rattle.shelf_laws.proofs.Scratching.{scratch_lawful}

pub admitted_lawful : (s t : Shelf) (op : Op) → IsLawfulOp op → IsLawful s → step s op ≡ Ok t → IsLawful t
admitted_lawful s t (Allocate v dsn attr request dir) is h done = allocate_lawful s t v dsn attr request dir is.0 is.1 h done
admitted_lawful s t (Extend v dsn) is h done = extend_lawful s t v dsn h done
admitted_lawful s t (Scratch v dsn) is h done = scratch_lawful s t v dsn h done
admitted_lawful s t (Rename v old new) is h done = rename_lawful s t v old new h done
admitted_lawful s t (Empty v dsn attr) is h done = empty_lawful s t v dsn attr h done
admitted_lawful s t (Fill v dsn blocks) is h done = absurd is
admitted_lawful s t (Area v dsn blocks) is h done = absurd is
admitted_lawful s t (Enter v dsn entry replace) is h done = enter_lawful s t v dsn entry replace is h done
admitted_lawful s t (Drop v dsn name) is h done = drop_lawful s t v dsn name h done
admitted_lawful s t (BuildIndex v path) is h done = build_index_lawful s t v h path done
admitted_lawful s t (BuildGroup v path limit empty delete) is h done = build_group_lawful s t v h path limit empty delete done
admitted_lawful s t (DropNode v path) is h done = drop_node_lawful s t v h path done
admitted_lawful s t (Catalog v path vols replace) is h done = catalog_lawful s t v h path vols replace done
admitted_lawful s t (Uncatalog v path) is h done = uncatalog_lawful s t v h path done
admitted_lawful s t (Alias v name of) is h done = alias_lawful s t v h name of done
