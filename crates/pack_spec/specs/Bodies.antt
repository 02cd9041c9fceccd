-- The bodies of data sets and the catalog of a volume, in this project's profile: of sequential data sets the blocks, of partitioned ones the directory and the blocks, and of SYSCTLG nothing is read.
use Rattle.std.specs.Prelude.{ℕ, List, Option, Some, None, if◌then◌else◌}
use Rattle.std.specs.List.{list_any}
use Rattle.ckd_image.specs.declared.header.Geometry.{Geometry}
use Rattle.vol_model.specs.declared.catalogs.CatBody.{CatBody}
use Rattle.vol_model.specs.declared.catalogs.CatBody.TheVariants as catalogs
use Rattle.vol_model.specs.declared.contents.Attr.{Attr}
use Rattle.vol_model.specs.declared.contents.Body.{Body}
use Rattle.vol_model.specs.declared.contents.Body.TheVariants.{Other, Unreadable}
use Rattle.vol_model.specs.declared.contents.DataSet.{DataSet}
use Rattle.vol_model.specs.declared.contents.Run.{Run}
use Rattle.vol_model.specs.Shelf.{catalog_name, has_name, is_catalog, is_partitioned, is_sequential}
use Rattle.pack_spec.specs.Blocks.{seq_body}
use Rattle.pack_spec.specs.Directories.{part_body}

-- the body of a set of this name, these attributes, these extents and this LSTAR, where the data tracks are these
unfoldable pub body_of : Geometry → List (List ℕ) → List ℕ → Attr → List Run → List ℕ → Body
body_of g tracks name attr extents lstar =
    if is_sequential name attr then seq_body g tracks extents lstar
    else (if is_partitioned name attr then part_body g tracks extents lstar
    else (if is_catalog name then Unreadable 0 else Other))

-- the catalog, where one of these sets is SYSCTLG
unfoldable pub catalog_of : List DataSet → Option CatBody
catalog_of sets = if list_any (has_name catalog_name) sets then Some (catalogs.Unreadable 0) else None
