-- What gives a data set another name, in the slots of a VTOC (System Control Blocks GC28-6628).
use Rattle.std.specs.Prelude.{◌≡◌, ℕ, ◌||◌, false, List, Some, None}
use Rattle.dscb_codec.specs.declared.Dscb.{Dscb}
use Rattle.dscb_codec.specs.declared.Dscb.TheVariants.{F1}
use Rattle.vol_model.specs.Shelf.{is_catalog}
use Rattle.vtoc_index.specs.Index.{first_named}

-- A set of the old name stands in this slot, the lowest of that name; no set has the new name, and neither is that of the catalog.
pub record IsToRename (slots : List Dscb) (old new : List ℕ) (slot : ℕ) : Type 0 where
  pub found : first_named old slots ≡ Some slot
  pub absent : first_named new slots ≡ None
  pub others : (is_catalog old || is_catalog new) ≡ false

-- a DSCB, under this name where it is a format 1
abbrev pub under_name : List ℕ → Dscb → Dscb
under_name name (F1 f) = F1 (record f { name = name })
under_name name d = d
