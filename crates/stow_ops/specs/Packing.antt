-- How a directory that was read comes to be packed, in this project's profile.
use Rattle.std.specs.Prelude.{◌≡◌, ℕ, List, map, vec_items}
use Rattle.chain_spec.specs.Kept.{joined, kept}
use Rattle.dscb_codec.specs.declared.F1.{F1}
use Rattle.pack_spec.specs.Directories.{name_number}
use Rattle.sorted_chain.specs.Plan.{write_of}
use Rattle.vtoc_index.specs.declared.vol.Vol.{Vol}
use Rattle.pds_directory.specs.declared.dir.Dir.{Dir}
use Rattle.pds_directory.specs.Directories.{IsLawfulDir, IsReadIn, entries_read}
use Rattle.stow_ops.specs.declared.packings.Packing.{Packing}
use Rattle.stow_ops.specs.Stores.{IsDirPlan}

-- By this a directory comes to be packed that was read: the plan is one for its blocks, and for what is kept of their entries.
pub record IsPacking (dir : Dir) (packing : Packing) : Type 0 where
  pub of : packing.dir ≡ dir
  pub lawful : IsLawfulDir dir
  pub plan : IsDirPlan (entries_read dir) (kept name_number (joined (entries_read dir))) packing.plan.blocks (map write_of (vec_items packing.plan.writes))

-- some directory does
abbrev pub IsSomePacking : Packing → Type 0
IsSomePacking packing = (dir : Dir) × IsPacking dir packing

-- By this the directory of a data set comes to be packed, as an image has it.
pub record IsPackingOf (image : List ℕ) (v : Vol) (f : F1) (packing : Packing) : Type 0 where
  pub dir : Dir
  pub is : IsPacking dir packing
  pub read : IsReadIn image v f dir
