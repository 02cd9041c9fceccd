-- What the data sets in slots own and need (System Control Blocks GC28-6628; rules: this project's profile).
use Rattle.std.specs.Prelude.{◌≡◌, ◌+◌, ◌∷◌, ◌++◌, nat_lt, List, length, if◌then◌else◌}
use Rattle.std.specs.List.{AllByRecursion, count_by, flat_map}
use Rattle.ckd_image.specs.declared.header.Geometry.{Geometry}
use Rattle.vol_model.specs.declared.contents.DataSet.{DataSet}
use Rattle.vol_model.specs.declared.contents.Run.{Run}
use Rattle.vol_model.specs.Lawful.{IsOnPack}
use Rattle.vtoc_index.specs.declared.owned.Owned.{Owned}

-- These are the runs that the data sets own, with track 0 and the VTOC, and how many slots the sets need.
pub record AreOwned (g : Geometry) (vtoc : Run) (sets : List DataSet) (owned : Owned) : Type 0 where
  pub runs : owned.runs.items
      ≡ record { start = 0; len = 1 } ∷ vtoc ∷ flat_map (λ x. x.extents) sets
  pub slots : owned.slots ≡ length sets + count_by (λ x. nat_lt 3 (length x.extents)) sets
  pub inside : AllByRecursion (IsOnPack g) owned.runs.items

-- One data set more: its extents, one slot, and one more where it has more than three extents.
pub record HasMore (g : Geometry) (set : DataSet) (old new : Owned) : Type 0 where
  pub runs : new.runs.items ≡ old.runs.items ++ set.extents
  pub slots : new.slots ≡ old.slots + (if nat_lt 3 (length set.extents) then 2 else 1)
  pub inside : AllByRecursion (IsOnPack g) set.extents
