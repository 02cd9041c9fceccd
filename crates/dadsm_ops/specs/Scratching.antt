-- The free runs of a volume when the tracks of a data set come back, in this project's profile.
use Rattle.std.specs.Prelude.{◌≡◌, ℕ, ◌*◌, ◌≤◌, ◌<◌, ◌||◌, List}
use Rattle.ckd_image.specs.declared.header.Geometry.{Geometry}
use Rattle.ckd_image.specs.Device.{row_of}
use Rattle.vol_model.specs.declared.contents.Run.{Run}
use Rattle.vol_model.specs.Space.{AreMaximal, EndBy, covers, usable_cylinders}

-- the tracks of a pack that data sets may have: those of the cylinders that aren't alternates
abbrev pub usable_tracks : Geometry → ℕ
usable_tracks g = usable_cylinders g * (row_of g.device).heads

-- Maximal runs: their tracks below a limit are those of the old runs and of others; they reach no further than the old ones and the limit.
pub record AreFreed (limit : ℕ) (old runs new : List Run) : Type 0 where
  pub maximal : AreMaximal new
  pub tracks : (track : ℕ) → track < limit
      → covers new track ≡ (covers old track || covers runs track)
  pub within : (most : ℕ) → limit ≤ most → EndBy most old → EndBy most new
