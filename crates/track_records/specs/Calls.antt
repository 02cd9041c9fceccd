-- What reads and writes of tracks leave of a hall, in this project's profile.
use Rattle.std.specs.Prelude.{ℕ, ◌<◌, List, length, Result, IsErrOf}
use Rattle.ckd_image.specs.declared.header.Geometry.{Geometry}
use Rattle.ckd_image.specs.Header.{HasGeometry}
use Rattle.hall_core.specs.Facts.{Facts, Attached, ReportedCall, unit_of}
use Rattle.pack_spec.specs.Label.{tracks_of}
use Rattle.track_records.specs.declared.error.TrackErr.{TrackErr}
use Rattle.track_records.specs.declared.error.TrackErr.TheVariants.{Device}

-- a unit is attached whose size is that of a pack of this geometry, and it has the track
pub record HasTrack (units : List Attached) (unit : ℕ) (g : Geometry) (track : ℕ) : Type 0 where
  pub attached : unit < length units
  pub whole : HasGeometry (unit_of units unit).size g
  pub inside : track < tracks_of g

-- a read of a track, which answers a fault of the device as one
abbrev pub TrackCall : {T : Type 0} → Facts → Facts → Result T TrackErr → Type 0
TrackCall old new result = ReportedCall (IsErrOf result Device) old new
