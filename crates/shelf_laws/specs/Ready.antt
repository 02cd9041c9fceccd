-- What is known of an open writer on a lawful shelf: what was put has room.
use Rattle.std.specs.Prelude.{◌≤◌, ◌<◌, List, length}
use Rattle.std.specs.List.{AllByRecursion}
use Rattle.vol_model.specs.declared.contents.Block.{Block}
use Rattle.vol_model.specs.declared.contents.Shelf.{Shelf}
use Rattle.vol_model.specs.Places.{Content}
use Rattle.vol_model.specs.Writing.{OpenWriter, Target, placed_on, so_far, target_body, tracks_on}

-- what may be put: at most the lengths of key and data that are written
abbrev pub IsContent : Content → Type 0
IsContent c = (length c.0 ≤ 255) × (length c.1 ≤ 32760)

-- contents after the body of a target stand on tracks that its set owns
abbrev pub AreOnTracks : Shelf → Target → List Content → Type 0
AreOnTracks shelf t cs = AllByRecursion (λ (b : Block). b.place.tt < tracks_on shelf t.v t.dsn.bytes) (placed_on shelf t cs)

-- A writer is ready: what was put may be, and stands on owned tracks, as the end-of-file block in front of it.
pub record IsReady (shelf : Shelf) (w : OpenWriter) : Type 0 where
  pub contents : AllByRecursion IsContent w.puts
  pub room : AreOnTracks shelf w.target (so_far w.target.mode (target_body shelf w.target) w.puts)
