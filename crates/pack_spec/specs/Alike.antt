-- Slots and images that differ in what has no part in the volume, in this project's profile.
use Rattle.std.specs.Prelude.{◌≡◌, ◌⊎◌, ℕ, zero, suc, ◌+◌, ◌<◌, ◌≤◌, ◌&&◌, ◌||◌, not, Bool, true, List, [], length, map, slice_get, take, Some, Result}
use Rattle.ckd_image.specs.declared.header.Geometry.{Geometry}
use Rattle.dscb_codec.specs.declared.Dscb.{Dscb}
use Rattle.dscb_codec.specs.declared.DscbErr.{DscbErr}
use Rattle.vol_model.specs.declared.contents.Run.{Run}
use Rattle.pack_spec.specs.declared.slot.VtocSlot.{VtocSlot}
use Rattle.pack_spec.specs.Label.{label_of, track_bytes}
use Rattle.pack_spec.specs.Rules.{is_f3, is_f4, is_f5_or_f0}
use Rattle.pack_spec.specs.Settled.{is_used}
use Rattle.pack_spec.specs.Slots.{slots_of_vtoc, track_faults}
use Rattle.pack_spec.specs.Vtoc.{vtoc_of}

-- what the slot of a number may hold without a part in the volume: slot 0 format 4, slot 1 a format 5 or none, and the others a format 3 too
abbrev pub is_blank : ℕ → Result Dscb DscbErr → Bool
is_blank zero content = is_f4 content
is_blank (suc zero) content = is_f5_or_f0 content
is_blank (suc (suc k)) content = is_f5_or_f0 content || is_f3 content

-- what a slot holds has no part in the volume: format 4, format 5, nothing, or a format 3 to which no format 1 leads
abbrev pub has_no_part : List VtocSlot → ℕ → VtocSlot → Bool
has_no_part slots k s = is_blank k s.content && not (is_used slots s)

-- Slots that differ from others in what has no part in the volume, before and after.
pub record AreAlike (before after : List VtocSlot) : Type 0 where
  pub addresses : map (λ s. s.address) after ≡ map (λ s. s.address) before
  pub each : (k : ℕ) (s t : VtocSlot) → slice_get before k ≡ Some s → slice_get after k ≡ Some t
      → (t.content ≡ s.content)
      ⊎ ((has_no_part before k s ≡ true) × (is_blank k t.content ≡ true))

-- a track lies in a run
abbrev pub IsIn : Run → ℕ → Type 0
IsIn run track = (run.start ≤ track) × (track < run.start + run.len)

-- Images that differ in the tracks of a VTOC alone.
pub record DifferInVtoc (g : Geometry) (vtoc : Run) (before after : List ℕ) : Type 0 where
  pub size : length after ≡ length before
  pub header : take 512 after ≡ take 512 before
  pub tracks : (track : ℕ) → ¬ IsIn vtoc track
      → track_bytes after g track ≡ track_bytes before g track

-- Images that differ in slots of a VTOC which have no part in the volume.
pub record StandAlike (g : Geometry) (vtoc : Run) (before after : List ℕ) : Type 0 where
  pub others : DifferInVtoc g vtoc before after
  pub label : label_of after g ≡ label_of before g
  pub extent : vtoc_of after g ≡ vtoc_of before g
  pub tracks : track_faults after g vtoc ≡ []
  pub slots : AreAlike (slots_of_vtoc before g vtoc) (slots_of_vtoc after g vtoc)
