-- The tracks that a partitioned data set owns, as those of any data set.
use Rattle.std.proofs.Common.{◌≡◌, ◌≢◌, ◌<◌, ◌≤◌, ℕ, false, List, length, Option, Some}
use Rattle.std.specs.Prelude.{slice_get}
use Rattle.dscb_codec.specs.declared.F1.{F1}
use Rattle.pack_spec.specs.declared.slot.VtocSlot.{VtocSlot}
use Rattle.pack_spec.specs.Alike.{IsIn}
use Rattle.pack_spec.specs.Blocks.{owned_tracks, records_in}
use Rattle.pack_spec.specs.Label.{records_on, tracks_of}
use Rattle.vol_model.specs.declared.contents.Run.{Run}
use Rattle.vol_model.specs.Space.{is_in}
use Rattle.vtoc_index.specs.declared.vol.Vol.{Vol}
use Rattle.vtoc_sets.specs.Sets.{IsSetIn}
use Rattle.vtoc_sets.proofs.DataPlaces as places
use Rattle.vtoc_sets.proofs.OwnedSets as sets
use Rattle.vtoc_sets.proofs.Owners.{all_of, owners}
use Rattle.pds_directory.specs.Directories.{IsPartIn, data_in, owned_in}

module _ (image : List ℕ) (v : Vol) (f : F1) (part : IsPartIn image v f) where
  pub as_set : IsSetIn image v f
  as_set = record { set = part.set; slot = part.slot; dscb = part.dscb }

  -- the slots, the format 1s of the data sets in them, and the runs of one
  abbrev pub slots : List VtocSlot
  slots = sets.slots image v f as_set

  abbrev pub fs : List F1
  fs = sets.fs image v f as_set

  abbrev pub runs : F1 → List Run
  runs = sets.runs image v f as_set

  abbrev pub among : (m : ℕ) × (slice_get fs m ≡ Some f)
  among = sets.among image v f as_set

  pub sets_once : (t : ℕ) → owners t (all_of runs fs) ≤ 1
  sets_once = sets.sets_once image v f as_set

  pub set_out : (x : F1) (n k t : ℕ) → slice_get fs n ≡ Some x → slice_get (owned_tracks (runs x)) k ≡ Some t → is_in t v.vtoc ≡ false
  set_out = sets.set_out image v f as_set

  pub outside : (k t : ℕ) → slice_get (owned_in image v f) k ≡ Some t → is_in t v.vtoc ≡ false
  outside = sets.outside image v f as_set

  pub not_in_vtoc : (k t : ℕ) → slice_get (owned_in image v f) k ≡ Some t → IsIn v.vtoc t → ⊥
  not_in_vtoc = sets.not_in_vtoc image v f as_set

  pub not_first : (k : ℕ) → slice_get (owned_in image v f) k ≡ Some 0 → ⊥
  not_first = sets.not_first image v f as_set

  pub own_once : (j k t : ℕ) → slice_get (owned_in image v f) j ≡ Some t → slice_get (owned_in image v f) k ≡ Some t → j ≡ k
  own_once = sets.own_once image v f as_set

  pub own_inside : (k t : ℕ) → slice_get (owned_in image v f) k ≡ Some t → t < tracks_of v.geometry
  own_inside = sets.own_inside image v f as_set

  pub others_apart : (x : F1) (n j k t : ℕ) → slice_get fs n ≡ Some x → n ≢ among.0 → slice_get (owned_tracks (runs x)) k ≡ Some t → slice_get (owned_in image v f) j ≡ Some t → ⊥
  others_apart = sets.others_apart image v f as_set

  pub records_are : (upto : Option ℕ) (k t : ℕ) → slice_get (owned_in image v f) k ≡ Some t → t < tracks_of v.geometry → records_in v.geometry (data_in image v) upto t ≡ records_on image v.geometry upto t
  records_are = places.records_are image v f as_set

  pub few_owned_tracks : length (owned_in image v f) < 65535
  few_owned_tracks = places.few_owned_tracks image v f as_set
