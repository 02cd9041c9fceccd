-- The records of a data set's tracks are those of the data tracks, and it has fewer tracks than a TTR can say.
use Rattle.std.proofs.Common.{◌≡◌, ◌<◌, ◌/◌, ◌%◌, ℕ, Bool, cond, List, [], length, take, Option, Some, None, ap, ◌∙◌, arith, option_and_then}
use Rattle.std.specs.Prelude.{◌==◌, ◌&&◌, nat_le, slice_get}
use Rattle.std.specs.List.{list_all, sum_by}
use Rattle.std.proofs.lemmas.Bool.{and_parts}
use Rattle.std.proofs.lemmas.List.Concat.{length-flat_map}
use Rattle.std.proofs.lemmas.List.FromFn.{get_or-map-range_with_len, length-range_with_len}
use Rattle.ckd_image.specs.Reading.{records_of}
use Rattle.ckd_image.specs.Track.{Record}
use Rattle.ckd_image.proofs.GeometryLemmas.{has_geometry}
use Rattle.dscb_codec.specs.declared.F1.{F1}
use Rattle.pack_spec.specs.declared.slot.VtocSlot.{VtocSlot}
use Rattle.pack_spec.specs.Blocks.{blocks_at, blocks_of, blocks_on, data_track, data_tracks, owned_tracks, records_in, upto_last}
use Rattle.pack_spec.specs.Label.{heads_of, records_on, track_bytes, tracks_of}
use Rattle.pack_spec.specs.Rules.{counted_extents, has_extents}
use Rattle.pack_spec.specs.Slots.{slots_of_vtoc, tracks_in}
use Rattle.pack_spec.specs.Vtoc.{is_extent}
use Rattle.pack_spec.proofs.OwnedAmounts.{few_owned}
use Rattle.vol_model.specs.declared.contents.Block.{Block}
use Rattle.vol_model.specs.declared.contents.Place.{Place}
use Rattle.vol_model.specs.declared.contents.Run.{Run}
use Rattle.vol_model.specs.Places as places
use Rattle.vtoc_index.proofs.GoodSets.{all_on_pack}
use Rattle.vtoc_index.specs.declared.vol.Vol.{Vol}
use Rattle.vtoc_sets.specs.Sets.{IsSetIn, data_in, extents_in, owned_in}
use Rattle.vtoc_sets.proofs.OwnedSets.{mine_once, outside}

-- the blocks that the records of a relative track are, if they are read
abbrev pub blocks_by : Place → ℕ → Option (List Record) → Option (List Block)
blocks_by last k o = cond ((k == last.tt) && (last.r == 0)) None (option_and_then (blocks_of k) o)

module _ (image : List ℕ) (v : Vol) (f : F1) (set : IsSetIn image v f) where
  abbrev slots : List VtocSlot
  slots = slots_of_vtoc image v.geometry v.vtoc

  pub records_are : (upto : Option ℕ) (k t : ℕ) → slice_get (owned_in image v f) k ≡ Some t → t < tracks_of v.geometry → records_in v.geometry (data_in image v) upto t ≡ records_on image v.geometry upto t
  unfolding records_in records_on data_tracks
  records_are upto k t is inside =
      ap (records_of (t / heads_of v.geometry) (t % heads_of v.geometry) upto)
      (get_or-map-range_with_len (data_track image v.geometry v.vtoc) 0 (tracks_of v.geometry) t t [] inside (omega arith)
      ∙ ap (λ (b : Bool). cond b [] (track_bytes image v.geometry t)) (outside image v f set k t is))

  -- the blocks on a relative track are its records
  pub blocks_are : (last : Place) (k t : ℕ) → slice_get (owned_in image v f) k ≡ Some t → t < tracks_of v.geometry → blocks_at v.geometry (data_in image v) (owned_in image v f) last k ≡ blocks_by last k (records_on image v.geometry (upto_last last k) t)
  unfolding blocks_at blocks_on
  blocks_are last k t is inside =
      ap (option_and_then (blocks_on v.geometry (data_in image v) last k)) is
      ∙ ap (λ (o : Option (List Record)). blocks_by last k o) (records_are (upto_last last k) k t is inside)

  -- none are on one that the set doesn't own
  pub blocks_none : (last : Place) (k : ℕ) → slice_get (owned_in image v f) k ≡ None → blocks_at v.geometry (data_in image v) (owned_in image v f) last k ≡ None
  unfolding blocks_at
  blocks_none last k is = ap (option_and_then (blocks_on v.geometry (data_in image v) last k)) is

  -- a TTR can say each of its tracks
  few_tracks : places.tracks_in (extents_in image v f) < 65535
  unfolding has_extents
  few_tracks =
      let parts = and_parts (nat_le f.extents 16) (list_all (is_extent v.geometry) (counted_extents slots f)) set.set.extents in
      few_owned v.geometry (extents_in image v f) (has_geometry (take 512 image) (length image) v.geometry set.set.mounted.index.header).most
      (all_on_pack v.geometry (counted_extents slots f) parts.1)
      (mine_once image v f set)

  pub few_owned_tracks : length (owned_in image v f) < 65535
  unfolding owned_tracks
  few_owned_tracks =
      let xs : List Run = extents_in image v f in
      let many : length (owned_in image v f) ≡ places.tracks_in xs = length-flat_map tracks_in xs ∙ ap (λ (e : Run → ℕ). sum_by e xs) (λ i r. length-range_with_len r.start r.len i) in
      omega (arith, many, few_tracks)
