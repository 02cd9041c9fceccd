-- Where the directory of one data set is written, and is packed then, the others stay packed.
use Rattle.std.proofs.Common.{◌≡◌, ◌≢◌, ℕ, List, Some, None, Result, Ok, inl, inr, sym, ap, ◌∙◌, subst}
use Rattle.std.specs.Prelude.{OnOk, slice_get}
use Rattle.std.proofs.lemmas.Bool.Decides.{eqb_tells}
use Rattle.ckd_image.specs.declared.header.Geometry.{Geometry}
use Rattle.dscb_codec.specs.declared.F1.{F1}
use Rattle.stop_model.specs.Files.{File}
use Rattle.stop_model.specs.Moments.{Meaning}
use Rattle.pack_spec.specs.Blocks.{data_tracks, owned_tracks, upto_last}
use Rattle.pack_spec.specs.Directories.{part_body}
use Rattle.pack_spec.specs.Settled.{ArePacked, HasPacked, IsPacked, IsSettled, directory_upto}
use Rattle.pack_spec.specs.Slots.{slots_of_vtoc}
use Rattle.pack_spec.specs.Volume.{attr_of, data_set_of, volume_by, volume_of, volume_with}
use Rattle.pack_spec.proofs.BlockBodies.{front_there}
use Rattle.pack_spec.proofs.BodyKinds.{partitioned_body}
use Rattle.pack_spec.proofs.Lawful.{lawful_volume}
use Rattle.pack_spec.proofs.PartBodies.{part_end}
use Rattle.track_records.specs.Buffers.{Buffer}
use Rattle.vol_model.specs.declared.contents.DataSet.{DataSet}
use Rattle.vol_model.specs.declared.contents.Place.{Place}
use Rattle.vol_model.specs.declared.contents.Run.{Run}
use Rattle.vol_model.specs.declared.contents.Volume.{Volume}
use Rattle.vol_model.specs.declared.refusals.Refusal.{Refusal}
use Rattle.vol_model.specs.Lawful.{OwnsOnce}
use Rattle.vol_model.specs.Shelf.{unreadable}
use Rattle.vtoc_index.specs.declared.vol.Vol.{Vol}
use Rattle.vtoc_index.specs.Index.{IsMounted}
use Rattle.vtoc_sets.specs.Sets.{extents_in}
use Rattle.free_rebuild.specs.Operations.{DoesOperation}
use Rattle.free_rebuild.specs.Repairs.{image_named}
use Rattle.pds_directory.specs.Directories.{IsPartIn, data_in, end_in, owned_in, part_in}
use Rattle.stow_ops.specs.Stores.{DifferOn, directory_tracks}
use Rattle.stow_ops.proofs.DirectoryImages.{DifferOnOwned, same_owned}
use Rattle.stow_ops.proofs.WrittenDirectories.{on_owned}
use Rattle.vtoc_sets.proofs.Owners.{read_bytes}
use Rattle.pds_directory.proofs.PackedTracks.{ComesFrom, KeepsDirectories, end_by, owned_more, packed_all, packed_if, packed_one, same_keeps, sets_apart}
use Rattle.pack_machine.proofs.PackedBlocks.{index_set, part_from}
use Rattle.pack_machine.proofs.PackedVtoc.{IsPackedImage, on_both, packed_of, settled_both, settled_parts}

module _ (before after : List ℕ) (v : Vol) (buf : Buffer) (f : F1) (part : IsPartIn before v f) (mounted : IsMounted after (record v { buf = buf })) (differ : DifferOn v.geometry (directory_tracks before v f) before after)
    (w' : Volume) (stands' : volume_of after ≡ Ok w')
    (mine : unreadable (part_in after v f) ≡ None → IsPacked (directory_upto v.geometry (data_in after v) (owned_in after v f) (end_in after v f))) where
  abbrev g : Geometry
  g = v.geometry

  abbrev b : List (List ℕ)
  b = data_tracks after g v.vtoc

  abbrev u : Volume
  u = volume_by before g v.vtoc

  abbrev u' : Volume
  u' = volume_by after g v.vtoc

  abbrev set : DataSet
  set = data_set_of g b (slots_of_vtoc after g v.vtoc) f

  stands : volume_of before ≡ Ok u
  stands = part.set.mounted.volume

  is_u' : u' ≡ w'
  is_u' = let both : Ok u' ≡ Ok w' = sym mounted.volume ∙ stands' in cc

  place : (j : ℕ) × (slice_get u'.sets j ≡ Some set)
  place = index_set after (record v { buf = buf }) f part.slot mounted part.dscb

  owned : DifferOnOwned v f before after
  owned = on_owned v f before after differ

  -- the directory that is written
  own : HasPacked g b set.extents set.body
  unfolding data_set_of
  own = packed_if g b (extents_in after v f) set.body (λ end is.
      let body : part_body g b (extents_in after v f) f.lstar ≡ set.body = sym (partitioned_body g b f.name (attr_of f) (extents_in after v f) f.lstar part.partitioned) in
      let at = part_from (part_body g b (extents_in after v f) f.lstar) end (ap end_by body ∙ is) in
      let end_is : end_in after v f ≡ end = part_end g b (extents_in after v f) f.lstar at.0 end at.1 at.2 at.3 in
      subst (λ (p : Place). IsPacked (directory_upto g b (owned_in after v f) p)) end_is (mine (ap unreadable at.3)))

  -- that of another set
  other : (once : OwnsOnce u') (k : ℕ) (y : DataSet) → slice_get u'.sets k ≡ Some y → k ≢ place.0 → ComesFrom u.sets y → ArePacked before u → HasPacked g b y.extents y.body
  unfolding volume_with data_set_of
  other once k y there apart from packed = packed_one before after u stands y from (λ end is j t low own.
      let in_y : slice_get (owned_tracks y.extents) j ≡ Some t =
      ap (λ (rs : List Run). slice_get (owned_tracks rs) j) from.extents
      ∙ ap (λ (ts : List ℕ). slice_get ts j) (owned_more from.set.extents from.more)
      ∙ front_there (owned_tracks from.set.extents) (owned_tracks from.more) j t own
      in
      read_bytes g v.vtoc before after (upto_last end j) t (owned.others t (λ n there'.
      sets_apart u' once k place.0 y set there place.1 apart j n t in_y (ap (λ (ts : List ℕ). slice_get ts n) (same_owned before after v f part owned f) ∙ there')))) packed

  all_packed : KeepsDirectories u u' → ArePacked before u → ArePacked after u'
  unfolding volume_with
  all_packed keeps packed = packed_all before after u stands u' keeps.geometry keeps.vtoc each
    where
      once : OwnsOnce u'
      once = (lawful_volume after u' mounted.volume).owned

      each : (k : ℕ) (y : DataSet) → slice_get u'.sets k ≡ Some y → HasPacked u.geometry (data_tracks after u.geometry u.vtoc) y.extents y.body
      each k y there = elim (eqb_tells k place.0) [
        | inl e ↦ same e.1
        | inr e ↦ other once k y there e.1 (keeps.sets k y there) packed
      ]
        where
          same : k ≡ place.0 → HasPacked g b y.extents y.body
          same e =
              let both : Some set ≡ Some y = sym place.1 ∙ ap (slice_get u'.sets) (sym e) ∙ there in
              let is : set ≡ y = cc in
              subst (λ (x : DataSet). HasPacked g b x.extents x.body) is own

  -- The directories stay packed where that of one set is written, and is packed then.
  pub packed_entries : (w : Volume) → volume_of before ≡ Ok w → KeepsDirectories w w' → ArePacked before w → ArePacked after w'
  packed_entries w volume keeps packed =
      let is_u : w ≡ u = let both : Ok w ≡ Ok u = sym volume ∙ stands in cc in
      subst (ArePacked after) is_u'
      (all_packed (subst (λ (x : Volume). KeepsDirectories x u') is_u (subst (KeepsDirectories w) (sym is_u') keeps)) (subst (ArePacked before) is_u packed))

-- an operation that leaves the volume as it is keeps its directories where they are
pub unchanged_keeps : (w w' : Volume) → (let r : Result Volume Refusal = Ok w in r) ≡ Ok w' → KeepsDirectories w w'
unchanged_keeps w w' is = let same : w ≡ w' = cc in subst (KeepsDirectories w) same (same_keeps w)

-- by the contract of an operation on a directory
module _ {T E : Type 0} (name : List ℕ) (operation : Volume → Result Volume Refusal) (v v' : Vol) (same : v' ≡ record v { buf = v'.buf }) (f : F1) (old new : Meaning (List File)) (result : Result T E)
    (part : IsPartIn (image_named old.state name) v f) (keeps : (w w' : Volume) → operation w ≡ Ok w' → KeepsDirectories w w')
    (packs : OnOk result (unreadable (part_in (image_named new.state name) v' f) ≡ None
    → IsPacked (directory_upto v'.geometry (data_in (image_named new.state name) v') (owned_in (image_named new.state name) v' f) (end_in (image_named new.state name) v' f))))
    (does : DoesOperation name operation v' (DifferOn v.geometry (directory_tracks (image_named old.state name) v f)) old new result) where
  abbrev image : List ℕ
  image = image_named old.state name

  abbrev image' : List ℕ
  image' = image_named new.state name

  abbrev IsMine : Vol → Type 0
  IsMine x = unreadable (part_in image' x f) ≡ None → IsPacked (directory_upto x.geometry (data_in image' x) (owned_in image' x f) (end_in image' x f))

  pub entries_packed : OnOk result (IsPackedImage image → IsPackedImage image')
  entries_packed = on_both result (λ done mine was. (
    done.after,
    done.stands,
    packed_entries image image' v v'.buf f part (subst (IsMounted image') same done.index) done.changes.image done.after done.stands (subst IsMine same mine)
        does.volume does.before (keeps does.volume done.after done.step) (packed_of image does.volume does.before was),
  )) does.done packs

  pub entries_settled : OnOk result (IsSettled image → IsSettled image')
  entries_settled = on_both result (λ settles packed was.
      let parts = settled_parts image was in
      settled_both image' (settles parts.0) (packed parts.1)) does.settled entries_packed
