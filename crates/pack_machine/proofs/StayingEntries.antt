-- Where the directory of one data set is written, those that stand on the image of the others stay.
use Rattle.std.proofs.Common.{◌≡◌, ◌≢◌, ℕ, List, Some, Result, Ok, inl, inr, sym, ap, ◌∙◌, subst}
use Rattle.std.specs.Prelude.{OnOk, slice_get}
use Rattle.std.proofs.lemmas.Bool.Decides.{eqb_tells}
use Rattle.ckd_image.specs.declared.header.Geometry.{Geometry}
use Rattle.dscb_codec.specs.declared.F1.{F1}
use Rattle.stop_model.specs.Files.{File}
use Rattle.stop_model.specs.Moments.{Meaning}
use Rattle.pack_spec.specs.Blocks.{data_tracks, owned_tracks, upto_last}
use Rattle.pack_spec.specs.Settled.{directory_upto}
use Rattle.pack_spec.specs.Slots.{slots_of_vtoc}
use Rattle.pack_spec.specs.Volume.{data_set_of, volume_of, volume_with}
use Rattle.pack_spec.proofs.BlockBodies.{front_there}
use Rattle.pack_spec.proofs.Lawful.{lawful_volume}
use Rattle.track_records.specs.Buffers.{Buffer}
use Rattle.vol_model.specs.declared.contents.Block.{Block}
use Rattle.vol_model.specs.declared.contents.Body.TheVariants.{Part}
use Rattle.vol_model.specs.declared.contents.DataSet.{DataSet}
use Rattle.vol_model.specs.declared.contents.Entry.{Entry}
use Rattle.vol_model.specs.declared.contents.Place.{Place}
use Rattle.vol_model.specs.declared.contents.Run.{Run}
use Rattle.vol_model.specs.declared.contents.Volume.{Volume}
use Rattle.vol_model.specs.declared.refusals.Refusal.{Refusal}
use Rattle.vol_model.specs.Lawful.{OwnsOnce}
use Rattle.vtoc_index.specs.declared.vol.Vol.{Vol}
use Rattle.vtoc_index.specs.Index.{IsMounted}
use Rattle.vtoc_sets.specs.Sets.{volume_in}
use Rattle.free_rebuild.specs.Operations.{DoesOperation}
use Rattle.free_rebuild.specs.Repairs.{image_named}
use Rattle.pds_directory.specs.declared.dir.Dir.{Dir}
use Rattle.pds_directory.specs.Directories.{IsPartIn, owned_in}
use Rattle.vtoc_sets.proofs.Owners.{read_bytes}
use Rattle.pds_directory.proofs.PackedTracks.{AgreeUpto, ComesFrom, KeepsDirectories, owned_more, sets_apart}
use Rattle.stow_ops.specs.Stores.{DifferOn, directory_tracks}
use Rattle.stow_ops.proofs.DirectoryImages.{DifferOnOwned, same_owned}
use Rattle.stow_ops.proofs.WrittenDirectories.{on_owned}
use Rattle.pack_machine.specs.Standing.{IsDirectoryAt, StandsSo}
use Rattle.pack_machine.proofs.PackedBlocks.{index_set}
use Rattle.pack_machine.proofs.StayingDirectories.{stays_all, stays_one, volume_mounted}
use Rattle.std.proofs.lemmas.Result.{on_ok_weaker}

-- the directory that begins on a track, which isn't the first of this data set, stays where it stands
abbrev pub OtherStays : List ℕ → List ℕ → Vol → F1 → Volume → Volume → Type 0
OtherStays before after v f w w' = (start : ℕ) (dir : Dir) → (slice_get (owned_in before v f) 0 ≡ Some start → ⊥) → IsDirectoryAt before w start dir → IsDirectoryAt after w' start dir

module _ (before after : List ℕ) (v : Vol) (buf : Buffer) (f : F1) (part : IsPartIn before v f) (mounted : IsMounted after (record v { buf = buf })) (differ : DifferOn v.geometry (directory_tracks before v f) before after) where
  abbrev g : Geometry
  g = v.geometry

  abbrev a : List (List ℕ)
  a = data_tracks before g v.vtoc

  abbrev b : List (List ℕ)
  b = data_tracks after g v.vtoc

  abbrev u : Volume
  u = volume_in before v

  abbrev u' : Volume
  u' = volume_in after v

  abbrev set : DataSet
  set = data_set_of g b (slots_of_vtoc after g v.vtoc) f

  stands : volume_of before ≡ Ok u
  stands = part.set.mounted.volume

  once : OwnsOnce u'
  once = (lawful_volume after u' mounted.volume).owned

  place : (j : ℕ) × (slice_get u'.sets j ≡ Some set)
  place = index_set after (record v { buf = buf }) f part.slot mounted part.dscb

  owned : DifferOnOwned v f before after
  owned = on_owned v f before after differ

  -- the set owns the same tracks
  tracks_same : owned_tracks set.extents ≡ owned_in before v f
  unfolding data_set_of
  tracks_same = same_owned before after v f part owned f

  -- the directory of another set has the same records
  other : (k : ℕ) (y : DataSet) (end : Place) → slice_get u'.sets k ≡ Some y → k ≢ place.0 → (from : ComesFrom u.sets y) → AgreeUpto g a b (owned_tracks from.set.extents) end
  other k y end there apart from j t low own =
      let in_y : slice_get (owned_tracks y.extents) j ≡ Some t =
      ap (λ (rs : List Run). slice_get (owned_tracks rs) j) from.extents
      ∙ ap (λ (ts : List ℕ). slice_get ts j) (owned_more from.set.extents from.more)
      ∙ front_there (owned_tracks from.set.extents) (owned_tracks from.more) j t own
      in
      read_bytes g v.vtoc before after (upto_last end j) t (owned.others t (λ n there'.
      sets_apart u' once k place.0 y set there place.1 apart j n t in_y (ap (λ (ts : List ℕ). slice_get ts n) tracks_same ∙ there')))

  -- for the volumes of the indexes
  others_stay : KeepsDirectories u u' → OtherStays before after v f u u'
  unfolding volume_with
  others_stay keeps start dir apart at = stays_all before after u stands u' keeps.geometry keeps.vtoc start dir each
    where
      each : (k n : ℕ) (y : DataSet) (end : Place) (es : List Entry) (bs : List Block) → slice_get u'.sets k ≡ Some y → slice_get (owned_tracks y.extents) 0 ≡ Some start → y.body ≡ Part n end es bs
          → (dir.end ≡ end) × StandsSo (directory_upto u.geometry (data_tracks after u.geometry u.vtoc) (owned_tracks y.extents) end) dir
      each k n y end es bs there first is = elim (eqb_tells k place.0) [
        | inl e ↦ absurd (mine e.1)
        | inr e ↦ stays_one before after u stands start dir y (keeps.sets k y there) n end es bs first is (λ ends. other k y end there e.1 (keeps.sets k y there)) at
      ]
        where
          mine : k ≡ place.0 → ⊥
          mine e =
              let both : Some set ≡ Some y = sym place.1 ∙ ap (slice_get u'.sets) (sym e) ∙ there in
              let is_y : set ≡ y = cc in
              apart (ap (λ (ts : List ℕ). slice_get ts 0) (sym tracks_same) ∙ ap (λ (x : DataSet). slice_get (owned_tracks x.extents) 0) is_y ∙ first)

  -- The directories of the others stay where that of one set is written.
  pub entries_stay : (w w' : Volume) → volume_of before ≡ Ok w → volume_of after ≡ Ok w' → KeepsDirectories w w' → OtherStays before after v f w w'
  entries_stay w w' volume volume' keeps =
      let is_u : w ≡ u = let both : Ok w ≡ Ok u = sym volume ∙ stands in cc in
      let is_u' : w' ≡ u' = let both : Ok w' ≡ Ok u' = sym volume' ∙ mounted.volume in cc in
      subst (λ (x : Volume). OtherStays before after v f x w') (sym is_u)
      (subst (OtherStays before after v f u) (sym is_u')
      (others_stay (subst (λ (x : Volume). KeepsDirectories x u') is_u (subst (KeepsDirectories w) is_u' keeps))))

-- by the contract of an operation on a directory
module _ {T E : Type 0} (name : List ℕ) (operation : Volume → Result Volume Refusal) (v v' : Vol) (same : v' ≡ record v { buf = v'.buf }) (f : F1) (old new : Meaning (List File)) (result : Result T E)
    (part : IsPartIn (image_named old.state name) v f) (keeps : (w w' : Volume) → operation w ≡ Ok w' → KeepsDirectories w w')
    (does : DoesOperation name operation v' (DifferOn v.geometry (directory_tracks (image_named old.state name) v f)) old new result) where
  abbrev image : List ℕ
  image = image_named old.state name

  abbrev image' : List ℕ
  image' = image_named new.state name

  pub operation_stays : OnOk result (OtherStays image image' v f (volume_in image v) (volume_in image' v'))
  operation_stays = on_ok_weaker result (λ done.
      subst (λ (w : Volume). OtherStays image image' v f w (volume_in image' v')) (volume_mounted image v does.volume does.before part.set.mounted)
      (subst (OtherStays image image' v f does.volume) (volume_mounted image' v' done.after done.stands done.index)
      (entries_stay image image' v v'.buf f part (subst (IsMounted image') same done.index) done.changes.image does.volume done.after does.before done.stands (keeps does.volume done.after done.step)))) does.done
