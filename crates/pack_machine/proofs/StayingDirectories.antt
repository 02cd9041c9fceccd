-- The directories that stand on an image stay where a step keeps them where they are, and so where it changes the VTOC alone.
use Rattle.std.proofs.Common.{◌≡◌, ◌<◌, ℕ, List, [], ◌∷◌, ◌++◌, length, Some, Ok, Result, sym, ap, ◌∙◌, subst, arith}
use Rattle.std.specs.Prelude.{OnOk, slice_get}
use Rattle.ckd_image.specs.declared.header.Geometry.{Geometry}
use Rattle.dadsm_ops.specs.Operations.{InVtoc, Operates}
use Rattle.free_rebuild.specs.Operations.{IsDone}
use Rattle.free_rebuild.specs.Repairs.{image_named}
use Rattle.stop_model.specs.Files.{File}
use Rattle.stop_model.specs.Moments.{Meaning}
use Rattle.pack_spec.specs.Alike.{DifferInVtoc}
use Rattle.pack_spec.specs.Blocks.{data_tracks, owned_tracks, records_in, upto_last}
use Rattle.pack_spec.specs.Settled.{directory_upto}
use Rattle.pack_spec.specs.Volume.{volume_of}
use Rattle.pack_spec.proofs.BlockBodies.{vtoc_tracks}
use Rattle.pds_directory.specs.declared.dir.Dir.{Dir}
use Rattle.pds_directory.proofs.PackedTracks.{AgreeUpto, ComesFrom, KeepsDirectories, directory_more, directory_same, end_by, ends_within, owned_more}
use Rattle.vol_model.specs.declared.answers.StoreErr.{StoreErr}
use Rattle.vol_model.specs.declared.contents.Block.{Block}
use Rattle.vol_model.specs.declared.contents.Body.TheVariants.{Part}
use Rattle.vol_model.specs.declared.contents.DataSet.{DataSet}
use Rattle.vol_model.specs.declared.contents.Entry.{Entry}
use Rattle.vol_model.specs.declared.contents.Place.{Place}
use Rattle.vol_model.specs.declared.contents.Run.{Run}
use Rattle.vol_model.specs.declared.contents.Volume.{Volume}
use Rattle.vol_model.specs.declared.refusals.Refusal.{Refusal}
use Rattle.vtoc_index.specs.Index.{IsMounted}
use Rattle.vtoc_index.specs.declared.vol.Vol.{Vol}
use Rattle.vtoc_sets.specs.Sets.{volume_in}
use Rattle.pack_machine.specs.Standing.{DirectoriesStay, IsDirectoryAt, StandsSo}
use Rattle.pack_machine.proofs.PackedBlocks.{part_from}
use Rattle.pack_machine.proofs.PackedVtoc.{mounted_place}
use Rattle.std.proofs.lemmas.Result.{on_ok_weaker}

-- tracks of which there are some begin as they do with more after them
begins_front : (ts more : List ℕ) (start : ℕ) → 0 < length ts → slice_get (ts ++ more) 0 ≡ Some start → slice_get ts 0 ≡ Some start
begins_front [] more start some is = absurd (omega (arith, some))
begins_front (t ∷ ts) more start some is = is

-- the volume that an image stands for is that of its index
pub volume_mounted : (image : List ℕ) (v : Vol) (w : Volume) → volume_of image ≡ Ok w → IsMounted image v → w ≡ volume_in image v
volume_mounted image v w stands mounted = let both : Ok w ≡ Ok (volume_in image v) = sym stands ∙ mounted.volume in cc

module _ (before after : List ℕ) (w : Volume) (stands : volume_of before ≡ Ok w) where
  abbrev g : Geometry
  g = w.geometry

  abbrev a : List (List ℕ)
  a = data_tracks before g w.vtoc

  abbrev b : List (List ℕ)
  b = data_tracks after g w.vtoc

  -- the directory of one set, which begins where that does from which it comes
  pub stays_one : (start : ℕ) (dir : Dir) (y : DataSet) (from : ComesFrom w.sets y) (n : ℕ) (end : Place) (es : List Entry) (bs : List Block) → slice_get (owned_tracks y.extents) 0 ≡ Some start → y.body ≡ Part n end es bs
      → (end_by from.set.body ≡ Some end → AgreeUpto g a b (owned_tracks from.set.extents) end) → IsDirectoryAt before w start dir → (dir.end ≡ end) × StandsSo (directory_upto g b (owned_tracks y.extents) end) dir
  stays_one start dir y from n end es bs first is agree at =
      let was : end_by from.set.body ≡ Some end = sym from.ends ∙ ap end_by is in
      let part = part_from from.set.body end was in
      let within = ends_within before after w stands from.number from.set end from.there was in
      let old : List ℕ = owned_tracks from.set.extents in
      let more : List ℕ = owned_tracks from.more in
      let owned : owned_tracks y.extents ≡ old ++ more = ap owned_tracks from.extents ∙ owned_more from.set.extents from.more in
      let begins : slice_get old 0 ≡ Some start = begins_front old more start (omega (arith, within)) (ap (λ (ts : List ℕ). slice_get ts 0) (sym owned) ∙ first) in
      let stood = at from.number part.0 from.set end part.1 part.2 from.there begins part.3 in
      let same : directory_upto g b (owned_tracks y.extents) end ≡ directory_upto g a old end =
      ap (λ (ts : List ℕ). directory_upto g b ts end) owned ∙ directory_more g b old more end within ∙ directory_same g a b old end (agree was)
      in
      (stood.0, subst (λ (ds : List Block). StandsSo ds dir) (sym same) stood.1)

  -- those of a volume at the same place
  pub stays_all : (w' : Volume) → w'.geometry ≡ g → w'.vtoc ≡ w.vtoc → (start : ℕ) (dir : Dir)
      → ((k n : ℕ) (y : DataSet) (end : Place) (es : List Entry) (bs : List Block) → slice_get w'.sets k ≡ Some y → slice_get (owned_tracks y.extents) 0 ≡ Some start → y.body ≡ Part n end es bs → (dir.end ≡ end) × StandsSo (directory_upto g b (owned_tracks y.extents) end) dir)
      → IsDirectoryAt after w' start dir
  stays_all w' geometry vtoc start dir each k n y end es bs there first is =
      let stands_so = each k n y end es bs there first is in (
        stands_so.0,
        subst (λ (h : Geometry). StandsSo (directory_upto h (data_tracks after h w'.vtoc) (owned_tracks y.extents) end) dir) (sym geometry)
            (subst (λ (r : Run). StandsSo (directory_upto g (data_tracks after g r) (owned_tracks y.extents) end) dir) (sym vtoc) stands_so.1),
      )

  -- The directories stay where a step keeps them where they are, and each has the same records up to its end.
  pub stays_step : (w' : Volume) → KeepsDirectories w w' → ((k : ℕ) (x : DataSet) (end : Place) → slice_get w.sets k ≡ Some x → end_by x.body ≡ Some end → AgreeUpto g a b (owned_tracks x.extents) end) → DirectoriesStay before after w w'
  stays_step w' keeps agree start dir at = stays_all w' keeps.geometry keeps.vtoc start dir (λ k n y end es bs there first is.
      let from = keeps.sets k y there in stays_one start dir y from n end es bs first is (λ ends. agree from.number from.set end from.there ends) at)

  -- So they do where the image differs in the tracks of the VTOC alone.
  pub stays_vtoc : (w' : Volume) → DifferInVtoc g w.vtoc before after → KeepsDirectories w w' → DirectoriesStay before after w w'
  stays_vtoc w' differ keeps = stays_step w' keeps (λ k x end there is j t low own. ap (λ (ts : List (List ℕ)). records_in g ts (upto_last end j) t) (vtoc_tracks g w.vtoc before after differ))

-- ---- an operation that changes the VTOC alone

module _ (name : List ℕ) (m m' : Meaning (List File)) where
  abbrev image : List ℕ
  image = image_named m.state name

  abbrev image' : List ℕ
  image' = image_named m'.state name

  -- where it is done
  vtoc_done : (v' : Vol) (stepped : Result Volume Refusal) (w : Volume) → volume_of image ≡ Ok w → ((w' : Volume) → stepped ≡ Ok w' → KeepsDirectories w w') → IsDone name stepped v' (InVtoc v') m.state m' → DirectoriesStay image image' w (volume_in image' v')
  vtoc_done v' stepped w stands keeps done =
      let kept = keeps done.after done.step in
      let place = mounted_place image' v' done.after done.index done.stands in
      let geometry : v'.geometry ≡ w.geometry = sym place.0 ∙ kept.geometry in
      let vtoc : v'.vtoc ≡ w.vtoc = sym place.1 ∙ kept.vtoc in
      let differ : DifferInVtoc w.geometry w.vtoc image image' =
      subst (λ (h : Geometry). DifferInVtoc h w.vtoc image image') geometry (subst (λ (r : Run). DifferInVtoc v'.geometry r image image') vtoc done.changes.image)
      in
      subst (DirectoriesStay image image' w) (volume_mounted image' v' done.after done.stands done.index) (stays_vtoc image image' w stands done.after differ kept)

  -- The directories stay where it keeps them where they are.
  pub vtoc_stays : {T : Type 0} (v v' : Vol) (operation : Volume → Result Volume Refusal) (r : Result T StoreErr) → IsMounted image v → ((w w' : Volume) → operation w ≡ Ok w' → KeepsDirectories w w') → Operates name operation v' (InVtoc v') m m' r
      → OnOk r (DirectoriesStay image image' (volume_in image v) (volume_in image' v'))
  vtoc_stays v v' operation r mounted keeps run = on_ok_weaker r (λ done.
      subst (λ (w : Volume). DirectoriesStay image image' w (volume_in image' v')) (volume_mounted image v run.does.volume run.does.before mounted)
      (vtoc_done v' (operation run.does.volume) run.does.volume run.does.before (keeps run.does.volume) done)) run.does.done
