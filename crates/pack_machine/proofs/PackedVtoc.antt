-- An operation that changes the VTOC of an image alone, and keeps the directories of its volume where they are, keeps them packed.
use Rattle.std.proofs.Common.{◌≡◌, ℕ, List, sym, ap, subst, ◌∙◌}
use Rattle.std.specs.Prelude.{Result, Ok, Err, OnOk}
use Rattle.ckd_image.specs.declared.header.Geometry.{Geometry}
use Rattle.stop_model.specs.Files.{File}
use Rattle.stop_model.specs.Moments.{Meaning}
use Rattle.pack_spec.specs.Alike.{DifferInVtoc}
use Rattle.pack_spec.specs.Settled.{ArePacked, IsSettled, IsSettledVtoc}
use Rattle.pack_spec.specs.Volume.{volume_by, volume_of, volume_with}
use Rattle.vol_model.specs.declared.contents.Run.{Run}
use Rattle.vol_model.specs.declared.contents.Volume.{Volume}
use Rattle.vol_model.specs.declared.refusals.Refusal.{Refusal}
use Rattle.vtoc_index.specs.declared.vol.Vol.{Vol}
use Rattle.vtoc_index.specs.Index.{IsMounted}
use Rattle.free_rebuild.specs.Operations.{DoesOperation, IsDone}
use Rattle.free_rebuild.specs.Repairs.{image_named}
use Rattle.pds_directory.proofs.PackedTracks.{KeepsDirectories, packed_vtoc}
use Rattle.dadsm_ops.specs.Operations.{InVtoc}
use Rattle.std.proofs.lemmas.Result.{on_ok_weaker}

-- an image stands for a volume, and each of its directories that can be read is packed
abbrev pub IsPackedImage : List ℕ → Type 0
IsPackedImage image = (volume : Volume) × (volume_of image ≡ Ok volume) × ArePacked image volume

same_volume : (image : List ℕ) (w u : Volume) → volume_of image ≡ Ok w → volume_of image ≡ Ok u → w ≡ u
same_volume image w u one two = let both : Ok w ≡ Ok u = sym one ∙ two in cc

pub packed_of : (image : List ℕ) (w : Volume) → volume_of image ≡ Ok w → IsPackedImage image → ArePacked image w
packed_of image w stands is = subst (ArePacked image) (same_volume image is.0 w is.1 stands) is.2

-- it is settled where its VTOC is, too
pub settled_both : (image : List ℕ) → IsSettledVtoc image → IsPackedImage image → IsSettled image
settled_both image settled packed = (settled.0, settled.1, settled.2, packed_of image settled.0 settled.1 packed)

pub settled_parts : (image : List ℕ) → IsSettled image → IsSettledVtoc image × IsPackedImage image
settled_parts image is = ((is.0, is.1, is.2), (is.0, is.1, is.3))

-- the geometry and the VTOC of a mounted volume are those of its index
pub mounted_place : (image : List ℕ) (v : Vol) (w : Volume) → IsMounted image v → volume_of image ≡ Ok w → (w.geometry ≡ v.geometry) × (w.vtoc ≡ v.vtoc)
unfolding volume_with
mounted_place image v w mounted stands =
    let same : w ≡ volume_by image v.geometry v.vtoc = same_volume image w (volume_by image v.geometry v.vtoc) stands mounted.volume in
    (ap (λ (x : Volume). x.geometry) same, ap (λ (x : Volume). x.vtoc) same)

pub on_both : {T E P Q R : Type 0} (result : Result T E) → (P → Q → R) → OnOk result P → OnOk result Q → OnOk result R
on_both (Ok x) follows one two = follows one two
on_both (Err e) follows one two = tt

module _ (name : List ℕ) (v' : Vol) where
  -- where the operation is done
  pub vtoc_done : (stepped : Result Volume Refusal) (before : List File) (new : Meaning (List File)) (w : Volume) → volume_of (image_named before name) ≡ Ok w
      → ((w' : Volume) → stepped ≡ Ok w' → KeepsDirectories w w') → (done : IsDone name stepped v' (InVtoc v') before new) → ArePacked (image_named before name) w → ArePacked (image_named new.state name) done.after
  vtoc_done stepped before new w stands keeps done packed =
      let image : List ℕ = image_named before name in
      let image' : List ℕ = image_named new.state name in
      let kept = keeps done.after done.step in
      let place = mounted_place image' v' done.after done.index done.stands in
      let geometry : v'.geometry ≡ w.geometry = sym place.0 ∙ kept.geometry in
      let vtoc : v'.vtoc ≡ w.vtoc = sym place.1 ∙ kept.vtoc in
      let differ : DifferInVtoc w.geometry w.vtoc image image' =
      subst (λ (g : Geometry). DifferInVtoc g w.vtoc image image') geometry (subst (λ (r : Run). DifferInVtoc v'.geometry r image image') vtoc done.changes.image)
      in
      packed_vtoc image image' w stands done.after differ kept packed

  module _ {T E : Type 0} (operation : Volume → Result Volume Refusal) (old new : Meaning (List File)) (result : Result T E) (keeps : (w w' : Volume) → operation w ≡ Ok w' → KeepsDirectories w w') (does : DoesOperation name operation v' (InVtoc v') old new result) where
    pub vtoc_packed : OnOk result (IsPackedImage (image_named old.state name) → IsPackedImage (image_named new.state name))
    vtoc_packed = on_ok_weaker result (λ done was. (
      done.after,
      done.stands,
      vtoc_done (operation does.volume) old.state new does.volume does.before (keeps does.volume) done (packed_of (image_named old.state name) does.volume does.before was),
    )) does.done

    pub vtoc_settled : OnOk result (IsSettled (image_named old.state name) → IsSettled (image_named new.state name))
    vtoc_settled = on_both result (λ settles packs was.
        let parts = settled_parts (image_named old.state name) was in
        settled_both (image_named new.state name) (settles parts.0) (packs parts.1)) does.settled vtoc_packed
