-- Whether the directories on the image of a pack are packed, as a test and as a fact.
use Rattle.std.proofs.Common.{◌≡◌, ℕ, true, List, refl, sym, ap, ◌∙◌}
use Rattle.std.specs.Prelude.{OnOk, Result, Ok, Err}
use Rattle.dadsm_ops.specs.Allocating.{HasDirectory, InNewSet, new_tracks}
use Rattle.dadsm_ops.specs.Operations.{InVtoc, Operates}
use Rattle.ebcdic_names.specs.declared.names.Dsn.{Dsn}
use Rattle.free_rebuild.specs.Repairs.{image_named}
use Rattle.pack_spec.specs.Volume.{volume_of}
use Rattle.pack_spec.specs.declared.MountErr.{MountErr}
use Rattle.pds_directory.specs.Packed.{are_packed, have_packed_if}
use Rattle.pds_directory.proofs.PackedTests.{are_packed_is, are_packed_of}
use Rattle.pds_directory.proofs.PackedTracks.{KeepsDirectories}
use Rattle.stop_model.specs.Files.{File}
use Rattle.stop_model.specs.Moments.{Meaning}
use Rattle.vol_model.specs.declared.answers.StoreErr.{StoreErr}
use Rattle.vol_model.specs.Shelf.{allocate_on}
use Rattle.vol_model.specs.declared.contents.Attr.{Attr}
use Rattle.vol_model.specs.declared.contents.Volume.{Volume}
use Rattle.vol_model.specs.declared.refusals.Refusal.{Refusal}
use Rattle.vol_model.specs.declared.requests.Request.{Request}
use Rattle.vtoc_index.specs.declared.vol.Vol.{Vol}
use Rattle.pack_machine.proofs.PackedNewSets.{new_set_packed}
use Rattle.pack_machine.proofs.PackedVtoc.{IsPackedImage, vtoc_packed}

-- where one image is packed, so is the other
abbrev pub IsStillPacked : List ℕ → List ℕ → Type 0
IsStillPacked before after = are_packed before ≡ true → are_packed after ≡ true

pub packed_image : (image : List ℕ) → are_packed image ≡ true → IsPackedImage image
unfolding are_packed
packed_image image is = by (volume_of image) refl
  where
    by : (r : Result Volume MountErr) → volume_of image ≡ r → IsPackedImage image
    by (Ok w) stands = (w, stands, are_packed_of image w stands is)
    by (Err e) stands = absurd (let wrong = sym (ap (have_packed_if image) stands) ∙ is in cc)

pub image_packed : (image : List ℕ) → IsPackedImage image → are_packed image ≡ true
image_packed image packed = are_packed_is image packed.0 packed.1 packed.2

module _ (name : List ℕ) (m m' : Meaning (List File)) where
  abbrev before : List ℕ
  before = image_named m.state name

  abbrev after : List ℕ
  after = image_named m'.state name

  -- by what an operation leaves of packed images
  still_packed : {T : Type 0} (r : Result T StoreErr) → OnOk r (IsPackedImage before → IsPackedImage after) → OnOk r (IsStillPacked before after)
  still_packed (Ok x) law = λ is. image_packed after (law (packed_image before is))
  still_packed (Err e) law = tt

  -- an operation that changes the VTOC alone, and keeps the directories where they are
  pub vtoc_still : {T : Type 0} (v' : Vol) (operation : Volume → Result Volume Refusal) (r : Result T StoreErr) → ((w w' : Volume) → operation w ≡ Ok w' → KeepsDirectories w w') → Operates name operation v' (InVtoc v') m m' r → OnOk r (IsStillPacked before after)
  vtoc_still v' operation r keeps run = still_packed r (vtoc_packed name v' operation m m' r keeps run.does)

  -- a new set, by the records of its directory
  pub new_still : {T : Type 0} (v' : Vol) (dsn : Dsn) (attr : Attr) (q : Request) (dir : ℕ) (r : Result T StoreErr) → OnOk r (HasDirectory after v'.geometry (new_tracks q dir (volume_of before)) dir)
      → Operates name (allocate_on dsn attr q dir) v' (InNewSet q dir v') m m' r → OnOk r (IsStillPacked before after)
  new_still v' dsn attr q dir r directory run = still_packed r (new_set_packed name dsn attr q dir v' m m' r directory run.does)
