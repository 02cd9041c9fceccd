-- What stops leave in calls that write slots without a part in the volume, in this project's profile.
use Rattle.std.specs.Prelude.{◌≡◌, ◌≢◌, ℕ, List, Some, Ok, Result}
use Rattle.dscb_codec.specs.declared.Dscb.{Dscb}
use Rattle.stop_model.specs.Blocks.{Keeps}
use Rattle.stop_model.specs.Files.{File, file_of}
use Rattle.stop_model.specs.Moments.{Meaning}
use Rattle.pack_spec.specs.Alike.{StandAlike}
use Rattle.pack_spec.specs.Settled.{head_of}
use Rattle.pack_spec.specs.Slots.{slots_of_vtoc}
use Rattle.pack_spec.specs.Vtoc.{vtoc_of}
use Rattle.vtoc_index.specs.Index.{IsIndexOf}
use Rattle.vtoc_index.specs.declared.vol.Vol.{Vol}

-- The image has the shape that an index knows, and these DSCBs in the slots: an index that differs from it in its slots and its buffer alone is the image's.
pub record HoldsSlots (image : List ℕ) (v : Vol) (dscbs : List Dscb) : Type 0 where
  pub index : Vol
  pub others : index ≡ record v { slots = index.slots; buf = index.buf }
  pub items : index.slots.items ≡ dscbs
  pub is : IsIndexOf image index

-- Files of which one, under a name, is alike to an image: it holds slots of the index, its format 4 is the same, and the other files are those of others.
pub record AreAlikeTo (name : List ℕ) (v : Vol) (image : List ℕ) (before : List File)
    (files : List File) : Type 0 where
  pub bytes : List ℕ
  pub there : file_of files name ≡ Some bytes
  pub dscbs : List Dscb
  pub holds : HoldsSlots bytes v dscbs
  pub alike : StandAlike v.geometry v.vtoc image bytes
  pub head : head_of (slots_of_vtoc bytes v.geometry v.vtoc)
      ≡ head_of (slots_of_vtoc image v.geometry v.vtoc)
  pub others : (other : List ℕ) → other ≢ name → file_of files other ≡ file_of before other

-- Writes that share a sync with others, of an index that differs from another in its slots and its buffer alone: where what a stop leaves was alike to an image, it is alike to it still.
abbrev pub KeepsAlike : {T E : Type 0} → List ℕ → Vol → Meaning (List File) → Meaning (List File) → Result T E → Type 0
KeepsAlike name v' old new result = (v : Vol) (image : List ℕ) (before : List File) → v' ≡ record v { slots = v'.slots; buf = v'.buf } → vtoc_of image v.geometry ≡ Ok v.vtoc
    → ((files : List File) → old.left files → AreAlikeTo name v image before files) → Keeps (AreAlikeTo name v image before) new.state old new result
