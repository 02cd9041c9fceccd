-- What writes of slots leave that are made durable, in this project's profile.
use Rattle.std.specs.Prelude.{◌≡◌, ◌≢◌, ℕ, List, length, Some, Ok, Result, OnOk}
use Rattle.dscb_codec.specs.declared.Dscb.{Dscb}
use Rattle.dscb_codec.specs.Layout.{decoded}
use Rattle.stop_model.specs.Files.{File, file_of, patched}
use Rattle.stop_model.specs.Moments.{Meaning, IsDurable, Elapses}
use Rattle.stop_model.specs.Steps.{StepTo}
use Rattle.pack_spec.specs.FreeChain.{entries_of}
use Rattle.pack_spec.specs.Label.{heads_of}
use Rattle.pack_spec.specs.Vtoc.{vtoc_of}
use Rattle.vtoc_index.specs.Index.{IsIndexOf, IsPut, address_in, place_of_slot}
use Rattle.vtoc_index.specs.declared.vol.Vol.{Vol}
use Rattle.free_rebuild.specs.Chain.{chained}
use Rattle.free_rebuild.specs.Clearing.{AreCleared}
use Rattle.free_rebuild.specs.Repairs.{image_named}
use Rattle.free_rebuild.specs.Stops.{AreAlikeTo}

-- Files differ in the image of this name alone, and that in one slot of its VTOC, which holds the DSCB of these bytes.
pub record HaveSlot (name : List ℕ) (v : Vol) (slot : ℕ) (d : Dscb) (bytes : List ℕ)
    (before after : List File) : Type 0 where
  pub others : (other : List ℕ) → other ≢ name → file_of after other ≡ file_of before other
  pub there : file_of after name
      ≡ Some (patched (image_named before name) (place_of_slot v slot) bytes)
  pub image : IsPut v slot d (image_named before name)
      (patched (image_named before name) (place_of_slot v slot) bytes)

-- A DSCB is put into a slot and made durable: a stop leaves the files as before, or with that slot.
-- Where it is done, the files have it durably, and the index is the image's.
pub record PutsDurably {T E : Type 0} (name : List ℕ) (v : Vol) (slot : ℕ) (d : Dscb) (v' : Vol)
    (old new : Meaning (List File)) (result : Result T E) : Type 0 where
  pub bytes : List ℕ
  pub dscb : decoded bytes ≡ Ok d
  pub size : length bytes ≡ 140
  pub after : List File
  pub put : HaveSlot name v slot d bytes old.state after
  pub step : StepTo (λ files. files) after old new result
  pub index : OnOk result (IsIndexOf (image_named new.state name) v')

-- Calls, done or failed, in which each stop leaves what has Q; once they are done the state has it durably.
pub record LeavesAll {X T E : Type 0} (Q : X → Type 0) (old new : Meaning X)
    (result : Result T E) : Type 0 where
  pub done : OnOk result (IsDurable new × Q new.state)
  pub printed : new.printed ≡ old.printed
  pub moments : Elapses old new (λ x p. Q x × (p ≡ old.printed))

-- Writes of an index that differs from another in its slots and its buffer alone, made durable: where the files were alike to an image, each stop leaves them alike to it.
abbrev pub StaysAlike : {T E : Type 0} → List ℕ → Vol → Meaning (List File) → Meaning (List File) → Result T E → Type 0
StaysAlike name v' old new result = (v : Vol) (image : List ℕ) (before : List File) → v' ≡ record v { slots = v'.slots; buf = v'.buf } → vtoc_of image v.geometry ≡ Ok v.vtoc
    → AreAlikeTo name v image before old.state → LeavesAll (AreAlikeTo name v image before) old new result

-- The slots of an index, cleared where they hold what belongs to nothing, and then with the chain that lists its free runs.
pub record IsRewritten (v : Vol) (after : List Dscb) : Type 0 where
  pub cleared : List Dscb
  pub clears : AreCleared (address_in v) (length v.slots.items) v.slots.items cleared
  pub chain : after ≡ chained (address_in v) cleared 1 (entries_of (heads_of v.geometry) v.free.items)
