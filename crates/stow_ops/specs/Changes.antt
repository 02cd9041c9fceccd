-- A directory of which one entry changes, and what the change leaves, in this project's profile.
use Rattle.std.specs.Prelude.{◌≡◌, ℕ, Bool, List, true, is_some, slice_get, IfOk, IsErrOf, IsTrue, OnErr, OnOk, Result, Some, Vec}
use Rattle.std.specs.declared.alloc.Global.{Global}
use Rattle.chain_spec.specs.Kept.{joined, kept}
use Rattle.dscb_codec.specs.declared.Dscb.TheVariants as formats
use Rattle.dscb_codec.specs.declared.F1.{F1}
use Rattle.ebcdic_names.specs.declared.names.Dsn.{Dsn}
use Rattle.hall_core.specs.Facts.{Facts, unit_of}
use Rattle.hall_core.specs.Images.{image_in}
use Rattle.stop_model.specs.Files.{File}
use Rattle.stop_model.specs.Moments.{IsDurable, Meaning}
use Rattle.pack_spec.specs.Directories.{name_number}
use Rattle.vol_model.specs.declared.answers.StoreErr.{StoreErr}
use Rattle.vol_model.specs.declared.answers.StoreErr.TheVariants.{Device}
use Rattle.vol_model.specs.declared.contents.Entry.{Entry}
use Rattle.vol_model.specs.declared.contents.Volume.{Volume}
use Rattle.vol_model.specs.declared.refusals.Refusal.{Refusal}
use Rattle.vtoc_index.specs.Index.{IsMounted, IsOfUnit}
use Rattle.vtoc_index.specs.Names.{name_at}
use Rattle.vtoc_index.specs.declared.vol.Vol.{Vol}
use Rattle.pds_directory.specs.declared.dir.Dir.{Dir}
use Rattle.pds_directory.specs.Directories.{IsLawfulDir, IsPacked, IsReadIn, IsReadablePart, directory_in, entries_read}
use Rattle.free_rebuild.specs.Operations.{Operates, StoreCall}
use Rattle.stow_ops.specs.Stores.{DifferOn, directory_tracks}

-- A slot holds the format 1 of a partitioned data set. Its body can be read; its directory is packed, and this one; no write is pending.
pub record HasDir (tells : Bool) (facts : Facts) (m : Meaning (List File)) (v : Vol) (slot : ℕ) (dir : Dir) : Type 0 where
  pub unit : IsOfUnit facts.units v
  pub set : is_some (name_at v.slots.items slot) ≡ true
  pub part : IsTrue tells → (f : F1) → slice_get v.slots.items slot ≡ Some (formats.F1 f)
      → IsReadablePart (image_in m facts v.unit) v f
  pub packed : IsTrue tells → (f : F1) → slice_get v.slots.items slot ≡ Some (formats.F1 f)
      → IsPacked (directory_in (image_in m facts v.unit) v f)
  pub lawful : IsLawfulDir dir
  pub read : IsTrue tells → (f : F1) → slice_get v.slots.items slot ≡ Some (formats.F1 f)
      → IsReadIn (image_in m facts v.unit) v f dir
  pub durable : IsTrue tells → IsDurable m

-- What an operation on the directory of the data set in a slot leaves: the image that it makes, and the directory as it stands there.
pub record ChangesDir (tells : Bool) (operation : Dsn → Volume → Result Volume Refusal) (facts facts' : Facts)
    (m m' : Meaning (List File)) (v v' : Vol) (slot : ℕ) (dir dir' : Dir)
    (result : Result (Vec Entry Global) StoreErr) : Type 0 where
  pub files : IsTrue tells → (f : F1) → slice_get v.slots.items slot ≡ Some (formats.F1 f)
      → Operates (unit_of facts.units v.unit).name (operation (record { bytes = f.name })) v'
      (DifferOn v.geometry (directory_tracks (image_in m facts v.unit) v f)) m m' result
  pub packed : IsTrue tells → (f : F1) → slice_get v.slots.items slot ≡ Some (formats.F1 f)
      → OnOk result (IsPacked (directory_in (image_in m' facts' v.unit) v' f))
  pub read : IsTrue tells → (f : F1) → slice_get v.slots.items slot ≡ Some (formats.F1 f)
      → OnOk result (IsReadIn (image_in m' facts' v.unit) v' f dir')
  pub lawful : IsLawfulDir dir'
  pub entries : IfOk result (λ es. es.items ≡ kept name_number (joined (entries_read dir')))
  pub stays : OnErr result (dir' ≡ dir)
  -- unless the device failed
  pub mounted : IsTrue tells → ¬ IsErrOf result Device → IsMounted (image_in m' facts' v.unit) v'
  pub others : v' ≡ record v { buf = v'.buf }
  pub unit : IsOfUnit facts'.units v'
  pub faults : StoreCall facts facts' result
