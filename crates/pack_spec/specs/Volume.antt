-- The volume that an image stands for, by the label and the DSCBs of System Control Blocks, GC28-6628.
use Rattle.std.specs.Prelude.{ℕ, ◌/◌, ◌%◌, ◌^◌, ◌==◌, ◌||◌, List, [], ◌++◌, length, map, take, bit_and, Option, Some, None, Result, Ok, Err, unwrap_or, slice_get, slice_range, if◌then◌else◌}
use Rattle.std.specs.List.{filter_map}
use Rattle.ckd_image.specs.declared.header.Geometry.{Geometry}
use Rattle.ckd_image.specs.declared.header.ImageErr.{ImageErr}
use Rattle.ckd_image.specs.Header.{geometry_of}
use Rattle.dscb_codec.specs.declared.F1.{F1}
use Rattle.vol_model.specs.declared.contents.Attr.{Attr}
use Rattle.vol_model.specs.declared.contents.DataSet.{DataSet}
use Rattle.vol_model.specs.declared.contents.Run.{Run}
use Rattle.vol_model.specs.declared.contents.Volume.{Volume}
use Rattle.vol_model.specs.Order.{in_order}
use Rattle.pack_spec.specs.declared.MountErr.{MountErr}
use Rattle.pack_spec.specs.declared.MountErr.TheVariants.{Image}
use Rattle.pack_spec.specs.declared.slot.VtocSlot.{VtocSlot}
use Rattle.pack_spec.specs.Label.{label_of}
use Rattle.pack_spec.specs.Vtoc.{run_of_extent, vtoc_of}
use Rattle.pack_spec.specs.Slots.{slots_of_vtoc, track_faults}
use Rattle.pack_spec.specs.Rules.{counted_extents, set_in, slots_faults}
use Rattle.pack_spec.specs.Blocks.{data_tracks}
use Rattle.pack_spec.specs.Bodies.{body_of, catalog_of}
use Rattle.pack_spec.specs.Owned.{volume_faults}

-- the flags of a space request, the top byte of SCALO
abbrev pub space_flags : F1 → ℕ
space_flags f = f.scalo / 2 ^ 24

-- the secondary quantity, the rest of SCALO, where the flags name cylinders or tracks; else 0
abbrev pub secondary_of : F1 → ℕ
secondary_of f =
    let unit = bit_and (space_flags f) 0xC0 in
    if (unit == 0xC0) || (unit == 0x80) then f.scalo % 2 ^ 24 else 0

-- the attributes in a format 1
unfoldable pub attr_of : F1 → Attr
attr_of f = record {
  volseq = f.volseq;
  created = f.created;
  expires = f.expires;
  system = f.system;
  dsorg = f.dsorg;
  recfm = f.recfm;
  optcd = f.optcd;
  blksize = f.blksize;
  lrecl = f.lrecl;
  keylen = f.keylen;
  rkp = f.rkp;
  indicators = f.indicators;
  scalo = space_flags f;
  secondary = secondary_of f;
}

-- the runs that a format 1 counts
abbrev pub counted_runs : Geometry → List VtocSlot → F1 → List Run
counted_runs g slots f = map (run_of_extent g) (counted_extents slots f)

-- the data set of a format 1, where the data tracks are these
unfoldable pub data_set_of : Geometry → List (List ℕ) → List VtocSlot → F1 → DataSet
data_set_of g tracks slots f = record {
  name = record { bytes = f.name };
  attr = attr_of f;
  extents = counted_runs g slots f;
  body = body_of g tracks f.name (attr_of f) (counted_runs g slots f) f.lstar;
}

-- the data sets in slots, in the order of these
unfoldable pub data_sets_in : Geometry → List (List ℕ) → List VtocSlot → List DataSet
data_sets_in g tracks slots = map (data_set_of g tracks slots)
    (filter_map (λ s. set_in s.content) slots)

-- the volume with these data tracks, this label and these slots of its VTOC; the serial stands at byte 4 of the label's data
unfoldable pub volume_with : Geometry → List (List ℕ) → List ℕ → Run → List VtocSlot → Volume
volume_with g tracks label vtoc slots = record {
  serial = record { bytes = slice_range label 4 10 };
  geometry = g;
  vtoc = vtoc;
  slots = length slots;
  sets = in_order (data_sets_in g tracks slots);
  catalog = catalog_of (in_order (data_sets_in g tracks slots));
}

-- the volume of an image with this VTOC, whatever rules the image breaks
abbrev pub volume_by : List ℕ → Geometry → Run → Volume
volume_by image g vtoc = volume_with g (data_tracks image g vtoc)
    (unwrap_or (label_of image g) []) vtoc (slots_of_vtoc image g vtoc)

-- the first rule that a VTOC breaks: its tracks go before its slots, and these before the volume
unfoldable pub vtoc_fault : List ℕ → Geometry → Run → Option MountErr
vtoc_fault image g vtoc = slice_get (track_faults image g vtoc ++ (slots_faults g
    (slots_of_vtoc image g vtoc) ++ volume_faults (volume_by image g vtoc))) 0

-- the value, unless a rule is broken
abbrev pub unless : {X : Type 0} → Option MountErr → X → Result X MountErr
unless (Some e) x = Err e
unless None x = Ok x

-- the volume of an image whose VTOC is found, or not
abbrev pub volume_within : List ℕ → Geometry → Result Run MountErr → Result Volume MountErr
volume_within image g (Err e) = Err e
volume_within image g (Ok vtoc) = unless (vtoc_fault image g vtoc) (volume_by image g vtoc)

-- the volume of an image whose header is read, or refused
abbrev pub volume_on : List ℕ → Result Geometry ImageErr → Result Volume MountErr
volume_on image (Err e) = Err (Image e)
volume_on image (Ok g) = volume_within image g (vtoc_of image g)

-- the volume that an image stands for, or the first rule of mounting that it breaks
unfoldable pub volume_of : List ℕ → Result Volume MountErr
volume_of image = volume_on image (geometry_of (take 512 image) (length image))
