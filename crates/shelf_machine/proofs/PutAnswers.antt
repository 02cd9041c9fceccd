-- What a put answers, by the shelf and by what the writer put.
use Rattle.std.proofs.Common.{◌≡◌, ◌<◌, ◌≤◌, ℕ, true, false, List, [], length, Option, Some, sym, ap, ◌∙◌, arith}
use Rattle.std.specs.Prelude.{Ok, Err, slice_get}
use Rattle.std.specs.Option.{option_map_or}
use Rattle.ckd_image.specs.declared.device.DiskType.{DiskType}
use Rattle.dscb_codec.specs.declared.Dscb.TheVariants as formats
use Rattle.dscb_codec.specs.declared.F1.{F1}
use Rattle.ebcdic_names.specs.declared.names.Dsn.{Dsn}
use Rattle.free_rebuild.specs.Repairs.{image_named}
use Rattle.hall_core.specs.Facts.{Attached, unit_of}
use Rattle.stop_model.specs.Files.{File}
use Rattle.vol_model.specs.declared.answers.Mode.{Mode}
use Rattle.vol_model.specs.declared.contents.Body.{Body}
use Rattle.vol_model.specs.declared.contents.Place.{Place}
use Rattle.vol_model.specs.declared.contents.Shelf.{Shelf}
use Rattle.vol_model.specs.declared.refusals.Refusal.TheVariants.{NoRoom}
use Rattle.vol_model.specs.Did.{answered}
use Rattle.vol_model.specs.Places.{Content, fits_a_track, next_place, placed, with_blocks}
use Rattle.vol_model.specs.Writing.{Target, Wanted, place_on, room_for, set_on}
use Rattle.vtoc_index.specs.declared.vol.Vol.{Vol}
use Rattle.seq_access.specs.Bodies.{body_of_set, owned_in}
use Rattle.seq_access.specs.Writing.{puts_in}
use Rattle.shelf_machine.specs.Machine.{placed_in}
use Rattle.shelf_machine.specs.Pending.{puts_by, puts_on}
use Rattle.shelf_machine.specs.Putting.{did_place}
use Rattle.pack_machine.specs.Reads.{HasVolume, IsSetOn}
use Rattle.shelf_machine.specs.declared.writer.Writer.{Writer}
use Rattle.shelf_machine.proofs.PutRooms.{device_is, place_is, put_nowhere, put_on_owned, room_never, room_owned, room_wanted, tracks_is, writing_to}

-- what a writer put, by the format 1 in its slot
pub puts_are : (files : List File) (attached : List Attached) (vols : List Vol) (w : Writer) (v : Vol) (f : F1) → slice_get vols w.v ≡ Some v → slice_get v.slots.items w.inner.slot ≡ Some (formats.F1 f)
    → puts_on files attached vols w ≡ puts_in (image_named files (unit_of attached v.unit).name) v f w.inner
unfolding puts_on
puts_are files attached vols w v f at there =
    ap (λ (o : Option Vol). option_map_or (λ (x : Vol). puts_by (image_named files (unit_of attached x.unit).name) x w.inner (slice_get x.slots.items w.inner.slot)) o []) at
    ∙ ap (puts_by (image_named files (unit_of attached v.unit).name) v w.inner) there

-- the writer and all that it placed, by that
pub writer_is : (files : List File) (attached : List Attached) (vols : List Vol) (w : Writer) (v : Vol) (f : F1) → slice_get vols w.v ≡ Some v → slice_get v.slots.items w.inner.slot ≡ Some (formats.F1 f)
    → placed_in files attached vols w ≡ writing_to (record { v = w.v; dsn = w.dsn; mode = w.mode }) (puts_in (image_named files (unit_of attached v.unit).name) v f w.inner)
writer_is files attached vols w v f at there =
    ap (λ (cs : List Content). writing_to (record { v = w.v; dsn = w.dsn; mode = w.mode }) cs) (puts_are files attached vols w v f at there)

module _ (shelf : Shelf) (n : ℕ) (v : Vol) (has : HasVolume shelf n v) (dsn : Dsn) (f : F1) (set : IsSetOn has.image v (set_on shelf n dsn.bytes) (Some f)) (mode : Mode) (puts : List Content) (c : Content) where
  abbrev t : Target
  t = record { v = n; dsn = dsn; mode = mode }

  abbrev body : Body
  body = body_of_set has.image v f

  -- where the next content goes
  abbrev next : Place
  next = next_place v.geometry.device (with_blocks body (placed v.geometry.device body puts)) c

  -- it is put on a track that the set owns
  pub put_answer : (place : Place) → place ≡ next → place.tt < length (owned_in has.image v f) → fits_a_track v.geometry.device c ≡ true → did_place shelf (writing_to t puts) c ≡ answered (Ok place)
  put_answer place is low fits =
      let same : place ≡ place_on shelf t puts c = is ∙ sym (place_is shelf n v has dsn f set mode puts c) in
      put_on_owned shelf t c puts (room_owned shelf t c puts
      (ap (λ (d : DiskType). fits_a_track d c) (device_is shelf n v has dsn f set) ∙ fits)
      (omega (arith, low, tracks_is shelf n v has dsn f set, ap (λ (p : Place). p.tt) same)))
      ∙ ap (λ (p : Place). answered (Ok p)) (sym same)

  -- it wants an extension where the set owns no track for it
  pub put_wants : length (owned_in has.image v f) ≤ next.tt → fits_a_track v.geometry.device c ≡ true → room_for shelf t puts c ≡ Wanted
  put_wants high fits = room_wanted shelf t c puts
      (ap (λ (d : DiskType). fits_a_track d c) (device_is shelf n v has dsn f set) ∙ fits)
      (omega (arith, high, tracks_is shelf n v has dsn f set, ap (λ (p : Place). p.tt) (place_is shelf n v has dsn f set mode puts c)))

  -- and refused where it fits no track
  pub put_refused : fits_a_track v.geometry.device c ≡ false → did_place shelf (writing_to t puts) c ≡ answered (Err NoRoom)
  put_refused fits = put_nowhere shelf t c puts (room_never shelf t c puts (ap (λ (d : DiskType). fits_a_track d c) (device_is shelf n v has dsn f set) ∙ fits))
