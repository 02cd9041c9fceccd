-- A writer that was opened on one of several packs: it stands on the images, and nothing is pending but by it.
use Rattle.std.proofs.Common.{◌≡◌, ℕ, true, List, [], Option, Some, None, refl, sym, ap, ◌∙◌, subst}
use Rattle.std.specs.Prelude.{IfSome, is_some, slice_get}
use Rattle.std.specs.Option.{option_map_or}
use Rattle.ebcdic_names.specs.declared.names.Dsn.{Dsn}
use Rattle.free_rebuild.specs.Repairs.{image_named}
use Rattle.hall_core.specs.Facts.{Attached, unit_of}
use Rattle.stop_model.specs.Files.{File}
use Rattle.stop_model.specs.Moments.{IsDurable, Meaning}
use Rattle.vol_model.specs.declared.answers.Mode.{Mode}
use Rattle.vol_model.specs.declared.contents.Place.{Place}
use Rattle.vol_model.specs.declared.contents.Shelf.{Shelf}
use Rattle.vol_model.specs.Places.{Content}
use Rattle.vol_model.specs.Writing.{begin_refusal, begun, body_on}
use Rattle.vtoc_index.specs.declared.vol.Vol.{Vol}
use Rattle.seq_access.specs.Bodies.{last_in}
use Rattle.seq_access.specs.Writing.{AreSpared}
use Rattle.seq_access.proofs.SparedCalls.{differ_none}
use Rattle.pack_machine.specs.declared.area_start.AreaStart.{AreaStart}
use Rattle.shelf_machine.specs.Fronts.{IsFrontIn, behind_first}
use Rattle.shelf_machine.specs.Machine.{AreIndexes, AreKept, is_open_in, shelf_under, units_of, writer_in}
use Rattle.shelf_machine.specs.Opening.{names_of}
use Rattle.shelf_machine.specs.Pending.{HasSlot, IsBegunAt, IsBegunOn, IsFor, IsInSlot, IsPendingBy, puts_by, puts_on}
use Rattle.pack_machine.specs.Reads.{HasVolume}
use Rattle.shelf_machine.specs.declared.writer.Writer.{Writer}
use Rattle.shelf_machine.proofs.FrontLemmas.{behind_none}
use Rattle.shelf_machine.proofs.Holding.{kept_mounted, volume_there}
use Rattle.pack_machine.proofs.ListPlaces.{there}
use Rattle.std.proofs.lemmas.Option.{same_Some, slice_get_within}

-- a writer that was opened is open
pub open_some : (v : ℕ) (dsn : Dsn) (mode : Mode) (w : Option Writer) → IfSome w (IsFor v dsn mode) → is_some w ≡ is_open_in w
open_some v dsn mode None is = refl
open_some v dsn mode (Some w) is = sym is.opened

module _ (v : ℕ) (dsn : Dsn) (mode : Mode) (vols : List Vol) (vol : Vol) (at : slice_get vols v ≡ Some vol) where
  -- its pack has its slot
  pub slot_opened : (r : Option Writer) → IfSome r (IsFor v dsn mode) → IfSome r (IsInSlot vol) → HasSlot vols r
  slot_opened None target low = tt
  slot_opened (Some w) target low =
      let here : slice_get vols w.v ≡ Some vol = ap (slice_get vols) target.number ∙ at in (
        slice_get_within vols w.v vol here,
        λ u there. subst (λ (x : Vol). IsInSlot x w) (same_Some _ _ (sym here ∙ there)) low,
      )

  -- and it stands on the image of that
  pub begun_on : (files : List File) (attached : List Attached) (r : Option Writer) (front : AreaStart) → AreIndexes attached vols → AreKept files attached vols → IfSome r (IsFor v dsn mode)
      → ((shelf : Shelf) (n : ℕ) (has : HasVolume shelf n vol) → begin_refusal shelf (record { v = n; dsn = dsn; mode = mode }) ≡ None → IsFrontIn mode front (body_on shelf n dsn.bytes) → IfSome r (IsBegunAt has.image vol))
      → begin_refusal (shelf_under (names_of attached (units_of vols)) files) (record { v = v; dsn = dsn; mode = mode }) ≡ None → IsFrontIn mode front (body_on (shelf_under (names_of attached (units_of vols)) files) v dsn.bytes) → IfSome r (IsBegunOn files attached vols)
  begun_on files attached None front indexes kept target each none begins = tt
  begun_on files attached (Some w) front indexes kept target each none begins = λ u there.
      let mounted = kept_mounted files attached vols kept in
      let has : HasVolume (shelf_under (names_of attached (units_of vols)) files) v vol = record {
        image = image_named files (unit_of attached vol.unit).name;
        mounted = mounted v vol at;
        there = volume_there files attached vols mounted indexes.serials v vol at;
      } in
      let same : vol ≡ u = same_Some _ _ (sym at ∙ ap (slice_get vols) (sym target.number) ∙ there) in
      subst (λ (x : Vol). IsBegunAt (image_named files (unit_of attached x.unit).name) x w) same (each _ v has none begins)

-- where all is durable nothing is pending but by it
pub pending_begun : (m : Meaning (List File)) (attached : List Attached) (vols : List Vol) (r : Option Writer) → IsDurable m → IfSome r (IsBegunOn m.state attached vols) → IsPendingBy m attached vols r
pending_begun m attached vols None durable begun = durable
pending_begun m attached vols (Some w) durable begun = λ v at. (
  (begun v at).0,
  λ f there j left.
      let name : List ℕ = (unit_of attached v.unit).name in
      let last : Place = last_in (image_named m.state name) v f in
      let same : AreSpared name v f last m.state m.state = record { image = differ_none v f last (image_named m.state name); others = λ other apart. refl } in
      subst (AreSpared name v f last m.state) (sym (durable j left)) same,
)

-- it put nothing yet
pub writer_begun : (files : List File) (attached : List Attached) (vols : List Vol) (v : ℕ) (dsn : Dsn) (mode : Mode) (r : Option Writer) → HasSlot vols r → IfSome r (IsFor v dsn mode) → IfSome r (IsBegunOn files attached vols) → is_open_in r ≡ true
    → writer_in files attached vols r ≡ begun (record { v = v; dsn = dsn; mode = mode })
unfolding puts_on
writer_begun files attached vols v dsn mode None slot target is opened = absurd cc
writer_begun files attached vols v dsn mode (Some w) slot target is opened =
    let at = there vols w.v slot.0 in
    let none : puts_on files attached vols w ≡ [] =
    ap (λ (o : Option Vol). option_map_or (λ (x : Vol). puts_by (image_named files (unit_of attached x.unit).name) x w.inner (slice_get x.slots.items w.inner.slot)) o []) at.1 ∙ (is at.0 at.1).1 in
    writer_with none
    ∙ ap (λ (n : ℕ). begun (record { v = n; dsn = w.dsn; mode = w.mode })) target.number
    ∙ ap (λ (d : Dsn). begun (record { v = v; dsn = d; mode = w.mode })) target.name
    ∙ ap (λ (m : Mode). begun (record { v = v; dsn = dsn; mode = m })) target.purpose
  where
    writer_with : puts_on files attached vols w ≡ [] → writer_in files attached vols (Some w) ≡ begun (record { v = w.v; dsn = w.dsn; mode = w.mode })
    writer_with none =
        ap (λ (cs : List Content). record { target = record { v = w.v; dsn = w.dsn; mode = w.mode }; puts = behind_first w.owes_end_of_file cs }) none
        ∙ ap (λ (cs : List Content). record { target = record { v = w.v; dsn = w.dsn; mode = w.mode }; puts = cs }) (behind_none w.owes_end_of_file)
