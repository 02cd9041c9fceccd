-- What a put slot does to an image, for each image that a stop leaves.
use Rattle.std.proofs.Common.{◌≡◌, ◌≢◌, ⊎_elim, ◌<◌, ◌≤◌, ◌+◌, ◌*◌, ◌/◌, ◌%◌, ℕ, Bool, true, false, cond, List, [], ◌∷◌, ◌++◌, length, take, drop, Option, Some, None, refl, sym, ◌∙◌, ap, subst, arith, length-drop}
use Rattle.std.specs.Prelude.{Ok, option_and_then, slice_range, unwrap_or, ◌&&◌}
use Rattle.std.specs.Option.{option_map}
use Rattle.std.specs.List.{list_all}
use Rattle.std.specs.Str.{bytes_eq}
use Rattle.std.proofs.Math.Nat.{mul-le-mul_right}
use Rattle.std.proofs.lemmas.Bool.{and_parts, cases_lt}
use Rattle.std.proofs.lemmas.List.{length-take, take-append-drop, length-take-le}
use Rattle.std.proofs.lemmas.Slice.Eq.{bytes_eq-Decides}
use Rattle.ckd_image.specs.declared.header.Geometry.{Geometry}
use Rattle.ckd_image.specs.Device.{row_of}
use Rattle.ckd_image.specs.Header.{HasGeometry, geometry_of}
use Rattle.ckd_image.specs.Reading.{records_of}
use Rattle.ckd_image.specs.Track.{Record}
use Rattle.dscb_codec.specs.declared.Dscb.{Dscb}
use Rattle.dscb_codec.specs.Layout.{decoded}
use Rattle.pack_spec.specs.declared.slot.VtocSlot.{VtocSlot}
use Rattle.pack_spec.specs.Label.{are_label, heads_of, ipl1, ipl2, vol1, is_keyed, label_in, label_of, records_on, track_bytes, tracks_of}
use Rattle.vol_model.specs.declared.contents.Run.{Run}
use Rattle.pack_spec.specs.Vtoc.{is_slot}
use Rattle.pack_spec.specs.Slots.{slots_on, slots_of_vtoc, track_fault}
use Rattle.pack_spec.proofs.BlockBodies.{one_track}
use Rattle.vtoc_index.specs.declared.vol.Vol.{Vol}
use Rattle.vtoc_index.specs.Index.{AreDscbs, IsIndexOf, IsPut, place_of_slot, slots_in_front, track_index, with_dscb}
use Rattle.vtoc_index.specs.Puts.{HasSlot, IsHeld, IsReplaced}
use Rattle.vtoc_index.proofs.HeldLemmas.{held_slot}
use Rattle.vtoc_index.proofs.HeldDscbs.{dscbs_many}
use Rattle.vtoc_index.proofs.TrackPut.{slots_at, TrackPut, length-with_dscb, same_offset, slot_offset, slot_records, slot_there, slots_found, track_put}
use Rattle.vtoc_index.proofs.VtocPut.{Stands, dscbs_put, same_faults, same_firsts, same_or_apart, slot_stands, vtoc_put}
use Rattle.pack_spec.proofs.SlotCounts.{length-slots_from}
use Rattle.stop_model.specs.Files.{patched}
use Rattle.track_records.specs.Buffers.{Buffer}
use Rattle.track_records.specs.Updates.{HasLengths, offset_of}
use Rattle.track_records.specs.Written.{IsUpdated, StandsOn, place_of}
use Rattle.track_records.proofs.StandLemmas.{stand}
use Rattle.track_records.proofs.WrittenLemmas.{updated}
use Rattle.ckd_image.proofs.GeometryLemmas.{has_geometry}

-- the track of a slot
abbrev pub track_of : Vol → ℕ → ℕ
track_of v slot = v.vtoc.start + track_index v.firsts.items slot

-- the slots before it there
abbrev pub front_of : Vol → ℕ → ℕ
front_of v slot = slots_in_front v.firsts.items slot

-- The record that a slot is: where it stands, and the records of its track.
pub record Found (image : List ℕ) (v : Vol) (slot : ℕ) : Type 0 where
  pub stands : Stands image v.geometry v.vtoc (track_index v.firsts.items slot) (front_of v slot) slot
  pub has : HasSlot image v.geometry (track_of v slot) (front_of v slot + 1)
  pub records : List Record
  pub read : records_on image v.geometry None (track_of v slot) ≡ Some records
  pub are : list_all is_slot records ≡ true
  pub there : front_of v slot < length records

pub slot_found : (image : List ℕ) (v : Vol) (slot : ℕ) → IsIndexOf image v → slot < length v.slots.items → Found image v slot
slot_found image v slot index low =
    let g : Geometry = v.geometry in
    let vtoc : Run = v.vtoc in
    let stands = slot_stands image g vtoc v.firsts.items slot index.firsts (omega (arith, low, dscbs_many v.slots.items (slots_of_vtoc image g vtoc) index.slots)) in
    let found = slots_found image g (track_of v slot) (front_of v slot) stands.there in
    let of = slot_records image g (track_of v slot) found.0 found.1.0 in
    record {
      stands = stands;
      has = record { found = found.0; slots = found.1.0; there = omega (arith, found.1.1) };
      records = of.records;
      read = of.read;
      are = of.are;
      there = omega (arith, found.1.1, ap length of.is, length-slots_from g (track_of v slot) 1 of.records);
    }

-- the track of a record that is read lies within the image
track_low : (image : List ℕ) (g : Geometry) (track : ℕ) (upto : Option ℕ) (records : List Record) → HasGeometry (length image) g → records_on image g upto track ≡ Some records → track < tracks_of g
unfolding records_on track_bytes
track_low image g track upto records has read =
    let heads : ℕ = (row_of g.device).heads in
    let size : ℕ = g.track_size in
    let front = (stand (track / heads_of g) (track % heads_of g) upto (take size (drop (512 + track * size) image)) records read).front in
    let some : 512 + track * size + 21 ≤ length image = omega (arith, front, length-take size (drop (512 + track * size) image), length-drop (512 + track * size) image) in
    ⊎_elim (λ under. under) (λ over. let m : g.cylinders * heads * size ≤ track * size = mul-le-mul_right size over in absurd (omega (arith, m, some, has.whole))) (cases_lt track (g.cylinders * heads))

-- a buffer of the records of a track
abbrev pub buffer_of : Vol → ℕ → List Record → Buffer
buffer_of v slot records = record { geometry = v.geometry; unit = 0; track = track_of v slot; records = records }

place_is : (image : List ℕ) (v : Vol) (slot : ℕ) (f : Found image v slot) → place_of (buffer_of v slot f.records) (front_of v slot) ≡ place_of_slot v slot
place_is image v slot f =
    let offset : offset_of f.records (front_of v slot) ≡ 148 * front_of v slot = slot_offset (front_of v slot) f.records f.are f.there in
    ap (λ (n : ℕ). 512 + track_of v slot * v.geometry.track_size + (21 + n + 8)) offset

-- a buffer that holds a slot of its track holds it at the slot's place
pub held_place : (image : List ℕ) (v : Vol) (slot : ℕ) (b : Buffer) → Found image v slot → StandsOn image b → b.geometry ≡ v.geometry → b.track ≡ track_of v slot → front_of v slot < length b.records → place_of b (front_of v slot) ≡ place_of_slot v slot
unfolding records_on
held_place image v slot b f stands geometry track low =
    let k : ℕ = front_of v slot in
    let held : records_on image v.geometry stands.0 (track_of v slot) ≡ Some b.records = ap (λ (g : Geometry). records_on image g stands.0 (track_of v slot)) (sym geometry) ∙ ap (λ (n : ℕ). records_on image b.geometry stands.0 n) (sym track) ∙ stands.1 in
    let c : ℕ = track_of v slot / heads_of v.geometry in
    let h : ℕ = track_of v slot % heads_of v.geometry in
    let bytes : List ℕ = track_bytes image v.geometry (track_of v slot) in
    let one = stand c h stands.0 bytes b.records held in
    let other = stand c h None bytes f.records f.read in
    let same : offset_of b.records k ≡ offset_of f.records k = same_offset 1 k (drop 21 bytes) b.records f.records one.records_stand other.records_stand low f.there in
    ap (λ (n : ℕ). 512 + n * b.geometry.track_size + (21 + offset_of b.records k + 8)) track
    ∙ ap (λ (g : Geometry). 512 + track_of v slot * g.track_size + (21 + offset_of b.records k + 8)) geometry
    ∙ ap (λ (n : ℕ). 512 + track_of v slot * v.geometry.track_size + (21 + n + 8)) same
    ∙ place_is image v slot f

-- the record of a slot, written over
slot_updated : (image : List ℕ) (v : Vol) (slot : ℕ) (key content : List ℕ) (f : Found image v slot) → IsIndexOf image v → length key ≡ 44 → length content ≡ 96
    → IsUpdated (buffer_of v slot f.records) (front_of v slot) key content image (patched image (place_of_slot v slot) (key ++ content))
slot_updated image v slot key content f index keys contents =
    let k : ℕ = front_of v slot in
    let b : Buffer = buffer_of v slot f.records in
    let has : HasGeometry (length image) v.geometry = has_geometry (take 512 image) (length image) v.geometry index.header in
    let lengths : HasLengths f.records k (length key) (length content) = subst (λ (n : ℕ). HasLengths f.records k n (length content)) (sym keys) (subst (λ (n : ℕ). HasLengths f.records k 44 n) (sym contents) (slot_there k f.records f.are f.there)) in
    subst (λ (n : ℕ). IsUpdated b k key content image (patched image n (key ++ content))) (place_is image v slot f)
    (updated b k key content image has (track_low image v.geometry (track_of v slot) None f.records has f.read) (None, f.read) lengths)

-- the same of the slot's bytes, in two parts
pub slot_written : (image put : List ℕ) (v : Vol) (slot : ℕ) (bytes : List ℕ) (f : Found image v slot) → IsIndexOf image v → length bytes ≡ 140 → put ≡ patched image (place_of_slot v slot) bytes
    → IsUpdated (buffer_of v slot f.records) (front_of v slot) (take 44 bytes) (drop 44 bytes) image put
slot_written image put v slot bytes f index size is =
    let keys : length (take 44 bytes) ≡ 44 = length-take-le 44 bytes (omega (arith, size)) in
    let contents : length (drop 44 bytes) ≡ 96 = omega (arith, size, length-drop 44 bytes) in
    subst (IsUpdated (buffer_of v slot f.records) (front_of v slot) (take 44 bytes) (drop 44 bytes) image) (ap (patched image (place_of_slot v slot)) (take-append-drop 44 bytes) ∙ sym is)
    (slot_updated image v slot (take 44 bytes) (drop 44 bytes) f index keys contents)

-- a track with a label has no slot
pub some_label : (o : Option (List ℕ)) (serial : List ℕ) → option_map (λ (label : List ℕ). slice_range label 4 10) o ≡ Some serial → (label : List ℕ) × (o ≡ Some label)
some_label None serial is = cc
some_label (Some label) serial is = (label, refl)

pub record FirstKey (image : List ℕ) (g : Geometry) : Type 0 where
  pub first : Record
  pub others : List Record
  pub read : records_on image g (Some 3) 0 ≡ Some (first ∷ others)
  pub four : length first.key ≡ 4

label_key : (image : List ℕ) (g : Geometry) (label : List ℕ) → label_of image g ≡ Some label → FirstKey image g
unfolding label_of label_in
label_key image g label is = by_records (records_on image g (Some 3) 0) refl is
  where
    keyed : (r1 r2 r3 : Record) (others : List Record) → records_on image g (Some 3) 0 ≡ Some (r1 ∷ others) → are_label r1 r2 r3 ≡ true → FirstKey image g
    keyed r1 r2 r3 others read are =
        let parts = and_parts (is_keyed ipl1 24 r1 && is_keyed ipl2 144 r2 && is_keyed vol1 80 r3) _ are in
        let two = and_parts (is_keyed ipl1 24 r1 && is_keyed ipl2 144 r2) _ parts.0 in
        let one = and_parts (is_keyed ipl1 24 r1) _ two.0 in
        let key = and_parts (bytes_eq r1.key ipl1) _ one.0 in
        record { first = r1; others = others; read = read; four = ap length ((bytes_eq-Decides r1.key ipl1).0 key.0) }

    by_test : (r1 r2 r3 : Record) (others : List Record) (b : Bool) → records_on image g (Some 3) 0 ≡ Some (r1 ∷ others) → are_label r1 r2 r3 ≡ b → cond b (Some r3.data) None ≡ Some label → FirstKey image g
    by_test r1 r2 r3 others true read are found = keyed r1 r2 r3 others read are
    by_test r1 r2 r3 others false read are found = cc

    by_records : (o : Option (List Record)) → records_on image g (Some 3) 0 ≡ o → option_and_then label_in o ≡ Some label → FirstKey image g
    by_records None read found = cc
    by_records (Some []) read found = cc
    by_records (Some (r1 ∷ [])) read found = cc
    by_records (Some (r1 ∷ r2 ∷ [])) read found = cc
    by_records (Some (r1 ∷ r2 ∷ r3 ∷ [])) read found = by_test r1 r2 r3 (r2 ∷ r3 ∷ []) (are_label r1 r2 r3) read refl found
    by_records (Some (r1 ∷ r2 ∷ r3 ∷ r4 ∷ rs)) read found = cc

pub label_apart : (image : List ℕ) (g : Geometry) (label : List ℕ) (r : ℕ) → label_of image g ≡ Some label → 1 ≤ r → HasSlot image g 0 r → ⊥
label_apart image g label r is some has =
    let first = label_key image g label is in
    let b : Buffer = record { geometry = g; unit = 0; track = 0; records = first.first ∷ first.others } in
    let one : HasSlot image g 0 1 = record { found = has.found; slots = has.slots; there = omega (arith, some, has.there) } in
    let lengths = held_slot image b 1 one (Some 3, first.read) (omega arith) (omega arith) in
    omega (arith, first.four, lengths.0)

-- tracks with the same bytes are read alike
pub same_records : (image put : List ℕ) (g : Geometry) (upto : Option ℕ) (track : ℕ) → track_bytes put g track ≡ track_bytes image g track → records_on put g upto track ≡ records_on image g upto track
unfolding records_on
same_records image put g upto track same = ap (records_of (track / heads_of g) (track % heads_of g) upto) same

same_label : (image put : List ℕ) (g : Geometry) → track_bytes put g 0 ≡ track_bytes image g 0 → label_of put g ≡ label_of image g
unfolding label_of
same_label image put g same = ap (option_and_then label_in) (same_records image put g (Some 3) 0 same)

same_slots_on : (image put : List ℕ) (g : Geometry) (track : ℕ) → track_bytes put g track ≡ track_bytes image g track → slots_on put g track ≡ slots_on image g track
unfolding slots_on
same_slots_on image put g track same = rw (same_records image put g None track same) refl

same_slots : (image put : List ℕ) (g : Geometry) (track : ℕ) → slots_on put g track ≡ slots_on image g track → slots_at put g track ≡ slots_at image g track
same_slots image put g track same = ap (λ (o : Option (List VtocSlot)). unwrap_or o []) same

same_fault : (image put : List ℕ) (g : Geometry) (track : ℕ) → slots_on put g track ≡ slots_on image g track → track_fault put g track ≡ track_fault image g track
unfolding track_fault
same_fault image put g track same = rw same refl

good_fault : (image : List ℕ) (g : Geometry) (track : ℕ) (found : List VtocSlot) → slots_on image g track ≡ Some found → track_fault image g track ≡ None
unfolding track_fault
good_fault image g track found good = rw good refl

-- the image whose record was written over has that slot, and is otherwise as before
put_updated : (image put : List ℕ) (v : Vol) (slot : ℕ) (key content : List ℕ) (d : Dscb) (f : Found image v slot) → IsIndexOf image v → length key ≡ 44 → length content ≡ 96 → decoded (key ++ content) ≡ Ok d
    → IsUpdated (buffer_of v slot f.records) (front_of v slot) key content image put → IsPut v slot d image put
put_updated image put v slot key content d f index keys contents dscb u = record {
  size = u.size;
  header = u.header;
  label = same_label image put g (u.others 0 apart);
  slots = vtoc_put image put g v.vtoc d (track_index v.firsts.items slot) (front_of v slot) slot f.stands wrote.slots (λ j other. same_slots image put g j (same_slots_on image put g j (u.others j other)));
  tracks = same_faults image put g v.vtoc faults ∙ index.tracks;
  firsts = same_firsts image put g v.vtoc counts;
  contents = one_track g v.vtoc image put (track_index v.firsts.items slot) (omega (arith, f.stands.inside)) u.others;
  others = u.others;
}
  where
    g : Geometry
    g = v.geometry

    t : ℕ
    t = track_of v slot

    wrote : TrackPut image put g t (front_of v slot) d
    wrote = track_put image put g t (front_of v slot) key content d f.records keys contents dscb f.read f.are (u.records None)

    apart : 0 ≢ t
    apart same =
        let label = some_label (label_of image g) v.serial.bytes index.serial in
        label_apart image g label.0 (front_of v slot + 1) label.1 (omega arith) (subst (λ (n : ℕ). HasSlot image g n (front_of v slot + 1)) (sym same) f.has)

    faults : (j : ℕ) → track_fault put g j ≡ track_fault image g j
    faults j =
        ⊎_elim
        (λ here. subst (λ (n : ℕ). track_fault put g n ≡ track_fault image g n) (sym here) (good_fault put g t wrote.found wrote.good ∙ sym (good_fault image g t f.has.found f.has.slots)))
        (λ other. same_fault image put g j (same_slots_on image put g j (u.others j other)))
        (same_or_apart j t)

    counts : (j : ℕ) → length (slots_at put g j) ≡ length (slots_at image g j)
    counts j =
        ⊎_elim
        (λ here. subst (λ (n : ℕ). length (slots_at put g n) ≡ length (slots_at image g n)) (sym here) (ap length wrote.slots ∙ length-with_dscb (front_of v slot) d (slots_at image g t)))
        (λ other. ap length (same_slots image put g j (same_slots_on image put g j (u.others j other))))
        (same_or_apart j t)

-- The bytes of a DSCB, written at a slot's place, are that slot, and nothing else on the image is changed.
pub slot_put : (image : List ℕ) (v : Vol) (slot : ℕ) (d : Dscb) (bytes : List ℕ) → IsIndexOf image v → slot < length v.slots.items → length bytes ≡ 140 → decoded bytes ≡ Ok d → IsPut v slot d image (patched image (place_of_slot v slot) bytes)
slot_put image v slot d bytes index low size dscb =
    let f = slot_found image v slot index low in
    let key : List ℕ = take 44 bytes in
    let content : List ℕ = drop 44 bytes in
    let keys : length key ≡ 44 = length-take-le 44 bytes (omega (arith, size)) in
    let contents : length content ≡ 96 = omega (arith, size, length-drop 44 bytes) in
    let joined : key ++ content ≡ bytes = take-append-drop 44 bytes in
    subst (λ (bs : List ℕ). IsPut v slot d image (patched image (place_of_slot v slot) bs)) joined
    (put_updated image (patched image (place_of_slot v slot) (key ++ content)) v slot key content d f index keys contents (ap decoded joined ∙ dscb) (slot_updated image v slot key content f index keys contents))

-- The index of that image holds the DSCB in the slot's place.
pub index_put : (image put : List ℕ) (v v' : Vol) (slot : ℕ) (d : Dscb) → IsIndexOf image v → IsPut v slot d image put → IsReplaced slot d v v' → IsHeld put v'.buf → IsIndexOf put v'
index_put image put v v' slot d index is replaced held =
    let g : Geometry = v.geometry in
    let w : Vol = record v { slots = v'.slots; buf = v'.buf } in
    let read : IsIndexOf put w = record {
      header = ap (λ (h : List ℕ). geometry_of h (length put)) is.header ∙ ap (geometry_of (take 512 image)) is.size ∙ index.header;
      serial = ap (λ (o : Option (List ℕ)). option_map (λ (label : List ℕ). slice_range label 4 10) o) is.label ∙ index.serial;
      tracks = is.tracks;
      slots =
          subst (λ (ss : List VtocSlot). AreDscbs v'.slots.items ss) (sym is.slots)
          (subst (λ (ds : List Dscb). AreDscbs ds (with_dscb slot d (slots_of_vtoc image g v.vtoc))) (sym replaced.items) (dscbs_put slot d v.slots.items (slots_of_vtoc image g v.vtoc) index.slots));
      firsts = index.firsts ∙ sym is.firsts;
      buffer = held;
    } in
    subst (IsIndexOf put) (sym replaced.others) read
