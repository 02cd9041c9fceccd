-- The VTOC's extent and the volume after a put slot.
use Rattle.std.proofs.Common.{◌≡◌, ◌≢◌, ⊎_elim, ◌<◌, ◌+◌, ◌*◌, ◌/◌, ◌%◌, ℕ, zero, suc, Bool, true, false, cond, List, [], ◌∷◌, ◌++◌, length, take, drop, Option, Some, None, refl, sym, ◌∙◌, ap, ap₂, subst, arith, length-drop}
use Rattle.std.specs.Prelude.{Result, Ok, Err, option_and_then, slice_get, slice_range, unwrap_or, ◌&&◌, ◌==◌}
use Rattle.std.specs.List.{flat_map, list_all, range_with_len}
use Rattle.std.specs.Option.{option_map}
use Rattle.std.proofs.lemmas.Bool.{and_parts, eq-eqb, eqb-true}
use Rattle.std.proofs.lemmas.List.{length-take-le, take-append-drop}
use Rattle.ckd_image.specs.declared.header.Geometry.{Geometry}
use Rattle.ckd_image.specs.Header.{geometry_of}
use Rattle.ckd_image.specs.Track.{Record}
use Rattle.dscb_codec.specs.declared.Dscb.{Dscb}
use Rattle.dscb_codec.specs.declared.F4.{F4}
use Rattle.dscb_codec.specs.declared.DscbErr.{DscbErr}
use Rattle.dscb_codec.specs.Layout.{decoded, f4_of}
use Rattle.dscb_codec.proofs.Formats.{decoded_f4}
use Rattle.pack_spec.specs.declared.MountErr.{MountErr}
use Rattle.pack_spec.specs.declared.MountErr.TheVariants.{BadVtoc}
use Rattle.pack_spec.specs.declared.slot.VtocSlot.{VtocSlot}
use Rattle.pack_spec.specs.declared.address.Address.{Address}
use Rattle.pack_spec.specs.Label.{address_at, heads_of, is_inside, label_of, records_on, track_bytes, track_of_address}
use Rattle.vol_model.specs.declared.contents.Run.{Run}
use Rattle.pack_spec.specs.Vtoc.{first_slot, is_slot, is_vtoc_extent, slot_bytes, vtoc_at, vtoc_by, vtoc_of, lower_of, is_extent, run_of_extent, vtoc_on}
use Rattle.pack_spec.specs.Slots.{slots_of_vtoc, track_faults, slot_at, slots_from}
use Rattle.pack_spec.specs.Rules.{slots_faults}
use Rattle.pack_spec.specs.Owned.{volume_faults}
use Rattle.pack_spec.specs.Blocks.{data_tracks}
use Rattle.pack_spec.specs.Volume.{volume_by, volume_of, volume_with, volume_within}
use Rattle.vol_model.specs.Space.{free_runs}
use Rattle.vtoc_index.proofs.Reasons.{volume_read, volume_there}
use Rattle.vtoc_index.specs.declared.vol.Vol.{Vol}
use Rattle.vtoc_index.specs.Index.{IsIndexOf, IsMounted, IsPut, slots_before, track_index, with_dscb, place_of_slot}
use Rattle.vtoc_index.specs.Puts.{IsHeld, IsReplaced}
use Rattle.vtoc_index.proofs.PutLaw.{Found, buffer_of, front_of, index_put, same_records, slot_found, slot_written, some_label, track_of}
use Rattle.vtoc_index.proofs.TrackPut.{slots_at, slots_at-some, slots_by}
use Rattle.vtoc_index.proofs.VtocPut.{before_none, same_or_apart}
use Rattle.dscb_codec.specs.declared.Dscb.TheVariants as formats
use Rattle.stop_model.specs.Files.{patched}
use Rattle.track_records.specs.Updates.{StandFrom, with_parts}
use Rattle.track_records.specs.Written.{IsUpdated}
use Rattle.track_records.proofs.StandLemmas.{stand}

-- where slot 0 is put, its format 4 has the extent of the one that stands there
abbrev pub KeepsExtent : ℕ → Dscb → List VtocSlot → Type 0
KeepsExtent slot d slots = slot ≡ 0 → (s : VtocSlot) → slice_get slots 0 ≡ Some s → (f : F4) × (f' : F4) × (s.content ≡ Ok (formats.F4 f)) × (d ≡ formats.F4 f') × (f'.vtoc ≡ f.vtoc)

-- the bytes of a format 4 have its extent at byte 105
extent_in : (bytes : List ℕ) (f : F4) → decoded bytes ≡ Ok (formats.F4 f) → slice_range bytes 105 115 ≡ f.vtoc
unfolding f4_of
extent_in bytes f is = ap (λ (x : F4). x.vtoc) (decoded_f4 bytes f is).1

same_extent : (g : Geometry) (at : Address) (xs ys : List ℕ) → slice_range xs 105 115 ≡ slice_range ys 105 115 → vtoc_by g at (Some xs) ≡ vtoc_by g at (Some ys)
same_extent g at xs ys same = ap (λ (extent : List ℕ). cond (is_vtoc_extent g at extent) (Ok (run_of_extent g extent)) (Err BadVtoc)) same

-- the address of the VTOC in a label
abbrev place_in : List ℕ → Address
place_in label = address_at 11 label

-- The extent that was read: the first slot at the address of the label, and where it begins.
record ExtentRead (image : List ℕ) (g : Geometry) (vtoc : Run) (label : List ℕ) : Type 0 where
  start : vtoc.start ≡ track_of_address g (place_in label)
  first : Record
  inside : is_inside g (place_in label) ≡ true
  read : records_on image g (Some 1) (track_of_address g (place_in label)) ≡ Some (first ∷ [])
  slot : is_slot first ≡ true
  extent : vtoc_by g (place_in label) (Some (slot_bytes first)) ≡ Ok vtoc

begins : (g : Geometry) (at : Address) (vtoc : Run) (slot : List ℕ) → vtoc_by g at (Some slot) ≡ Ok vtoc → vtoc.start ≡ track_of_address g at
begins g at vtoc slot is = by_test (is_vtoc_extent g at extent) refl is
  where
    extent : List ℕ
    extent = slice_range slot 105 115

    by_test : (b : Bool) → is_vtoc_extent g at extent ≡ b → cond b (Ok (run_of_extent g extent)) (Err BadVtoc) ≡ Ok vtoc → vtoc.start ≡ track_of_address g at
    by_test false test same = cc
    by_test true test same =
        let tests = and_parts (is_extent g extent && ((lower_of extent).cylinder == at.cylinder) && ((lower_of extent).head == at.head)) _ test in
        let heads = and_parts (is_extent g extent && ((lower_of extent).cylinder == at.cylinder)) _ tests.0 in
        let cylinders = and_parts (is_extent g extent) _ heads.0 in
        let cylinder : (lower_of extent).cylinder ≡ at.cylinder = eqb-true _ _ cylinders.1 in
        let head : (lower_of extent).head ≡ at.head = eqb-true _ _ heads.1 in
        let run : run_of_extent g extent ≡ vtoc = cc in
        sym (ap (λ (r : Run). r.start) run)
        ∙ ap (λ (n : ℕ). n * heads_of g + (lower_of extent).head) cylinder
        ∙ ap (λ (n : ℕ). at.cylinder * heads_of g + n) head

extent_read : (image : List ℕ) (g : Geometry) (vtoc : Run) (label : List ℕ) → label_of image g ≡ Some label → vtoc_of image g ≡ Ok vtoc → ExtentRead image g vtoc label
unfolding vtoc_of vtoc_at vtoc_on
extent_read image g vtoc label labelled is = by_inside (is_inside g at) refl (sym (ap (vtoc_at image g) labelled) ∙ is)
  where
    at : Address
    at = place_in label

    by_slot : (x : Record) (b : Bool) → is_slot x ≡ b → is_inside g at ≡ true → records_on image g (Some 1) (track_of_address g at) ≡ Some (x ∷ []) → vtoc_by g at (cond b (Some (slot_bytes x)) None) ≡ Ok vtoc → ExtentRead image g vtoc label
    by_slot x true slot inside read found = record { start = begins g at vtoc (slot_bytes x) found; first = x; inside = inside; read = read; slot = slot; extent = found }
    by_slot x false slot inside read found = cc

    by_records : (o : Option (List Record)) → is_inside g at ≡ true → records_on image g (Some 1) (track_of_address g at) ≡ o → vtoc_by g at (option_and_then first_slot o) ≡ Ok vtoc → ExtentRead image g vtoc label
    by_records None inside read found = cc
    by_records (Some []) inside read found = cc
    by_records (Some (x ∷ [])) inside read found = by_slot x (is_slot x) refl inside read found
    by_records (Some (x ∷ y ∷ rs)) inside read found = cc

    by_inside : (b : Bool) → is_inside g at ≡ b → cond b (vtoc_by g at (option_and_then first_slot (records_on image g (Some 1) (track_of_address g at)))) (Err BadVtoc) ≡ Ok vtoc → ExtentRead image g vtoc label
    by_inside true inside found = by_records (records_on image g (Some 1) (track_of_address g at)) inside refl found
    by_inside false inside found = cc

-- an extent that is read so is the VTOC's
extent_is : (image : List ℕ) (g : Geometry) (vtoc : Run) (label : List ℕ) (x : Record) → label_of image g ≡ Some label → is_inside g (place_in label) ≡ true → records_on image g (Some 1) (track_of_address g (place_in label)) ≡ Some (x ∷ []) → is_slot x ≡ true → vtoc_by g (place_in label) (Some (slot_bytes x)) ≡ Ok vtoc → vtoc_of image g ≡ Ok vtoc
unfolding vtoc_of vtoc_at vtoc_on
extent_is image g vtoc label x labelled inside read slot is =
    let at : Address = place_in label in
    let found : Option (List Record) → Result Run MountErr = λ o. vtoc_by g at (option_and_then first_slot o) in
    ap (vtoc_at image g) labelled
    ∙ ap (λ (b : Bool). cond b (found (records_on image g (Some 1) (track_of_address g at))) (Err BadVtoc)) inside
    ∙ ap found read
    ∙ ap (λ (b : Bool). vtoc_by g at (cond b (Some (slot_bytes x)) None)) slot
    ∙ is

-- the first slot of a VTOC is the first on its first track
first_slot_of : (image : List ℕ) (g : Geometry) (vtoc : Run) (s : VtocSlot) (ss : List VtocSlot) → 0 < vtoc.len → slots_at image g vtoc.start ≡ s ∷ ss → slice_get (slots_of_vtoc image g vtoc) 0 ≡ Some s
unfolding slots_of_vtoc
first_slot_of image g vtoc s ss some here = by_len vtoc.len some
  where
    by_len : (n : ℕ) → 0 < n → slice_get (flat_map (slots_at image g) (range_with_len vtoc.start n)) 0 ≡ Some s
    by_len zero none = absurd (omega (arith, none))
    by_len (suc n) more = ap (λ (l : List VtocSlot). slice_get (l ++ flat_map (slots_at image g) (range_with_len (vtoc.start + 1) n)) 0) here

-- the first records of two readings of a track are one
same_first : (r : ℕ) (bytes : List ℕ) (x y : Record) (xs ys : List Record) → StandFrom r bytes (x ∷ xs) → StandFrom r bytes (y ∷ ys) → x ≡ y
same_first r bytes x y xs ys one other = one.1.0 ∙ sym other.1.0

-- where the first slot of a VTOC is put, its old bytes are those by which the extent was read
first_bytes : (image : List ℕ) (v : Vol) (slot : ℕ) (label : List ℕ) (f : Found image v slot) (e : ExtentRead image v.geometry v.vtoc label) → track_of v slot ≡ track_of_address v.geometry (place_in label)
    → (s : VtocSlot) × ((slice_get (slots_of_vtoc image v.geometry v.vtoc) 0 ≡ Some s) × (s.content ≡ decoded (slot_bytes e.first)))
unfolding records_on
first_bytes image v slot label f e here = by_records f.records f.read f.are f.there
  where
    g : Geometry
    g = v.geometry

    t : ℕ
    t = track_of v slot

    start : v.vtoc.start ≡ t
    start = e.start ∙ sym here

    by_records : (records : List Record) → records_on image g None t ≡ Some records → list_all is_slot records ≡ true → front_of v slot < length records → (s : VtocSlot) × ((slice_get (slots_of_vtoc image g v.vtoc) 0 ≡ Some s) × (s.content ≡ decoded (slot_bytes e.first)))
    by_records [] read are low = absurd (omega (arith, low))
    by_records (y ∷ ys) read are low =
        let s : VtocSlot = slot_at g t 1 y in
        let slots : slots_at image g t ≡ s ∷ slots_from g t 2 ys = slots_at-some image g t (slots_from g t 1 (y ∷ ys)) (slots_by image g t (y ∷ ys) read are) in
        let one = stand (t / heads_of g) (t % heads_of g) None (track_bytes image g t) (y ∷ ys) read in
        let read_there : records_on image g (Some 1) t ≡ Some (e.first ∷ []) = ap (records_on image g (Some 1)) here ∙ e.read in
        let other = stand (t / heads_of g) (t % heads_of g) (Some 1) (track_bytes image g t) (e.first ∷ []) read_there in (
          s,
          (
            first_slot_of image g v.vtoc s _ (omega (arith, f.stands.inside)) (ap (slots_at image g) start ∙ slots),
            ap (λ (x : Record). decoded (slot_bytes x)) (same_first 1 (drop 21 (track_bytes image g t)) y e.first ys [] one.records_stand other.records_stand),
          ),
        )

-- The extent of the VTOC stays, unless slot 0 gets another.
pub extent_put : (image put : List ℕ) (v : Vol) (slot : ℕ) (d : Dscb) (bytes : List ℕ) → IsIndexOf image v → slot < length v.slots.items → length bytes ≡ 140 → decoded bytes ≡ Ok d → put ≡ patched image (place_of_slot v slot) bytes → IsPut v slot d image put → vtoc_of image v.geometry ≡ Ok v.vtoc
    → KeepsExtent slot d (slots_of_vtoc image v.geometry v.vtoc) → vtoc_of put v.geometry ≡ Ok v.vtoc
extent_put image put v slot d bytes index low size dscb written is extent keeps = ⊎_elim same_track other_track (same_or_apart (track_of v slot) (track_of_address g at))
  where
    g : Geometry
    g = v.geometry

    vtoc : Run
    vtoc = v.vtoc

    label : (label : List ℕ) × (label_of image g ≡ Some label)
    label = some_label (label_of image g) v.serial.bytes index.serial

    at : Address
    at = place_in label.0

    labelled : label_of put g ≡ Some label.0
    labelled = is.label ∙ label.1

    e : ExtentRead image g vtoc label.0
    e = extent_read image g vtoc label.0 label.1 extent

    f : Found image v slot
    f = slot_found image v slot index low

    as_before : records_on put g (Some 1) (track_of_address g at) ≡ records_on image g (Some 1) (track_of_address g at) → vtoc_of put g ≡ Ok vtoc
    as_before same = extent_is put g vtoc label.0 e.first labelled e.inside (same ∙ e.read) e.slot e.extent

    other_track : track_of v slot ≢ track_of_address g at → vtoc_of put g ≡ Ok vtoc
    other_track other = as_before (same_records image put g (Some 1) (track_of_address g at) (is.others (track_of_address g at) (λ same. other (sym same))))

    key : List ℕ
    key = take 44 bytes

    content : List ℕ
    content = drop 44 bytes

    wrote : IsUpdated (buffer_of v slot f.records) (front_of v slot) key content image put
    wrote = slot_written image put v slot bytes f index size written

    first : track_of v slot ≡ track_of_address g at → front_of v slot ≡ 0 → slot ≡ 0
    first here none =
        let index_is : track_index v.firsts.items slot ≡ 0 = omega (arith, here, e.start) in
        omega (arith, f.stands.number, none, ap (slots_before image g vtoc) index_is, before_none image g vtoc)

    by_front : (k : ℕ) → (k ≡ 0 → slice_range bytes 105 115 ≡ slice_range (slot_bytes e.first) 105 115) → records_on put g (Some 1) (track_of_address g at) ≡ Some (with_parts k key content (e.first ∷ [])) → vtoc_of put g ≡ Ok vtoc
    by_front zero same read =
        let y : Record = record (e.first) { key = key; «data» = content } in
        let keys : length key ≡ 44 = length-take-le 44 bytes (omega (arith, size)) in
        let contents : length content ≡ 96 = omega (arith, size, length-drop 44 bytes) in
        let slots : is_slot y ≡ true = ap (λ (b : Bool). b && (length content == 96)) (eq-eqb (length key) 44 keys) ∙ eq-eqb (length content) 96 contents in
        extent_is put g vtoc label.0 y labelled e.inside read slots
        (ap (λ (bs : List ℕ). vtoc_by g at (Some bs)) (take-append-drop 44 bytes) ∙ same_extent g at bytes (slot_bytes e.first) (same refl) ∙ e.extent)
    by_front (suc k) same read = as_before (read ∙ sym e.read)

    same_track : track_of v slot ≡ track_of_address g at → vtoc_of put g ≡ Ok vtoc
    same_track here =
        let old = first_bytes image v slot label.0 f e here in
        let there : records_on image g (Some 1) (track_of v slot) ≡ Some (e.first ∷ []) = ap (records_on image g (Some 1)) here ∙ e.read in
        by_front (front_of v slot)
        (λ none.
        let kept = keeps (first here none) old.0 old.1.0 in
        extent_in bytes kept.1 (dscb ∙ ap {B = Result Dscb DscbErr} Ok kept.3) ∙ kept.4 ∙ sym (extent_in (slot_bytes e.first) kept.0 (sym old.1.1 ∙ kept.2)))
        (ap (records_on put g (Some 1)) (sym here) ∙ wrote.records (Some 1) ∙ ap (option_map (with_parts (front_of v slot) key content)) there)

-- an image of this header, extent and slots, which break no rule, stands for the volume of its label and slots
pub volume_is : (image : List ℕ) (g : Geometry) (vtoc : Run) → geometry_of (take 512 image) (length image) ≡ Ok g → vtoc_of image g ≡ Ok vtoc → track_faults image g vtoc ≡ [] → slots_faults g (slots_of_vtoc image g vtoc) ≡ [] → volume_faults (volume_by image g vtoc) ≡ [] → volume_of image ≡ Ok (volume_by image g vtoc)
volume_is image g vtoc header extent tracks slots whole =
    volume_read image g header ∙ ap (volume_within image g) extent ∙ volume_there image g vtoc tracks slots whole

-- the volume of an image in which a slot is put
pub volume_put : (image put : List ℕ) (v : Vol) (slot : ℕ) (d : Dscb) → IsPut v slot d image put → volume_by put v.geometry v.vtoc ≡ volume_with v.geometry (data_tracks image v.geometry v.vtoc) (unwrap_or (label_of image v.geometry) []) v.vtoc (with_dscb slot d (slots_of_vtoc image v.geometry v.vtoc))
volume_put image put v slot d is =
    ap₂ (λ (tracks : List (List ℕ)) (o : Option (List ℕ)). volume_with v.geometry tracks (unwrap_or o []) v.vtoc (slots_of_vtoc put v.geometry v.vtoc)) is.contents is.label
    ∙ ap (volume_with v.geometry (data_tracks image v.geometry v.vtoc) (unwrap_or (label_of image v.geometry) []) v.vtoc) is.slots

-- An image that stands for a volume still stands for one, where the slots that it then has break no rule; and this is its index, where the free runs stay.
pub mounted_put : (image put : List ℕ) (v v' : Vol) (slot : ℕ) (d : Dscb) (bytes : List ℕ) → IsMounted image v → slot < length v.slots.items → length bytes ≡ 140 → decoded bytes ≡ Ok d → put ≡ patched image (place_of_slot v slot) bytes → IsPut v slot d image put → IsReplaced slot d v v' → IsHeld put v'.buf
    → KeepsExtent slot d (slots_of_vtoc image v.geometry v.vtoc) → slots_faults v.geometry (with_dscb slot d (slots_of_vtoc image v.geometry v.vtoc)) ≡ []
    → volume_faults (volume_with v.geometry (data_tracks image v.geometry v.vtoc) (unwrap_or (label_of image v.geometry) []) v.vtoc (with_dscb slot d (slots_of_vtoc image v.geometry v.vtoc))) ≡ []
    → v.free.items ≡ free_runs (volume_with v.geometry (data_tracks image v.geometry v.vtoc) (unwrap_or (label_of image v.geometry) []) v.vtoc (with_dscb slot d (slots_of_vtoc image v.geometry v.vtoc))) → IsMounted put v'
mounted_put image put v v' slot d bytes mounted low size dscb written is replaced held keeps lawful whole free =
    let g : Geometry = v.geometry in
    let w : Vol = record v { slots = v'.slots; buf = v'.buf } in
    let index : IsIndexOf put w = subst (IsIndexOf put) replaced.others (index_put image put v v' slot d mounted.index is replaced held) in
    let extent = extent_put image put v slot d bytes mounted.index low size dscb written is mounted.vtoc keeps in
    let good : slots_faults g (slots_of_vtoc put g v.vtoc) ≡ [] = ap (slots_faults g) is.slots ∙ lawful in
    let volume = volume_put image put v slot d is in
    let no_fault : volume_faults (volume_by put g v.vtoc) ≡ [] = ap volume_faults volume ∙ whole in
    let read : IsMounted put w = record {
      index = index;
      vtoc = extent;
      lawful = good;
      whole = no_fault;
      free = free ∙ sym (ap free_runs volume);
      volume = volume_is put g v.vtoc index.header extent is.tracks good no_fault;
    } in
    subst (IsMounted put) (sym replaced.others) read

-- another slot than slot 0 leaves the extent as it is
pub keeps_other : (slot : ℕ) (d : Dscb) (ss : List VtocSlot) → slot ≢ 0 → KeepsExtent slot d ss
keeps_other slot d ss other none s first = absurd (other none)
