-- A track of slots, of which one is written over.
use Rattle.std.proofs.Common.{◌≡◌, ◌<◌, ◌+◌, ◌*◌, ℕ, zero, suc, Bool, true, false, cond, List, [], ◌∷◌, ◌++◌, length, drop, Option, Some, None, Result, Ok, refl, sym, ◌∙◌, ap, arith}
use Rattle.std.specs.Prelude.{◌&&◌, ◌==◌, option_and_then, unwrap_or}
use Rattle.std.specs.List.{list_all}
use Rattle.std.specs.Option.{option_map}
use Rattle.std.proofs.lemmas.Bool.{and_parts, eqb-true, eq-eqb}
use Rattle.ckd_image.specs.declared.header.Geometry.{Geometry}
use Rattle.ckd_image.specs.Reading.{record_length}
use Rattle.ckd_image.specs.Track.{Record}
use Rattle.dscb_codec.specs.declared.Dscb.{Dscb}
use Rattle.dscb_codec.specs.declared.DscbErr.{DscbErr}
use Rattle.dscb_codec.specs.Layout.{decoded}
use Rattle.pack_spec.specs.declared.slot.VtocSlot.{VtocSlot}
use Rattle.pack_spec.specs.Label.{records_on}
use Rattle.pack_spec.specs.Vtoc.{is_slot}
use Rattle.pack_spec.specs.Slots.{slots_in, slots_on, record_address, slot_at, slots_from}
use Rattle.vtoc_index.specs.Index.{with_dscb}
use Rattle.track_records.specs.Updates.{HasLengths, StandFrom, length_of, offset_of, with_parts}

-- a slot has a key of 44 bytes and 96 bytes of data
pub slot_lengths : (x : Record) → is_slot x ≡ true → (length x.key ≡ 44) × (length x.data ≡ 96)
slot_lengths x is = let parts = and_parts (length x.key == 44) (length x.data == 96) is in (eqb-true (length x.key) 44 parts.0, eqb-true (length x.data) 96 parts.1)

both : (b c : Bool) → b ≡ true → c ≡ true → (b && c) ≡ true
both b c is are = ap (λ (x : Bool). x && c) is ∙ are

-- slots of which one is written over are slots
pub still_slots : (k : ℕ) (key content : List ℕ) (xs : List Record) → length key ≡ 44 → length content ≡ 96 → list_all is_slot xs ≡ true → list_all is_slot (with_parts k key content xs) ≡ true
still_slots k key content [] keys contents are = refl
still_slots zero key content (x ∷ xs) keys contents are =
    both _ _ (both _ _ (eq-eqb (length key) 44 keys) (eq-eqb (length content) 96 contents)) (and_parts (is_slot x) (list_all is_slot xs) are).1
still_slots (suc k) key content (x ∷ xs) keys contents are =
    let parts = and_parts (is_slot x) (list_all is_slot xs) are in
    both _ _ parts.0 (still_slots k key content xs keys contents parts.1)

-- each of these records has the lengths of a slot, and they stand 148 bytes apart
pub slot_there : (k : ℕ) (xs : List Record) → list_all is_slot xs ≡ true → k < length xs → HasLengths xs k 44 96
slot_there k [] are low = absurd (omega (arith, low))
slot_there zero (x ∷ xs) are low = let has = slot_lengths x (and_parts (is_slot x) (list_all is_slot xs) are).0 in (sym has.0, sym has.1)
slot_there (suc k) (x ∷ xs) are low = slot_there k xs (and_parts (is_slot x) (list_all is_slot xs) are).1 (omega (arith, low))

pub slot_offset : (k : ℕ) (xs : List Record) → list_all is_slot xs ≡ true → k < length xs → offset_of xs k ≡ 148 * k
slot_offset k [] are low = absurd (omega (arith, low))
slot_offset zero (x ∷ xs) are low = omega arith
slot_offset (suc k) (x ∷ xs) are low =
    let parts = and_parts (is_slot x) (list_all is_slot xs) are in
    let has = slot_lengths x parts.0 in
    omega (arith, has.0, has.1, slot_offset k xs parts.1 (omega (arith, low)))

-- records that stand from one place on begin alike
pub same_offset : (r k : ℕ) (bytes : List ℕ) (xs ys : List Record) → StandFrom r bytes xs → StandFrom r bytes ys → k < length xs → k < length ys → offset_of xs k ≡ offset_of ys k
same_offset r k bytes [] ys first second low below = absurd (omega (arith, low))
same_offset r k bytes (x ∷ xs) [] first second low below = absurd (omega (arith, below))
same_offset r zero bytes (x ∷ xs) (y ∷ ys) first second low below = refl
same_offset r (suc k) bytes (x ∷ xs) (y ∷ ys) first second low below =
    let here : length_of x ≡ length_of y = ap length_of (first.1.0 ∙ sym second.1.0) in
    omega (arith, here, same_offset (suc r) k (drop (record_length bytes) bytes) xs ys first.1.1 second.1.1 (omega (arith, low)) (omega (arith, below)))

pub same_lengths : (r k n m : ℕ) (bytes : List ℕ) (xs ys : List Record) → StandFrom r bytes xs → StandFrom r bytes ys → k < length xs → HasLengths ys k n m → HasLengths xs k n m
same_lengths r k n m bytes [] ys first second low has = absurd (omega (arith, low))
same_lengths r k n m bytes (x ∷ xs) [] first second low has = absurd has
same_lengths r zero n m bytes (x ∷ xs) (y ∷ ys) first second low has =
    let same : y ≡ x = second.1.0 ∙ sym first.1.0 in
    (has.0 ∙ ap (λ (z : Record). length z.key) same, has.1 ∙ ap (λ (z : Record). length z.data) same)
same_lengths r (suc k) n m bytes (x ∷ xs) (y ∷ ys) first second low has = same_lengths (suc r) k n m (drop (record_length bytes) bytes) xs ys first.1.1 second.1.1 (omega (arith, low)) has

-- the slots of records, of which one is written over
pub put_slots : (g : Geometry) (track r k : ℕ) (key content : List ℕ) (d : Dscb) (xs : List Record) → decoded (key ++ content) ≡ Ok d → slots_from g track r (with_parts k key content xs) ≡ with_dscb k d (slots_from g track r xs)
put_slots g track r k key content d [] is = refl
put_slots g track r zero key content d (x ∷ xs) is = ap (λ (c : Result Dscb DscbErr). record { address = record_address g track r; content = c } ∷ slots_from g track (r + 1) xs) is
put_slots g track r (suc k) key content d (x ∷ xs) is = ap (λ (l : List VtocSlot). slot_at g track r x ∷ l) (put_slots g track (r + 1) k key content d xs is)

pub length-with_dscb : (k : ℕ) (d : Dscb) (ss : List VtocSlot) → length (with_dscb k d ss) ≡ length ss
length-with_dscb k d [] = refl
length-with_dscb zero d (s ∷ ss) = refl
length-with_dscb (suc k) d (s ∷ ss) = ap suc (length-with_dscb k d ss)

-- the slots on a track; none where it breaks the rules
abbrev pub slots_at : List ℕ → Geometry → ℕ → List VtocSlot
slots_at image g track = unwrap_or (slots_on image g track) []

-- the records that the slots of a track are
pub record SlotRecords (image : List ℕ) (g : Geometry) (track : ℕ) (found : List VtocSlot) : Type 0 where
  pub records : List Record
  pub read : records_on image g None track ≡ Some records
  pub are : list_all is_slot records ≡ true
  pub is : found ≡ slots_from g track 1 records

records_found : (image : List ℕ) (g : Geometry) (track : ℕ) (found : List VtocSlot) (o : Option (List Record)) → records_on image g None track ≡ o → option_and_then (slots_in g track) o ≡ Some found → SlotRecords image g track found
records_found image g track found None read is = cc
records_found image g track found (Some records) read is = by_test (list_all is_slot records) refl is
  where
    by_test : (b : Bool) → list_all is_slot records ≡ b → cond b (Some (slots_from g track 1 records)) None ≡ Some found → SlotRecords image g track found
    by_test true are same = record { records = records; read = read; are = are; is = cc }
    by_test false are same = cc

pub slot_records : (image : List ℕ) (g : Geometry) (track : ℕ) (found : List VtocSlot) → slots_on image g track ≡ Some found → SlotRecords image g track found
unfolding slots_on
slot_records image g track found is = records_found image g track found (records_on image g None track) refl is

-- a track with slots is one that is read
pub slots_found : (image : List ℕ) (g : Geometry) (track k : ℕ) → k < length (slots_at image g track) → (found : List VtocSlot) × ((slots_on image g track ≡ Some found) × (k < length found))
slots_found image g track k low = by_slots (slots_on image g track) refl low
  where
    by_slots : (o : Option (List VtocSlot)) → slots_on image g track ≡ o → k < length (unwrap_or o []) → (found : List VtocSlot) × ((slots_on image g track ≡ Some found) × (k < length found))
    by_slots None is below = absurd (omega (arith, below))
    by_slots (Some found) is below = (found, (is, below))

-- the slots of a track, by its records
pub slots_by : (image : List ℕ) (g : Geometry) (track : ℕ) (records : List Record) → records_on image g None track ≡ Some records → list_all is_slot records ≡ true → slots_on image g track ≡ Some (slots_from g track 1 records)
unfolding slots_on
slots_by image g track records read are =
    ap (option_and_then (slots_in g track)) read ∙ ap (λ (b : Bool). cond b (Some (slots_from g track 1 records)) None) are

pub slots_at-some : (image : List ℕ) (g : Geometry) (track : ℕ) (found : List VtocSlot) → slots_on image g track ≡ Some found → slots_at image g track ≡ found
slots_at-some image g track found is = ap (λ (o : Option (List VtocSlot)). unwrap_or o []) is

-- A slot of a track was put: the track has it, and is otherwise as before.
pub record TrackPut (image put : List ℕ) (g : Geometry) (track k : ℕ) (d : Dscb) : Type 0 where
  pub found : List VtocSlot
  pub good : slots_on put g track ≡ Some found
  pub slots : slots_at put g track ≡ with_dscb k d (slots_at image g track)

pub track_put : (image put : List ℕ) (g : Geometry) (track k : ℕ) (key content : List ℕ) (d : Dscb) (records : List Record) → length key ≡ 44 → length content ≡ 96 → decoded (key ++ content) ≡ Ok d → records_on image g None track ≡ Some records → list_all is_slot records ≡ true
    → records_on put g None track ≡ option_map (with_parts k key content) (records_on image g None track) → TrackPut image put g track k d
track_put image put g track k key content d records keys contents dscb read are is =
    let wrote : List Record = with_parts k key content records in
    let new : records_on put g None track ≡ Some wrote = is ∙ ap (option_map (with_parts k key content)) read in
    let good : slots_on put g track ≡ Some (slots_from g track 1 wrote) = slots_by put g track wrote new (still_slots k key content records keys contents are) in
    let old : slots_on image g track ≡ Some (slots_from g track 1 records) = slots_by image g track records read are in
    record {
      found = slots_from g track 1 wrote;
      good = good;
      slots =
          slots_at-some put g track (slots_from g track 1 wrote) good
          ∙ put_slots g track 1 k key content d records dscb
          ∙ ap (with_dscb k d) (sym (slots_at-some image g track (slots_from g track 1 records) old));
    }
