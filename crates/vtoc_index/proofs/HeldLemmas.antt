-- A buffer that holds a slot of its track.
use Rattle.std.proofs.Common.{◌≡◌, ◌⊎◌, inl, inr, ⊎_elim, ◌<◌, ◌≤◌, ◌-◌, ◌/◌, ◌%◌, ℕ, zero, suc, Bool, true, false, cond, IsTrue, List, [], ◌∷◌, length, take, drop, Option, Some, None, refl, sym, ◌∙◌, ap, arith}
use Rattle.std.specs.Prelude.{nat_le, ◌&&◌, ◌==◌, slice_get, slice_index, Err}
use Rattle.std.specs.Option.{option_map}
use Rattle.std.specs.Bool.{IsFalse}
use Rattle.std.proofs.lemmas.Bool.{and_parts, leb-true}
use Rattle.std.proofs.lemmas.List.{length-take}
use Rattle.std.proofs.lemmas.Slice.Eq.{bytes_eq-Decides}
use Rattle.ckd_image.specs.declared.header.Geometry.{Geometry}
use Rattle.ckd_image.specs.Track.{Record, end_marker}
use Rattle.ckd_image.specs.Reading.{records_to_end, is_at_end, is_record_at}
use Rattle.hall_core.specs.Facts.{Facts, DeviceCall, NotedCall}
use Rattle.stop_model.specs.Counts.{Rose}
use Rattle.pack_spec.specs.Label.{heads_of, records_on, track_bytes}
use Rattle.vtoc_index.specs.Puts.{HasSlot}
use Rattle.vtoc_index.proofs.TrackPut.{slot_records, slot_there, same_lengths}
use Rattle.pack_spec.proofs.SlotCounts.{length-slots_from}
use Rattle.track_records.specs.Buffers.{Buffer}
use Rattle.track_records.specs.Reads.{IsBroken}
use Rattle.track_records.specs.declared.error.TrackErr.TheVariants.{BadCount}
use Rattle.track_records.specs.Updates.{HasLengths}
use Rattle.track_records.specs.Written.{StandsOn}
use Rattle.track_records.proofs.StandLemmas.{stand}
use Rattle.track_records.proofs.UpdateLemmas.{has_lengths}

-- a record whose key and data were measured
pub slot_tested : (xs : List Record) (k : ℕ) (key content : List ℕ) → option_map (λ (x : Record). x.key) (slice_get xs k) ≡ Some key → option_map (λ (x : Record). x.data) (slice_get xs k) ≡ Some content → length key ≡ 44 → length content ≡ 96 → HasLengths xs k 44 96
slot_tested xs k key content is are keys contents = has_lengths xs k key content 44 96 is are (sym keys) (sym contents)

same_some : {a b : List ℕ} → Some a ≡ Some b → a ≡ b
same_some is = cc

pub slot_untested : (xs : List Record) (k : ℕ) (key content : List ℕ) → option_map (λ (x : Record). x.key) (slice_get xs k) ≡ Some key → option_map (λ (x : Record). x.data) (slice_get xs k) ≡ Some content → HasLengths xs k 44 96 → (length key ≡ 44) × (length content ≡ 96)
slot_untested [] k key content is are has = absurd has
slot_untested (x ∷ xs) zero key content is are has = (sym (has.0 ∙ ap length (same_some is)), sym (has.1 ∙ ap length (same_some are)))
slot_untested (x ∷ xs) (suc k) key content is are has = slot_untested xs k key content is are has

-- bytes whose first eight are an end marker are eight at least
marker_room : (bytes : List ℕ) → is_at_end bytes ≡ true → 8 ≤ length bytes
marker_room bytes is =
    let same : length (take 8 bytes) ≡ 8 = ap length ((bytes_eq-Decides (take 8 bytes) end_marker).0 is) in
    omega (arith, same, length-take 8 bytes)

record_room : (r : ℕ) (bytes : List ℕ) → is_record_at r bytes ≡ true → 8 ≤ length bytes
record_room r bytes is = leb-true 8 (length bytes) (and_parts (nat_le 8 (length bytes)) _ (and_parts (nat_le 8 (length bytes) && (slice_index bytes 4 == r)) _ is).0).0

-- at the end marker, or at a record
pub way : (b c : Bool) (m : Option (List Record)) (xs : List Record) → cond b (Some []) (cond c m None) ≡ Some xs → ((b ≡ true) × (xs ≡ [])) ⊎ ((b ≡ false) × (c ≡ true) × (m ≡ Some xs))
way true c m xs is = inl (refl, cc)
way false true m xs is = inr (refl, refl, is)
way false false m xs is = cc

at_marker : (b : Bool) (xs : List Record) → cond b (Some []) None ≡ Some xs → (b ≡ true) × (xs ≡ [])
at_marker true xs is = (refl, cc)
at_marker false xs is = cc

pub room : (left r : ℕ) (bytes : List ℕ) (xs : List Record) → records_to_end left r bytes ≡ Some xs → 8 ≤ length bytes
unfolding records_to_end
room zero r bytes xs is = marker_room bytes (at_marker (is_at_end bytes) xs is).0
room (suc left) r bytes xs is = ⊎_elim (λ at_end. marker_room bytes at_end.0) (λ at. record_room r bytes at.1) (way (is_at_end bytes) (is_record_at r bytes) _ xs is)

pub front_taken : (b : Bool) (m : Option (List Record)) (xs : List Record) → cond b m None ≡ Some xs → (b ≡ true) × (m ≡ Some xs)
front_taken true m xs is = (refl, is)
front_taken false m xs is = cc

-- a track of slots isn't broken
pub slot_unbroken : (image : List ℕ) (g : Geometry) (track r : ℕ) → HasSlot image g track r → records_on image g None track ≡ None → ⊥
unfolding records_on
slot_unbroken image g track r has broken = let of = slot_records image g track has.found has.slots in clash of.read broken
  where
    clash : {o : Option (List Record)} {xs : List Record} → o ≡ Some xs → o ≡ None → ⊥
    clash is none = cc

-- a buffer into which such a track was read holds its slots
pub slot_held : (image : List ℕ) (g : Geometry) (track r : ℕ) (xs : List Record) → HasSlot image g track r → records_on image g None track ≡ Some xs → r ≤ length xs
unfolding records_on
slot_held image g track r xs has read =
    let of = slot_records image g track has.found has.slots in
    let same : length xs ≡ length of.records = ap length (some_same (sym read ∙ of.read)) in
    omega (arith, same, has.there, ap length of.is, length-slots_from g track 1 of.records)
  where
    some_same : {a b : List Record} → Some a ≡ Some b → a ≡ b
    some_same is = cc

-- a buffer of a track of slots holds records of their lengths
pub held_slot : (image : List ℕ) (b : Buffer) (r : ℕ) → HasSlot image b.geometry b.track r → StandsOn image b → 1 ≤ r → r ≤ length b.records → HasLengths b.records (r - 1) 44 96
unfolding records_on
held_slot image b r has stands first low =
    let of = slot_records image b.geometry b.track has.found has.slots in
    let c : ℕ = b.track / heads_of b.geometry in
    let h : ℕ = b.track % heads_of b.geometry in
    let bytes : List ℕ = track_bytes image b.geometry b.track in
    let one = stand c h stands.0 bytes b.records stands.1 in
    let other = stand c h None bytes of.records of.read in
    let there : r - 1 < length of.records = omega (arith, has.there, first, ap length of.is, length-slots_from b.geometry b.track 1 of.records) in
    same_lengths 1 (r - 1) 44 96 (drop 21 bytes) b.records of.records one.records_stand other.records_stand (omega (arith, first, low)) (slot_there (r - 1) of.records of.are there)

-- a hall that tells nothing counts what differs as a fault of the device
pub noted : {T E : Type 0} {tells : Bool} {old mid new : Facts} {e : E} → mid.units ≡ old.units → mid.references ≡ old.references → mid.print_faults ≡ old.print_faults → old.dev_faults ≤ mid.dev_faults → NotedCall mid new → (IsFalse tells → Rose mid.dev_faults new.dev_faults) → (IsTrue tells → ⊥) → DeviceCall {T = T} {E = E} old new (Err e)
noted {tells = tells} {old = old} {mid = mid} {new = new} units references prints later call rose never = record {
  units = call.units ∙ units;
  references = call.references ∙ references;
  prints = call.prints ∙ prints;
  later = omega (arith, later, call.later);
  done = tt;
  failed = omega (arith, later, risen tells rose never);
}
  where
    risen : (b : Bool) → (IsFalse b → Rose mid.dev_faults new.dev_faults) → (IsTrue b → ⊥) → Rose mid.dev_faults new.dev_faults
    risen true up none = absurd (none refl)
    risen false up none = up refl

-- a track that breaks the grammar is read by no records
pub broken_none : (image : List ℕ) (g : Geometry) (upto : Option ℕ) (track at : ℕ) → IsBroken image g upto track (BadCount at) → records_on image g upto track ≡ None
unfolding records_on
broken_none image g upto track at broken = broken.0
