-- An index as a fact with one proof at most, there and back.
use Rattle.std.proofs.Common.{◌≡◌, ◌≢◌, ⊎_elim, inl, inr, ◌/◌, ◌%◌, ℕ, zero, suc, Bool, true, false, cond, List, [], ◌∷◌, length, drop, Option, Some, None, refl, sym, ◌∙◌, ap, subst}
use Rattle.std.specs.Prelude.{◌⊎◌, nat_le}
use Rattle.std.specs.Option.{option_map}
use Rattle.std.proofs.lemmas.Bool.{le-leb}
use Rattle.ckd_image.specs.Track.{Record}
use Rattle.ckd_image.specs.Reading.{front_record, is_at_end, is_front, is_record_at, record_length, records_behind, records_of, records_to_end, records_up_to}
use Rattle.pack_spec.specs.Label.{heads_of, records_on, track_bytes}
use Rattle.vtoc_index.specs.declared.vol.Vol.{Vol}
use Rattle.vtoc_index.specs.Index.{IsMounted}
use Rattle.vtoc_index.specs.Kept.{IsKept}
use Rattle.vtoc_index.proofs.ExtentLaw.{volume_is}
use Rattle.vtoc_index.proofs.HeldLemmas.{front_taken, room, way}
use Rattle.track_records.specs.Buffers.{Buffer}
use Rattle.track_records.specs.Written.{StandsOn}

abbrev before : Record → List Record → List Record
before x xs = x ∷ xs

-- a list that begins so
begun : (x : Record) (m : Option (List Record)) (xs : List Record) → option_map (before x) m ≡ Some xs → (rest : List Record) × (m ≡ Some rest) × (xs ≡ x ∷ rest)
begun x None xs is = cc
begun x (Some rest) xs is = (rest, refl, cc)

-- records read to the end marker are read up to the last of them
counted_to_end : (left r : ℕ) (bytes : List ℕ) (xs : List Record) → records_to_end left r bytes ≡ Some xs → records_up_to (length xs) r bytes ≡ Some xs
unfolding records_to_end records_up_to
counted_to_end left r bytes [] is = ap (λ (b : Bool). cond b (Some []) None) (le-leb 8 (length bytes) (room left r bytes [] is))
counted_to_end zero r bytes (x ∷ xs) is = absurd (none (is_at_end bytes) is)
  where
    none : (b : Bool) → cond b (Some []) None ≡ Some (x ∷ xs) → ⊥
    none true same = cc
    none false same = cc
counted_to_end (suc left) r bytes (x ∷ xs) is = ⊎_elim (λ at_end. absurd (none at_end.1)) (λ at. later (λ more. counted_to_end left (suc r) (drop (record_length bytes) bytes) xs more) at.0 at.1 (begun (front_record bytes) _ (x ∷ xs) at.2)) (way (is_at_end bytes) (is_record_at r bytes) _ (x ∷ xs) is)
  where
    none : x ∷ xs ≡ [] → ⊥
    none same = cc

    later : (records_to_end left (suc r) (drop (record_length bytes) bytes) ≡ Some xs → records_up_to (length xs) (suc r) (drop (record_length bytes) bytes) ≡ Some xs) → is_at_end bytes ≡ false → is_record_at r bytes ≡ true
        → (rest : List Record) × (records_to_end left (suc r) (drop (record_length bytes) bytes) ≡ Some rest) × (x ∷ xs ≡ front_record bytes ∷ rest) → records_up_to (suc (length xs)) r bytes ≡ Some (x ∷ xs)
    later others behind at more =
        let same : more.0 ≡ xs = cc in
        let first : x ≡ front_record bytes = cc in
        ap (λ (b : Bool). cond b None (cond (is_record_at r bytes) (option_map (before (front_record bytes)) (records_up_to (length xs) (suc r) (drop (record_length bytes) bytes))) None)) behind
        ∙ ap (λ (b : Bool). cond b (option_map (before (front_record bytes)) (records_up_to (length xs) (suc r) (drop (record_length bytes) bytes))) None) at
        ∙ ap (option_map (before (front_record bytes))) (others (more.1 ∙ ap Some same))
        ∙ ap (λ (y : Record). Some (y ∷ xs)) (sym first)

-- records read up to one of them are so many
counted_up_to : (n r : ℕ) (bytes : List ℕ) (xs : List Record) → records_up_to n r bytes ≡ Some xs → n ≡ length xs
unfolding records_up_to
counted_up_to zero r bytes xs is = by_room (nat_le 8 (length bytes)) is
  where
    by_room : (b : Bool) → cond b (Some []) None ≡ Some xs → 0 ≡ length xs
    by_room true same = let none : xs ≡ [] = cc in sym (ap length none)
    by_room false same = cc
counted_up_to (suc n) r bytes xs is = by_end (λ rest more. counted_up_to n (suc r) (drop (record_length bytes) bytes) rest more) (is_at_end bytes) (is_record_at r bytes) is
  where
    by_end : ((rest : List Record) → records_up_to n (suc r) (drop (record_length bytes) bytes) ≡ Some rest → n ≡ length rest) → (b c : Bool) → cond b None (cond c (option_map (before (front_record bytes)) (records_up_to n (suc r) (drop (record_length bytes) bytes))) None) ≡ Some xs → suc n ≡ length xs
    by_end others true c same = cc
    by_end others false true same =
        let more = begun (front_record bytes) _ xs same in
        ap suc (others more.0 more.1) ∙ sym (ap length more.2)
    by_end others false false same = cc

counted_behind : (u : Option ℕ) (bytes : List ℕ) (xs : List Record) → records_behind u bytes ≡ Some xs → records_behind (Some (length xs)) bytes ≡ Some xs
counted_behind None bytes xs is = counted_to_end 255 1 bytes xs is
counted_behind (Some n) bytes xs is = subst (λ (m : ℕ). records_up_to m 1 bytes ≡ Some xs) (counted_up_to n 1 bytes xs is) is

counted_of : (c h : ℕ) (u : Option ℕ) (bytes : List ℕ) (xs : List Record) → records_of c h u bytes ≡ Some xs → records_of c h (Some (length xs)) bytes ≡ Some xs
unfolding records_of
counted_of c h u bytes xs is =
    let taken = front_taken (is_front c h bytes) (records_behind u (drop 21 bytes)) xs is in
    ap (λ (b : Bool). cond b (records_behind (Some (length xs)) (drop 21 bytes)) None) taken.0 ∙ counted_behind u (drop 21 bytes) xs taken.1

-- the records of a buffer are the first so many on its track
counted : (image : List ℕ) (b : Buffer) → StandsOn image b → records_on image b.geometry (Some (length b.records)) b.track ≡ Some b.records
unfolding records_on
counted image b stands = counted_of (b.track / heads_of b.geometry) (b.track % heads_of b.geometry) stands.0 (track_bytes image b.geometry b.track) b.records stands.1

-- the index of a mounted image is kept
pub kept_of : (image : List ℕ) (v : Vol) → IsMounted image v → IsKept image v
kept_of image v mounted = record {
  header = mounted.index.header;
  serial = mounted.index.serial;
  vtoc = mounted.vtoc;
  tracks = mounted.index.tracks;
  lawful = mounted.lawful;
  whole = mounted.whole;
  free = mounted.free;
  slots = mounted.index.slots;
  firsts = mounted.index.firsts;
  buffer = λ some. ⊎_elim (λ (none : v.buf.records ≡ []). absurd (some none)) (λ (stands : StandsOn image v.buf). counted image v.buf stands) mounted.index.buffer;
}

held : (image : List ℕ) (b : Buffer) (xs : List Record) → b.records ≡ xs → (b.records ≢ [] → records_on image b.geometry (Some (length b.records)) b.track ≡ Some b.records) → (b.records ≡ []) ⊎ StandsOn image b
held image b [] is stands = inl is
held image b (x ∷ xs) is stands = inr (Some (length b.records), stands (λ (none : b.records ≡ []). other (sym is ∙ none)))
  where
    other : x ∷ xs ≡ [] → ⊥
    other same = cc

-- and one that is kept is that of a mounted image
pub mounted_of : (image : List ℕ) (v : Vol) → IsKept image v → IsMounted image v
mounted_of image v kept = record {
  index = record {
    header = kept.header;
    serial = kept.serial;
    tracks = kept.tracks;
    slots = kept.slots;
    firsts = kept.firsts;
    buffer = held image v.buf v.buf.records refl kept.buffer;
  };
  vtoc = kept.vtoc;
  lawful = kept.lawful;
  whole = kept.whole;
  free = kept.free;
  volume = volume_is image v.geometry v.vtoc kept.header kept.vtoc kept.tracks kept.lawful kept.whole;
}
