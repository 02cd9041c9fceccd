-- What an image is on which the key and the data of one record of a track were written.
use Rattle.std.proofs.Common.{subst, ◌≡◌, ◌<◌, ◌≤◌, ◌+◌, ◌-◌, ◌*◌, ◌/◌, ◌%◌, ℕ, List, ◌++◌, length, take, drop, refl, sym, ◌∙◌, ap, ⊎_elim, arith, length-drop, length-append}
use Rattle.std.proofs.Math.Nat.{mul-le-mul_left, mul-le-mul_right}
use Rattle.std.proofs.lemmas.Bool.{cases_lt}
use Rattle.std.proofs.Math.Seq.{take-append-add}
use Rattle.std.proofs.lemmas.List.{drop-drop, drop-take, take-take, length-take-le}
use Rattle.ckd_image.specs.declared.header.Geometry.{Geometry}
use Rattle.ckd_image.specs.Header.{HasGeometry}
use Rattle.ckd_image.specs.Device.{row_of}
use Rattle.ckd_image.specs.Reading.{records_of}
use Rattle.std.specs.Option.{option_map}
use Rattle.hall_core.specs.Facts.{Facts, unit_of}
use Rattle.stop_model.specs.Files.{File, patched, written}
use Rattle.hall_core.specs.Images.{AreWhole, image_of}
use Rattle.track_records.specs.Calls.{HasTrack}
use Rattle.track_records.proofs.ImageLemmas.{unit_written}
use Rattle.pack_spec.specs.Label.{heads_of, records_on, track_bytes}
use Rattle.pack_spec.specs.Label.{tracks_of}
use Rattle.track_records.specs.Buffers.{Buffer}
use Rattle.track_records.specs.Updates.{with_parts, offset_of, HasLengths}
use Rattle.track_records.specs.Written.{place_of, StandsOn, IsUpdated, with_record}
use Rattle.track_records.proofs.PatchLemmas.{take-patched, drop-patched, drop-patched_behind, length-patched}
use Rattle.track_records.proofs.StandLemmas.{stand}
use Rattle.track_records.proofs.UpdateLemmas.{track_written, written_inside}

-- a front part that holds what was written is the front part, written over
pub take-patched_within : (image bytes : List ℕ) (n at : ℕ) → at + length bytes ≤ n → n ≤ length image → take n (patched image at bytes) ≡ patched (take n image) at bytes
unfolding patched
take-patched_within image bytes n at within inside =
    let m : ℕ = at + length bytes in
    let parts : n ≡ m + (n - m) = omega (arith, within) in
    let front : length (take at image ++ bytes) ≡ m = length-append (take at image) bytes ∙ ap (λ (k : ℕ). k + length bytes) (length-take-le at image (omega (arith, within, inside))) in
    let size : n ≡ length (take at image ++ bytes) + (n - m) = omega (arith, parts, front) in
    ap (λ (k : ℕ). take k ((take at image ++ bytes) ++ drop m image)) size
    ∙ take-append-add (take at image ++ bytes) (drop m image) (n - m)
    ∙ sym (
    ap (λ (l : List ℕ). (l ++ bytes) ++ drop m (take n image)) (take-take at n image (omega (arith, within)))
    ∙ ap (λ (l : List ℕ). (take at image ++ bytes) ++ l) (ap (λ (k : ℕ). drop m (take k image)) parts ∙ drop-take m (n - m) image)
    )

-- the bytes after what was written are as they were
pub behind : (image bytes : List ℕ) (n at : ℕ) → at + length bytes ≤ n → at ≤ length image → drop n (patched image at bytes) ≡ drop n image
behind image bytes n at past inside =
    let m : ℕ = at + length bytes in
    let parts : n ≡ m + (n - m) = omega (arith, past) in
    ap (λ (k : ℕ). drop k (patched image at bytes)) parts
    ∙ sym (drop-drop (n - m) m (patched image at bytes))
    ∙ ap (drop (n - m)) (drop-patched_behind image bytes m at refl inside)
    ∙ drop-drop (n - m) m image
    ∙ ap (λ (k : ℕ). drop k image) (sym parts)

-- and so are those before it
pub before : (image bytes : List ℕ) (n m at : ℕ) → n + m ≤ at → at ≤ length image → take m (drop n (patched image at bytes)) ≡ take m (drop n image)
before image bytes n m at low inside =
    sym (drop-take n m (patched image at bytes)) ∙ ap (drop n) (take-patched image bytes (n + m) at low inside) ∙ drop-take n m image

-- where tracks stand
pub track_behind : (size t u : ℕ) → t < u → 512 + t * size + size ≤ 512 + u * size
track_behind size t u low = let m : (t + 1) * size ≤ u * size = mul-le-mul_right size (omega (arith, low)) in omega (arith, m)

pub track_inside : (g : Geometry) (len track : ℕ) → HasGeometry len g → track < tracks_of g → 512 + track * g.track_size + g.track_size ≤ len
track_inside g len track has low =
    let heads : ℕ = (row_of g.device).heads in
    let whole : g.track_size * (track + 1) ≤ g.track_size * (g.cylinders * heads) = mul-le-mul_left g.track_size (omega (arith, low)) in
    omega (arith, whole, has.whole)

-- A write of one record's key and data changes that record alone.
pub updated : (b : Buffer) (k : ℕ) (key content image : List ℕ) → HasGeometry (length image) b.geometry → b.track < tracks_of b.geometry → StandsOn image b → HasLengths b.records k (length key) (length content)
    → IsUpdated b k key content image (patched image (place_of b k) (key ++ content))
unfolding records_on track_bytes
updated b k key content image has low stands lengths =
    let g : Geometry = b.geometry in
    let size : ℕ = g.track_size in
    let base : ℕ = 512 + b.track * size in
    let o : ℕ = 21 + (offset_of b.records k + 8) in
    let new : List ℕ = key ++ content in
    let zs : List ℕ = patched image (place_of b k) new in
    let held : List ℕ = take size (drop base image) in
    let whole : base + size ≤ length image = track_inside g (length image) b.track has low in
    let fits : length held ≡ size = length-take-le size (drop base image) (omega (arith, whole, length-drop base image)) in
    let standing = stand (b.track / heads_of g) (b.track % heads_of g) stands.0 held b.records stands.1 in
    let inside = written_inside 1 k (drop 21 held) key content b.records standing.records_stand lengths in
    let within : o + length new ≤ size = omega (arith, inside, standing.front, fits, length-drop 21 held) in
    let place : place_of b k ≡ base + o = omega arith in
    let at_end : place_of b k ≤ length image = omega (arith, whole, within) in
    let own : take size (drop base zs) ≡ patched held o new =
    ap (λ (n : ℕ). take size (drop base (patched image n new))) place
    ∙ ap (take size) (drop-patched image new base o (omega (arith, whole, within)))
    ∙ take-patched_within (drop base image) new size o within (omega (arith, whole, length-drop base image))
    in
    record {
      bytes = refl;
      size = length-patched image new (place_of b k) (omega (arith, whole, within));
      header = take-patched image new 512 (place_of b k) (omega arith) at_end;
      records = λ upto. ap (λ (t : List ℕ). records_of (b.track / heads_of g) (b.track % heads_of g) upto t) own ∙ track_written (b.track / heads_of g) (b.track % heads_of g) k upto held key content b.records standing.front standing.records_stand lengths;
      others = λ track other. ⊎_elim
          (λ under. before image new (512 + track * size) size (place_of b k) (omega (arith, track_behind size track b.track under)) at_end)
          (λ over. ap (take size) (behind image new (512 + track * size) (place_of b k) (omega (arith, within, track_behind size b.track track (omega (arith, over, other)))) at_end))
          (cases_lt track b.track);
    }

-- the same of a unit, over files that were written
pub unit_updated : (files files' : List File) (old new : Facts) (b : Buffer) (k : ℕ) (key content : List ℕ) → AreWhole files old.units → HasTrack old.units b.unit b.geometry b.track → HasLengths b.records k (length key) (length content) → new.units ≡ old.units
    → files' ≡ written files (unit_of old.units b.unit).name (place_of b k) (key ++ content) → StandsOn (image_of files old b.unit) b → IsUpdated b k key content (image_of files old b.unit) (image_of files' new b.unit)
unit_updated files files' old new b k key content whole has lengths units is stands =
    let w = unit_written files files' old new b.unit (place_of b k) (key ++ content) whole has.attached units is in
    let fits : HasGeometry (length (image_of files old b.unit)) b.geometry = subst (λ (n : ℕ). HasGeometry n b.geometry) (sym w.size) has.whole in
    subst (IsUpdated b k key content (image_of files old b.unit)) (sym w.image) (updated b k key content (image_of files old b.unit) fits has.inside stands lengths)

-- the buffer that was written holds the records of the track
pub stands_written : (b : Buffer) (k : ℕ) (key content image updated : List ℕ) → IsUpdated b k key content image updated → StandsOn image b → StandsOn updated (with_record b k key content)
stands_written b k key content image updated is stands = (stands.0, is.records stands.0 ∙ ap (option_map (with_parts k key content)) stands.1)
