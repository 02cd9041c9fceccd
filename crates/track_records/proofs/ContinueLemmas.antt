-- What an image is on which a track goes on after its records, and ends there.
use Rattle.std.proofs.Common.{◌≡◌, ◌≢◌, ◌⊎◌, ◌<◌, ◌≤◌, ◌+◌, ◌*◌, ◌/◌, ◌%◌, ℕ, List, [], ◌∷◌, ◌++◌, length, take, drop, Option, Some, None, refl, sym, ◌∙◌, ap, subst, ⊎_elim, arith, length-append, length-drop, append_assoc}
use Rattle.std.proofs.lemmas.Bool.{cases_lt}
use Rattle.std.proofs.lemmas.List.{length-take-le}
use Rattle.std.proofs.lemmas.Nat.{from_be_bytes-to_be_bytes_2}
use Rattle.std.specs.Int.{w16, from_be_bytes, to_be_bytes}
use Rattle.ckd_image.specs.declared.device.DiskType.{DiskType}
use Rattle.ckd_image.specs.declared.device.DiskType.TheVariants.{D2311, D2314, D3330, D3350}
use Rattle.ckd_image.specs.declared.header.Geometry.{Geometry}
use Rattle.ckd_image.specs.Device.{row_of}
use Rattle.ckd_image.specs.Header.{HasGeometry}
use Rattle.ckd_image.specs.Track.{Record, IsRecord, AreRecords, end_marker, record_bytes, records_bytes}
use Rattle.ckd_image.specs.Reading.{records_of}
use Rattle.ckd_image.specs.Writing.{front_bytes, record_on}
use Rattle.ckd_image.proofs.WrittenTracks.{written_whole}
use Rattle.hall_core.specs.Facts.{Facts, unit_of}
use Rattle.hall_core.specs.Images.{AreWhole, image_of}
use Rattle.stop_model.specs.Files.{File, patched, written}
use Rattle.pack_spec.specs.Label.{heads_of, tracks_of, records_on, track_bytes}
use Rattle.track_records.specs.Buffers.{Buffer}
use Rattle.track_records.specs.Calls.{HasTrack}
use Rattle.track_records.specs.Updates.{offset_of}
use Rattle.track_records.specs.Written.{StandsOn}
use Rattle.track_records.specs.Appends.{record_of, end_of, start_behind, bytes_behind, continuation, place_behind, MayContinue, IsContinued, IsAppended, IsSealed, with_more}
use Rattle.track_records.proofs.ImageLemmas.{unit_written}
use Rattle.track_records.proofs.PatchLemmas.{take-patched, drop-patched, length-patched}
use Rattle.track_records.proofs.WrittenLemmas.{take-patched_within, behind, before, track_behind, track_inside}
use Rattle.track_records.proofs.BehindLemmas.{track_continued}

-- An image over a part of one track of which bytes were written.
pub record TrackPatched (g : Geometry) (track o : ℕ) (new image zs : List ℕ) : Type 0 where
  pub size : length zs ≡ length image
  pub header : take 512 zs ≡ take 512 image
  pub own : track_bytes zs g track ≡ patched (track_bytes image g track) o new
  pub long : length (track_bytes image g track) ≡ g.track_size
  pub others : (other : ℕ) → other ≢ track → track_bytes zs g other ≡ track_bytes image g other

pub track_patched : (g : Geometry) (track o : ℕ) (new image : List ℕ) → HasGeometry (length image) g → track < tracks_of g → o + length new ≤ g.track_size → TrackPatched g track o new image (patched image (512 + track * g.track_size + o) new)
unfolding track_bytes
track_patched g track o new image has low within =
    let size : ℕ = g.track_size in
    let base : ℕ = 512 + track * size in
    let zs : List ℕ = patched image (base + o) new in
    let held : List ℕ = take size (drop base image) in
    let whole : base + size ≤ length image = track_inside g (length image) track has low in
    let at_end : base + o ≤ length image = omega (arith, whole, within) in
    record {
      size = length-patched image new (base + o) (omega (arith, whole, within));
      header = take-patched image new 512 (base + o) (omega arith) at_end;
      own = ap (take size) (drop-patched image new base o at_end) ∙ take-patched_within (drop base image) new size o within (omega (arith, whole, length-drop base image));
      long = length-take-le size (drop base image) (omega (arith, whole, length-drop base image));
      others = λ other apart. ⊎_elim
          (λ under. before image new (512 + other * size) size (base + o) (omega (arith, track_behind size other track under)) at_end)
          (λ over. ap (take size) (behind image new (512 + other * size) (base + o) (omega (arith, within, track_behind size track other (omega (arith, over, apart)))) at_end))
          (cases_lt other track);
    }

-- a track that begins anew
pub fresh_bytes : (c h : ℕ) (new : List Record) (held : List ℕ) → patched held 0 (bytes_behind c h [] new) ≡ front_bytes c h ++ (records_bytes 1 new ++ (end_marker ++ drop (length (bytes_behind c h [] new)) held))
unfolding patched
fresh_bytes c h new held =
    let rest : List ℕ = drop (length (bytes_behind c h [] new)) held in
    let none : 0 + length (bytes_behind c h [] new) ≡ length (bytes_behind c h [] new) = omega arith in
    ap (λ (n : ℕ). bytes_behind c h [] new ++ drop n held) none
    ∙ append_assoc (front_bytes c h) (records_bytes 1 new ++ end_marker) rest
    ∙ ap (λ (l : List ℕ). front_bytes c h ++ l) (append_assoc (records_bytes 1 new) end_marker rest)

-- what is read of a track that goes on after records, or begins anew
track_goes_on : (c h : ℕ) (held : List ℕ) (xs new : List Record) → (xs ≡ []) ⊎ ((u : Option ℕ) × (records_of c h u held ≡ Some xs)) → AreRecords (length xs + 1) new → length xs + length new ≤ 255
    → start_behind xs + length (bytes_behind c h xs new) ≤ length held
    → (records_of c h None (patched held (start_behind xs) (bytes_behind c h xs new)) ≡ Some (xs ++ new))
    × ((r : ℕ) → 1 ≤ r → r ≤ length xs → records_of c h (Some r) (patched held (start_behind xs) (bytes_behind c h xs new)) ≡ records_of c h (Some r) held)
track_goes_on c h held [] new may are few room =
    (ap (records_of c h None) (fresh_bytes c h new held) ∙ written_whole c h new (drop (length (bytes_behind c h [] new)) held) are, λ r first last. absurd (omega (arith, first, last)))
track_goes_on c h held (x ∷ xs) new may are few room = ⊎_elim (λ none. absurd (cc)) (λ read. let t = track_continued c h read.0 held (x ∷ xs) new read.1 are few room in (t.whole, λ r first last. t.earlier r last)) may

-- A write after a buffer's records makes its track go on with these ones, and changes nothing else: of the image as it is, and so of what a stop leaves while that write is pending.
pub continued : (b : Buffer) (new : List Record) (image : List ℕ) → HasGeometry (length image) b.geometry → b.track < tracks_of b.geometry → MayContinue image b → AreRecords (length b.records + 1) new → length b.records + length new ≤ 255
    → start_behind b.records + length (continuation b new) ≤ b.geometry.track_size → IsContinued b new image (patched image (place_behind b) (continuation b new))
unfolding records_on
continued b new image has low may are few room =
    let g : Geometry = b.geometry in
    let c : ℕ = b.track / heads_of g in
    let h : ℕ = b.track % heads_of g in
    let p = track_patched g b.track (start_behind b.records) (continuation b new) image has low room in
    let t = track_goes_on c h (track_bytes image g b.track) b.records new may are few (omega (arith, room, p.long)) in
    record {
      bytes = refl;
      size = p.size;
      header = p.header;
      records = ap (records_of c h None) p.own ∙ t.0;
      earlier = λ r first last. ap (records_of c h (Some r)) p.own ∙ t.1 r first last;
      others = p.others;
    }

-- the buffer that was written holds the records of the track
pub stands_continued : (b : Buffer) (new : List Record) (image updated : List ℕ) → IsContinued b new image updated → StandsOn updated (with_more b new)
stands_continued b new image updated is = (None, is.records)

-- the same of a unit, over files that were written
pub unit_continued : (files files' : List File) (old new : Facts) (b : Buffer) (more : List Record) → AreWhole files old.units → HasTrack old.units b.unit b.geometry b.track → MayContinue (image_of files old b.unit) b → AreRecords (length b.records + 1) more → length b.records + length more ≤ 255
    → start_behind b.records + length (continuation b more) ≤ b.geometry.track_size → new.units ≡ old.units → files' ≡ written files (unit_of old.units b.unit).name (place_behind b) (continuation b more)
    → IsContinued b more (image_of files old b.unit) (image_of files' new b.unit)
unit_continued files files' old new b more whole has may are few room units is =
    let w = unit_written files files' old new b.unit (place_behind b) (continuation b more) whole has.attached units is in
    let fits : HasGeometry (length (image_of files old b.unit)) b.geometry = subst (λ (n : ℕ). HasGeometry n b.geometry) (sym w.size) has.whole in
    subst (IsContinued b more (image_of files old b.unit)) (sym w.image) (continued b more (image_of files old b.unit) fits has.inside may are few room)

-- a unit's image has the size that its track needs
pub unit_fits : (files : List File) (facts : Facts) (unit : ℕ) (g : Geometry) (track : ℕ) → AreWhole files facts.units → HasTrack facts.units unit g track → HasGeometry (length (image_of files facts unit)) g
unit_fits files facts unit g track whole has =
    let w = unit_written files (written files (unit_of facts.units unit).name 0 []) facts facts unit 0 [] whole has.attached refl refl in
    subst (λ (n : ℕ). HasGeometry n g) (sym w.size) has.whole

-- no cylinder of a device has a number whose two bytes are X'FF'
pub cylinder_low : (g : Geometry) (track : ℕ) → track < 65536 → track / heads_of g < 65535
cylinder_low g track small = by_device g.device
  where
    by_device : (d : DiskType) → track / (row_of d).heads < 65535
    by_device D2311 = omega arith
    by_device D2314 = omega arith
    by_device D3330 = omega arith
    by_device D3350 = omega arith

-- a record that a count may name
pub record_stands : (c h r : ℕ) (key content : List ℕ) → c < 65535 → r < 256 → length key < 256 → length content < 65536 → IsRecord r (record_on c h key content)
record_stands c h r key content below number key_fits data_fits = record {
  number = number;
  four = refl;
  key_fits = key_fits;
  data_fits = data_fits;
  count = λ e.
      let two : to_be_bytes w16 c ≡ take 2 end_marker = ap (take 2) e in
      let high : c ≡ 65535 = sym (from_be_bytes-to_be_bytes_2 c (omega arith)) ∙ ap (from_be_bytes w16) two in
      omega arith;
}

-- how long it is
pub length-record_bytes : (r : ℕ) (c h : ℕ) (key content : List ℕ) → length (record_bytes r (record_on c h key content)) ≡ 8 + length key + length content
length-record_bytes r c h key content = let parts : length (key ++ content) ≡ length key + length content = length-append key content in omega (arith, parts)

-- and what is written for a record and the end marker
pub length_tail : (key content : List ℕ) → length (((key ++ content) ++ []) ++ end_marker) ≡ length key + length content + 8
length_tail key content =
    let a : length (((key ++ content) ++ []) ++ end_marker) ≡ length ((key ++ content) ++ []) + 8 = length-append ((key ++ content) ++ []) end_marker in
    let b : length ((key ++ content) ++ []) ≡ length (key ++ content) + 0 = length-append (key ++ content) [] in
    let d : length (key ++ content) ≡ length key + length content = length-append key content in
    omega (arith, a, b, d)

pub length-behind : (c h : ℕ) (old : List Record) (key content : List ℕ) → start_behind old + length (bytes_behind c h old (record_on c h key content ∷ [])) ≡ 21 + offset_of old (length old) + (8 + length key + length content) + 8
length-behind c h [] key content = let t = length_tail key content in omega (arith, t)
length-behind c h (x ∷ xs) key content = let t = length_tail key content in omega (arith, t)

pub length-end : (c h : ℕ) (old : List Record) → start_behind old + length (bytes_behind c h old []) ≡ 21 + offset_of old (length old) + 8
length-end c h [] = refl
length-end c h (x ∷ xs) = refl

-- a track of an image has a number of two bytes
track_low : (d : DiskType) (cylinders track : ℕ) → cylinders ≤ (row_of d).most_cylinders → track < cylinders * (row_of d).heads → track < 65536
track_low D2311 cylinders track most low = omega arith
track_low D2314 cylinders track most low = omega arith
track_low D3330 cylinders track most low = omega arith
track_low D3350 cylinders track most low = omega arith

-- so a record that is written after a buffer's may stand there
pub next_stands : (b : Buffer) (len : ℕ) (key content : List ℕ) → HasGeometry len b.geometry → b.track < tracks_of b.geometry → length b.records < 255 → length key < 256 → length content < 65536 → AreRecords (length b.records + 1) (record_of b key content ∷ [])
next_stands b len key content has low few key_fits data_fits = (
  record_stands (b.track / heads_of b.geometry) (b.track % heads_of b.geometry) (length b.records + 1) key content
      (cylinder_low b.geometry b.track (track_low b.geometry.device b.geometry.cylinders b.track has.most low)) (omega (arith, few)) key_fits data_fits,
  tt,
)

-- A write of a record after a buffer's, and one of the end marker, are what they are to be, on each image that they may go on with.
pub appended : (b : Buffer) (key content image : List ℕ) → HasGeometry (length image) b.geometry → b.track < tracks_of b.geometry → MayContinue image b → length b.records < 255 → length key < 256 → length content < 65536
    → end_of b + (8 + length key + length content) + 8 ≤ b.geometry.track_size → IsAppended b key content image (patched image (place_behind b) (continuation b (record_of b key content ∷ [])))
appended b key content image has low may few key_fits data_fits room =
    continued b (record_of b key content ∷ []) image has low may (next_stands b (length image) key content has low few key_fits data_fits) (omega (arith, few))
    (omega (arith, room, length-behind (b.track / heads_of b.geometry) (b.track % heads_of b.geometry) b.records key content))

pub sealed : (b : Buffer) (image : List ℕ) → HasGeometry (length image) b.geometry → b.track < tracks_of b.geometry → MayContinue image b → length b.records ≤ 255 → end_of b + 8 ≤ b.geometry.track_size → IsSealed b image (patched image (place_behind b) (continuation b []))
sealed b image has low may few room =
    continued b [] image has low may tt (omega (arith, few)) (omega (arith, room, length-end (b.track / heads_of b.geometry) (b.track % heads_of b.geometry) b.records))
