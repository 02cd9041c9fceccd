-- What is read of the image of a new pack: the bytes and the records of its tracks.
use Rattle.std.proofs.Common.{◌≡◌, ◌≤◌, ◌<◌, ◌+◌, ◌-◌, ◌*◌, ◌/◌, ◌%◌, ◌^◌, ℕ, zero, suc, Bool, true, false, List, [], ◌∷◌, ◌++◌, length, map, take, drop, replicate, None, Some, ap, sym, refl, ◌∙◌, arith, lit≤, append_assoc, length-append, length-drop, length-take-le, if◌then◌else◌}
use Rattle.std.specs.Prelude.{nat_le, ◌==◌}
use Rattle.std.specs.List.{AllByRecursion, flat_map, range_with_len}
use Rattle.std.proofs.lemmas.List.{length-replicate, take_at, drop_at}
use Rattle.std.proofs.Math.Nat.{div-lt_iff_lt-mul, mod-lt}
use Rattle.ckd_image.specs.declared.device.DiskType.{DiskType}
use Rattle.ckd_image.specs.declared.device.DiskType.TheVariants.{D2311, D2314, D3330, D3350}
use Rattle.ckd_image.specs.declared.header.Geometry.{Geometry}
use Rattle.ckd_image.specs.Device.{row_of}
use Rattle.ckd_image.specs.Header.{header_bytes}
use Rattle.ckd_image.specs.Reading.{records_of}
use Rattle.ckd_image.specs.Track.{AreRecords, Record, end_marker, record_bytes, records_bytes}
use Rattle.ckd_image.specs.Writing.{front_bytes, new_track}
use Rattle.ckd_image.proofs.WrittenTracks.{record_stands, written_up_to, written_whole}
use Rattle.pack_spec.specs.declared.address.Address.{Address}
use Rattle.pack_spec.specs.Label.{heads_of, ipl1, ipl2, records_on, track_bytes, tracks_of, vol1}
use Rattle.pack_spec.specs.New.{IsNewPack, address_of, free_slot, image_with, new_records, new_track_at, slots_of_track}
use Rattle.pack_spec.specs.Written.{label_bytes, label_records, slot_record}
use Rattle.pack_init.proofs.EmptyLemmas.{long_track}
use Rattle.pack_init.proofs.LabelLemmas.{label_read}
use Rattle.pack_init.proofs.ListLemmas.{range_behind}

-- each has the length of a slot
abbrev pub AreSlots : List (List ℕ) → Type 0
AreSlots slots = AllByRecursion (λ s. length s ≡ 140) slots

-- the records of slots
slots_length : (at : Address) (r : ℕ) (slots : List (List ℕ)) → AreSlots slots → length (records_bytes r (map (slot_record at) slots)) ≡ 148 * length slots
slots_length at r [] all = refl
slots_length at r (slot ∷ slots) all =
    let key : length (take 44 slot) ≡ 44 = length-take-le 44 slot (omega (arith, all.0)) in
    let content : length (drop 44 slot) ≡ 96 = length-drop 44 slot ∙ omega (arith, all.0) in
    let one : length (record_bytes r (slot_record at slot)) ≡ 148 = omega (arith, key, content, length-append (take 44 slot) (drop 44 slot)) in
    length-append (record_bytes r (slot_record at slot)) (records_bytes (suc r) (map (slot_record at) slots)) ∙ omega (arith, one, slots_length at (suc r) slots all.1)

slots_stand : (at : Address) (r : ℕ) (slots : List (List ℕ)) → at.cylinder < 65535 → r + length slots ≤ 256 → AreSlots slots → AreRecords r (map (slot_record at) slots)
slots_stand at r [] low few all = tt
slots_stand at r (slot ∷ slots) low few all =
    let key : length (take 44 slot) < 256 = omega (arith, length-take-le 44 slot (omega (arith, all.0))) in
    let content : length (drop 44 slot) < 65536 = omega (arith, length-drop 44 slot, all.0) in
    (record_stands at.cylinder at.head r (take 44 slot) (drop 44 slot) low (omega arith) key content, slots_stand at (suc r) slots low (omega arith) all.1)

free_slots : (k : ℕ) → AreSlots (replicate k free_slot)
free_slots zero = tt
free_slots (suc k) = (refl, free_slots k)

-- the table of devices
pub some_slots : (d : DiskType) → (2 ≤ (row_of d).dscbs_per_track) × ((row_of d).dscbs_per_track ≤ 47)
some_slots D2311 = (lit≤ tt, lit≤ tt)
some_slots D2314 = (lit≤ tt, lit≤ tt)
some_slots D3330 = (lit≤ tt, lit≤ tt)
some_slots D3350 = (lit≤ tt, lit≤ tt)

slots_fit : (d : DiskType) → 29 + 148 * (row_of d).dscbs_per_track ≤ (row_of d).written_track_size
slots_fit D2311 = lit≤ tt
slots_fit D2314 = lit≤ tt
slots_fit D3330 = lit≤ tt
slots_fit D3350 = lit≤ tt

label_fits : (d : DiskType) → 313 ≤ (row_of d).written_track_size
label_fits D2311 = lit≤ tt
label_fits D2314 = lit≤ tt
label_fits D3330 = lit≤ tt
label_fits D3350 = lit≤ tt

pub few_cylinders : (d : DiskType) → ((row_of d).primary_cylinders ≤ 555) × ((2 ≤ (row_of d).heads) × ((row_of d).heads ≤ 30))
few_cylinders D2311 = (lit≤ tt, (lit≤ tt, lit≤ tt))
few_cylinders D2314 = (lit≤ tt, (lit≤ tt, lit≤ tt))
few_cylinders D3330 = (lit≤ tt, (lit≤ tt, lit≤ tt))
few_cylinders D3350 = (lit≤ tt, (lit≤ tt, lit≤ tt))

-- the slots of a track
pub track_slots : (g : Geometry) (a b : List ℕ) (k : ℕ) → length a ≡ 140 → length b ≡ 140 → AreSlots (slots_of_track g a b k) × (length (slots_of_track g a b k) ≡ (row_of g.device).dscbs_per_track)
track_slots g a b k la lb = by (k == 1)
  where
    by : (t : Bool) → AreSlots (if t then a ∷ b ∷ replicate ((row_of g.device).dscbs_per_track - 2) free_slot else replicate (row_of g.device).dscbs_per_track free_slot)
        × (length (if t then a ∷ b ∷ replicate ((row_of g.device).dscbs_per_track - 2) free_slot else replicate (row_of g.device).dscbs_per_track free_slot) ≡ (row_of g.device).dscbs_per_track)
    by true = ((la, (lb, free_slots _)), omega (arith, some_slots g.device, length-replicate ((row_of g.device).dscbs_per_track - 2) free_slot))
    by false = (free_slots _, length-replicate (row_of g.device).dscbs_per_track free_slot)

pub label_length : (serial : List ℕ) (v : Address) → length serial ≡ 6 → length (label_bytes serial v) ≡ 80
label_length serial v six = length-append vol1 _ ∙ omega (arith, length-append serial (drop 10 (label_bytes (replicate 6 0) v)), six)

-- A track with records that fit has its size.
new_track_length : (c h : ℕ) (xs : List Record) (size : ℕ) → 29 + length (records_bytes 1 xs) ≤ size → length (new_track c h xs size) ≡ size
new_track_length c h xs size fits =
    let rest : List ℕ = replicate (size - (29 + length (records_bytes 1 xs))) 0 in
    length-append (front_bytes c h) (records_bytes 1 xs ++ (end_marker ++ rest))
    ∙ omega (arith, fits, length-append (records_bytes 1 xs) (end_marker ++ rest), length-append end_marker rest, length-replicate {A = ℕ} (size - (29 + length (records_bytes 1 xs))) 0)

module _ (g : Geometry) (serial : List ℕ) (n : ℕ) (a b : List ℕ) (pack : IsNewPack g n) (six : length serial ≡ 6) (la : length a ≡ 140) (lb : length b ≡ 140) where
  abbrev here : ℕ → List Record
  here k = new_records g serial n a b k

  pub low_cylinder : (k : ℕ) → k < tracks_of g → k / heads_of g < 65535
  low_cylinder k inside =
      let few = few_cylinders g.device in
      let some : zero < heads_of g = omega (arith, few.1.0) in
      let low : k / heads_of g < g.cylinders = (div-lt_iff_lt-mul {k = heads_of g} {x = k} {y = g.cylinders} some).1 inside in
      omega (arith, few.0, pack.primary)

  pub low_head : (k : ℕ) → k % heads_of g < 2 ^ 16
  low_head k =
      let few = few_cylinders g.device in
      let low : k % heads_of g < heads_of g = mod-lt k (omega (arith, few.1.0)) in
      omega (arith, few.1.1)

  label_size : length (records_bytes 1 (label_records serial (address_of g 1))) ≡ 284
  label_size = (label_read serial (address_of g 1) six (omega (arith, low_cylinder 1 (omega (arith, pack.first, pack.room)))) (low_head 1)).size

  fits : (k : ℕ) → 29 + length (records_bytes 1 (here k)) ≤ g.track_size
  fits k = by (k == 0) (nat_le k n)
    where
      by : (x y : Bool) → 29 + length (records_bytes 1 (if x then label_records serial (address_of g 1) else (if y then map (slot_record (address_of g k)) (slots_of_track g a b k) else []))) ≤ g.track_size
      by true y = omega (arith, label_size, label_fits g.device, pack.size)
      by false true = let s = track_slots g a b k la lb in omega (arith, slots_length (address_of g k) 1 (slots_of_track g a b k) s.0, s.1, slots_fit g.device, pack.size)
      by false false = omega (arith, long_track g n pack)

  track_length : (k : ℕ) → length (new_track_at g serial n a b k) ≡ g.track_size
  unfolding new_track_at
  track_length k = new_track_length (k / heads_of g) (k % heads_of g) (here k) g.track_size (fits k)

  stand : (k : ℕ) → k < tracks_of g → AreRecords 1 (here k)
  stand k inside = by (k == 0) (nat_le k n)
    where
      v : Address
      v = address_of g 1

      by : (x y : Bool) → AreRecords 1 (if x then label_records serial (address_of g 1) else (if y then map (slot_record (address_of g k)) (slots_of_track g a b k) else []))
      by true y = (
        record_stands 0 0 1 ipl1 (replicate 24 0) (omega arith) (omega arith) (omega arith) (omega arith),
        (
          record_stands 0 0 2 ipl2 (replicate 144 0) (omega arith) (omega arith) (omega arith) (omega arith),
          (record_stands 0 0 3 vol1 (label_bytes serial v) (omega arith) (omega arith) (omega arith) (omega (arith, label_length serial v six)), tt),
        ),
      )
      by false true = let s = track_slots g a b k la lb in slots_stand (address_of g k) 1 (slots_of_track g a b k) (low_cylinder k inside) (omega (arith, s.1, some_slots g.device)) s.0
      by false false = tt

  -- the bytes of a track
  pub track_read : (k : ℕ) → k < tracks_of g → track_bytes (image_with g serial n a b) g k ≡ new_track_at g serial n a b k
  unfolding track_bytes image_with
  track_read k inside =
      let s = g.track_size in
      let f = new_track_at g serial n a b in
      let m = tracks_of g - suc k in
      let front = flat_map f (range_with_len 0 k) in
      let rest = flat_map f (range_with_len (k + 1) m) in
      let count : tracks_of g ≡ k + suc m = omega arith in
      let split : flat_map f (range_with_len 0 (tracks_of g)) ≡ front ++ (f k ++ rest) = ap (λ (t : ℕ). flat_map f (range_with_len 0 t)) count ∙ range_behind f 0 k (suc m) k (omega arith) in
      let before : length front ≡ k * s = lengths 0 k in
      let whole : length (header_bytes g ++ front) ≡ 512 + k * s = length-append (header_bytes g) front ∙ omega (arith, before) in
      ap (λ (l : List ℕ). take s (drop (512 + k * s) (header_bytes g ++ l))) split
      ∙ ap (λ (l : List ℕ). take s (drop (512 + k * s) l)) (sym (append_assoc (header_bytes g) front (f k ++ rest)))
      ∙ ap (take s) (drop_at (header_bytes g ++ front) (f k ++ rest) (512 + k * s) whole)
      ∙ take_at (f k) rest s (track_length k)
    where
      lengths : (i j : ℕ) → length (flat_map (new_track_at g serial n a b) (range_with_len i j)) ≡ j * g.track_size
      lengths i zero = omega arith
      lengths i (suc j) = length-append (new_track_at g serial n a b i) (flat_map (new_track_at g serial n a b) (range_with_len (i + 1) j)) ∙ omega (arith, track_length i, lengths (i + 1) j)

  -- its records
  pub records_whole : (k : ℕ) → k < tracks_of g → records_on (image_with g serial n a b) g None k ≡ Some (here k)
  unfolding records_on new_track_at
  records_whole k inside = ap (records_of (k / heads_of g) (k % heads_of g) None) (track_read k inside) ∙ written_whole (k / heads_of g) (k % heads_of g) (here k) _ (stand k inside)

  pub records_up_to : (r k : ℕ) → k < tracks_of g → r ≤ length (here k) → records_on (image_with g serial n a b) g (Some r) k ≡ Some (take r (here k))
  unfolding records_on new_track_at
  records_up_to r k inside few = ap (records_of (k / heads_of g) (k % heads_of g) (Some r)) (track_read k inside) ∙ written_up_to (k / heads_of g) (k % heads_of g) r (here k) _ (stand k inside) few

  -- the image has the size of the pack
  pub image_length : length (image_with g serial n a b) ≡ 512 + tracks_of g * g.track_size
  unfolding image_with
  image_length = length-append (header_bytes g) (flat_map (new_track_at g serial n a b) (range_with_len 0 (tracks_of g))) ∙ omega (arith, lengths 0 (tracks_of g))
    where
      lengths : (i j : ℕ) → length (flat_map (new_track_at g serial n a b) (range_with_len i j)) ≡ j * g.track_size
      lengths i zero = omega arith
      lengths i (suc j) = length-append (new_track_at g serial n a b i) (flat_map (new_track_at g serial n a b) (range_with_len (i + 1) j)) ∙ omega (arith, track_length i, lengths (i + 1) j)
