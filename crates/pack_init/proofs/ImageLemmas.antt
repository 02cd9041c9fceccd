-- What stands in the image of a new pack when all is written.
use Rattle.std.proofs.Common.{◌≡◌, ◌≤◌, ◌<◌, ◌+◌, ◌-◌, ◌*◌, ◌/◌, ◌%◌, ℕ, zero, suc, Bool, true, false, List, [], ◌++◌, length, map, replicate, ap, ap₂, sym, refl, ◌∙◌, arith, append_assoc, length-append, if◌then◌else◌}
use Rattle.std.specs.Prelude.{nat_le, ◌==◌}
use Rattle.std.specs.List.{flat_map, range_with_len}
use Rattle.std.proofs.lemmas.List.{append-nil, length-replicate, replicate-append-replicate}
use Rattle.std.proofs.lemmas.Bool.Decides.{nat_tests}
use Rattle.ckd_image.specs.declared.device.DiskType.{DiskType}
use Rattle.ckd_image.specs.declared.device.DiskType.TheVariants.{D2311, D2314, D3330, D3350}
use Rattle.ckd_image.specs.declared.header.Geometry.{Geometry}
use Rattle.ckd_image.specs.Device.{row_of}
use Rattle.ckd_image.specs.Header.{header_bytes}
use Rattle.ckd_image.specs.Track.{end_marker}
use Rattle.ckd_image.specs.Writing.{front_bytes, new_track}
use Rattle.stop_model.specs.Files.{patched}
use Rattle.pack_spec.specs.Label.{heads_of, tracks_of}
use Rattle.pack_spec.specs.New.{IsNewPack, address_of, image_with, new_track_at, slots_of_track}
use Rattle.pack_spec.specs.Written.{label_records, slot_record}
use Rattle.pack_init.specs.Init.{size_of}
use Rattle.pack_init.specs.Layout.{empty_bytes, offset_of, vtoc_track, vtoc_tracks, with_empties, with_tracks}
use Rattle.pack_init.proofs.ListLemmas.{flat_map_next, flat_map_same, range_behind}
use Rattle.pack_init.proofs.PatchLemmas.{patched_at}
use Rattle.pack_init.proofs.EmptyLemmas.{long_track}

-- a track without records
abbrev pub empty_track_at : Geometry → ℕ → List ℕ
empty_track_at g track = new_track (track / heads_of g) (track % heads_of g) [] g.track_size

-- the tracks after the VTOC
abbrev pub empties : Geometry → ℕ → List ℕ
empties g n = flat_map (empty_track_at g) (range_with_len (n + 1) (tracks_of g - (n + 1)))

-- zeros in two parts
zeros_split : (a b : ℕ) → replicate {A = ℕ} (a + b) 0 ≡ replicate a 0 ++ replicate b 0
zeros_split a b = sym (replicate-append-replicate a b 0)

-- an empty track in two parts
empty_split : (g : Geometry) (track : ℕ) → empty_bytes g track ++ replicate (g.track_size - 29) 0 ≡ empty_track_at g track
empty_split g track = append_assoc (front_bytes (track / heads_of g) (track % heads_of g)) end_marker (replicate (g.track_size - 29) 0)

empty_length : (g : Geometry) (track : ℕ) → 29 ≤ g.track_size → length (empty_track_at g track) ≡ g.track_size
empty_length g track long =
    let begin : length (empty_bytes g track) ≡ 29 = refl in
    ap length (sym (empty_split g track)) ∙ length-append (empty_bytes g track) (replicate (g.track_size - 29) 0) ∙ omega (arith, length-replicate {A = ℕ} (g.track_size - 29) 0)

-- parts of one length, one for each number of a range
range_length : (f : ℕ → List ℕ) (size : ℕ) → ((k : ℕ) → length (f k) ≡ size) → (a n : ℕ) → length (flat_map f (range_with_len a n)) ≡ n * size
range_length f size each a zero = omega arith
range_length f size each a (suc n) = length-append (f a) (flat_map f (range_with_len (a + 1) n)) ∙ omega (arith, each a, range_length f size each (a + 1) n)

pub empties_length : (g : Geometry) (n : ℕ) → IsNewPack g n → length (empties g n) ≡ (tracks_of g - (n + 1)) * g.track_size
empties_length g n pack = range_length (empty_track_at g) g.track_size (λ k. empty_length g k (long_track g n pack)) (n + 1) (tracks_of g - (n + 1))

-- tracks that are made empty over zeros
empties_over : (g : Geometry) (first m r : ℕ) (front : List ℕ) → 29 ≤ g.track_size → length front ≡ offset_of g first
    → with_empties g first m (front ++ replicate ((m + r) * g.track_size) 0) ≡ front ++ (flat_map (empty_track_at g) (range_with_len first m) ++ replicate (r * g.track_size) 0)
unfolding with_empties
empties_over g first zero r front long place = let none : 0 + r ≡ r = omega arith in ap (λ (k : ℕ). front ++ replicate (k * g.track_size) 0) none
empties_over g first (suc m) r front long place =
    let s = g.track_size in
    let done = flat_map (empty_track_at g) (range_with_len first m) in
    let at = offset_of g (first + m) in
    let here = empty_bytes g (first + m) in
    let rest : List ℕ = replicate (s - 29) 0 ++ replicate (r * s) 0 in
    let count : suc m + r ≡ m + suc r = omega arith in
    let size : suc r * s ≡ 29 + (s - 29 + r * s) = omega arith in
    let zeros : replicate (suc r * s) 0 ≡ replicate 29 0 ++ rest =
    ap (λ (k : ℕ). replicate k 0) size ∙ zeros_split 29 (s - 29 + r * s) ∙ ap (λ (l : List ℕ). replicate 29 0 ++ l) (zeros_split (s - 29) (r * s)) in
    let before : with_empties g first m (front ++ replicate ((suc m + r) * s) 0) ≡ (front ++ done) ++ (replicate 29 0 ++ rest) =
    ap (λ (k : ℕ). with_empties g first m (front ++ replicate (k * s) 0)) count
    ∙ empties_over g first m (suc r) front long place
    ∙ ap (λ (l : List ℕ). front ++ (done ++ l)) zeros
    ∙ sym (append_assoc front done (replicate 29 0 ++ rest)) in
    let behind : length (front ++ done) ≡ at = length-append front done ∙ omega (arith, place, range_length (empty_track_at g) s (λ k. empty_length g k long) first m) in
    let track : here ++ rest ≡ empty_track_at g (first + m) ++ replicate (r * s) 0 =
    sym (append_assoc here (replicate (s - 29) 0) (replicate (r * s) 0)) ∙ ap (λ (l : List ℕ). l ++ replicate (r * s) 0) (empty_split g (first + m)) in
    ap (λ (image : List ℕ). patched image at here) before
    ∙ patched_at (front ++ done) (replicate 29 0) here rest at behind refl
    ∙ ap (λ (l : List ℕ). (front ++ done) ++ l) track
    ∙ append_assoc front done (empty_track_at g (first + m) ++ replicate (r * s) 0)
    ∙ ap (λ (l : List ℕ). front ++ l) (sym (append_assoc done (empty_track_at g (first + m)) (replicate (r * s) 0)))
    ∙ ap (λ (l : List ℕ). front ++ (l ++ replicate (r * s) 0)) (sym (flat_map_next (empty_track_at g) first m (first + m) refl))

-- all tracks but track 0, over zeros
pub tracks_over_zeros : (g : Geometry) (n : ℕ) (vtoc : List ℕ) → IsNewPack g n → length vtoc ≡ n * g.track_size
    → with_tracks g n vtoc (replicate (size_of g) 0) ≡ replicate 512 0 ++ (replicate g.track_size 0 ++ (vtoc ++ empties g n))
unfolding with_tracks
tracks_over_zeros g n vtoc pack long =
    let s = g.track_size in
    let m = tracks_of g - (n + 1) in
    let front : List ℕ = replicate (512 + s) 0 in
    let number : tracks_of g ≡ 1 + n + m = omega (arith, pack.room) in
    let all : tracks_of g * s ≡ (1 + n + m) * s = ap (λ (t : ℕ). t * s) number in
    let size : size_of g ≡ 512 + s + (n * s + m * s) = omega (arith, all) in
    let none : m + 0 ≡ m = omega arith in
    let zero_size : 0 * s ≡ 0 = omega arith in
    let place : length front ≡ offset_of g 1 = length-replicate (512 + s) 0 ∙ omega arith in
    let over : length (replicate (n * s) 0) ≡ length vtoc = length-replicate {A = ℕ} (n * s) 0 ∙ sym long in
    let behind : length (front ++ vtoc) ≡ offset_of g (n + 1) = length-append front vtoc ∙ omega (arith, place, long) in
    let written : patched (replicate (size_of g) 0) (offset_of g 1) vtoc ≡ (front ++ vtoc) ++ replicate ((m + 0) * s) 0 =
    ap (λ (k : ℕ). patched (replicate k 0) (offset_of g 1) vtoc) size
    ∙ ap (λ (l : List ℕ). patched l (offset_of g 1) vtoc) (zeros_split (512 + s) (n * s + m * s) ∙ ap (λ (l : List ℕ). front ++ l) (zeros_split (n * s) (m * s)))
    ∙ patched_at front (replicate (n * s) 0) vtoc (replicate (m * s) 0) (offset_of g 1) place over
    ∙ sym (append_assoc front vtoc (replicate (m * s) 0))
    ∙ ap (λ (k : ℕ). (front ++ vtoc) ++ replicate (k * s) 0) (sym none) in
    ap (with_empties g (n + 1) m) written
    ∙ empties_over g (n + 1) m 0 (front ++ vtoc) (long_track g n pack) behind
    ∙ ap (λ (k : ℕ). (front ++ vtoc) ++ (empties g n ++ replicate k 0)) zero_size
    ∙ ap (λ (l : List ℕ). (front ++ vtoc) ++ l) (append-nil (empties g n))
    ∙ append_assoc front vtoc (empties g n)
    ∙ ap (λ (l : List ℕ). l ++ (vtoc ++ empties g n)) (zeros_split 512 s)
    ∙ append_assoc (replicate 512 0) (replicate s 0) (vtoc ++ empties g n)

-- track 0 is on cylinder 0, head 0
zero_cylinder : (d : DiskType) → 0 / (row_of d).heads ≡ 0
zero_cylinder D2311 = refl
zero_cylinder D2314 = refl
zero_cylinder D3330 = refl
zero_cylinder D3350 = refl

zero_head : (d : DiskType) → 0 % (row_of d).heads ≡ 0
zero_head D2311 = refl
zero_head D2314 = refl
zero_head D3330 = refl
zero_head D3350 = refl

pub not_first : (k : ℕ) → 1 ≤ k → (k == 0) ≡ false
not_first k some = grind (arith, nat_tests)

pub is_within : (k n : ℕ) → k < 1 + n → nat_le k n ≡ true
is_within k n few = grind (arith, nat_tests)

is_behind : (k n : ℕ) → n + 1 ≤ k → nat_le k n ≡ false
is_behind k n far = grind (arith, nat_tests)

-- header, track 0, VTOC and empty tracks are the image
pub whole_image : (g : Geometry) (serial : List ℕ) (n : ℕ) (a b label : List ℕ) → IsNewPack g n → label ≡ new_track 0 0 (label_records serial (address_of g 1)) g.track_size
    → header_bytes g ++ (label ++ (vtoc_tracks g a b n ++ empties g n)) ≡ image_with g serial n a b
unfolding image_with new_track_at vtoc_track
whole_image g serial n a b label pack is =
    let m = tracks_of g - (n + 1) in
    let f = new_track_at g serial n a b in
    let number : tracks_of g ≡ suc (n + m) = omega (arith, pack.room) in
    let next : 1 + n ≡ n + 1 = omega arith in
    let first : f 0 ≡ label = ap₂ (λ (c h : ℕ). new_track c h (label_records serial (address_of g 1)) g.track_size) (zero_cylinder g.device) (zero_head g.device) ∙ sym is in
    let one : (k : ℕ) → 1 ≤ k → k < 1 + n → f k ≡ vtoc_track g a b k = λ k low high.
    let slots = map (slot_record (address_of g k)) (slots_of_track g a b k) in
    ap₂ (λ (x y : Bool). new_track (k / heads_of g) (k % heads_of g) (if x then label_records serial (address_of g 1) else (if y then slots else [])) g.track_size) (not_first k low) (is_within k n high) in
    let none : (k : ℕ) → n + 1 ≤ k → k < n + 1 + m → f k ≡ empty_track_at g k = λ k low high.
    let slots = map (slot_record (address_of g k)) (slots_of_track g a b k) in
    ap₂ (λ (x y : Bool). new_track (k / heads_of g) (k % heads_of g) (if x then label_records serial (address_of g 1) else (if y then slots else [])) g.track_size) (not_first k (omega arith)) (is_behind k n low) in
    let split : flat_map f (range_with_len 1 (n + m)) ≡ vtoc_tracks g a b n ++ empties g n =
    range_behind f 1 n m (n + 1) next ∙ ap₂ (λ (x y : List ℕ). x ++ y) (flat_map_same f (vtoc_track g a b) 1 n one) (flat_map_same f (empty_track_at g) (n + 1) m none) in
    sym (ap (λ (t : ℕ). header_bytes g ++ flat_map f (range_with_len 0 t)) number ∙ ap₂ (λ (x y : List ℕ). header_bytes g ++ (x ++ y)) first split)
