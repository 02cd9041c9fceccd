-- Why an image that isn't written whole is refused.
use Rattle.std.proofs.Common.{◌≡◌, ◌≤◌, ◌+◌, ◌-◌, ◌*◌, ◌/◌, ◌%◌, ℕ, Bool, true, false, ◌&&◌, List, [], ◌∷◌, ◌++◌, length, take, drop, replicate, None, Ok, Err, refl, ap, sym, ◌∙◌, arith, lit≤, if◌then◌else◌}
use Rattle.std.specs.Prelude.{nat_le, nat_lt, slice_range}
use Rattle.std.specs.Int.{w16, to_be_bytes}
use Rattle.std.specs.Str.{bytes_eq}
use Rattle.std.proofs.Math.Nat.{mul_assoc}
use Rattle.std.proofs.lemmas.Bool.Decides.{nat_tests}
use Rattle.std.proofs.lemmas.List.{length-replicate, replicate-append-replicate, take-replicate, take_at, drop_at}
use Rattle.ckd_image.specs.declared.device.DiskType.{DiskType}
use Rattle.ckd_image.specs.declared.device.DiskType.TheVariants.{D2311, D2314, D3330, D3350}
use Rattle.ckd_image.specs.declared.header.Geometry.{Geometry}
use Rattle.ckd_image.specs.declared.header.ImageErr.TheVariants.{BadMagic}
use Rattle.ckd_image.specs.Device.{row_of}
use Rattle.ckd_image.specs.Header.{HasGeometry, geometry_of, header_bytes, is_track_size}
use Rattle.ckd_image.specs.Reading.{is_front, records_of}
use Rattle.ckd_image.proofs.WrittenHeaders.{written_read}
use Rattle.pack_spec.specs.declared.MountErr.TheVariants.{Image, NoLabel}
use Rattle.pack_spec.specs.Label.{heads_of, label_of, records_on, track_bytes}
use Rattle.pack_spec.specs.New.{IsNewPack}
use Rattle.pack_spec.specs.Volume.{volume_of, volume_on, volume_within}
use Rattle.pack_spec.specs.Vtoc.{vtoc_at, vtoc_of}
use Rattle.pack_init.specs.Init.{size_of}
use Rattle.pack_init.proofs.EmptyLemmas.{long_track}

either : {X : Type 0} (b : Bool) (x : X) → (if b then x else x) ≡ x
either true x = refl
either false x = refl

-- zeros are no header
no_header : (len : ℕ) → geometry_of (replicate 512 0) len ≡ Err BadMagic
unfolding geometry_of
no_header len = either (nat_lt len 512) (Err BadMagic)

-- a file is too short for one
too_short : (bytes : List ℕ) (len : ℕ) → nat_lt len 512 ≡ true → geometry_of bytes len ≡ Err BadMagic
unfolding geometry_of
too_short bytes len short = rw short refl

-- an image with zeros in the place of its header
pub headerless_refused : (image : List ℕ) → take 512 image ≡ replicate 512 0 → volume_of image ≡ Err (Image BadMagic)
unfolding volume_of
headerless_refused image zeros = ap (λ (bytes : List ℕ). volume_on image (geometry_of bytes (length image))) zeros ∙ ap (volume_on image) (no_header (length image))

-- a file of zeros
pub zeros_refused : (n : ℕ) → volume_of (replicate n 0) ≡ Err (Image BadMagic)
unfolding volume_of
zeros_refused n = by (nat_lt n 512) refl
  where
    by : (b : Bool) → nat_lt n 512 ≡ b → volume_on (replicate n 0) (geometry_of (take 512 (replicate n 0)) (length (replicate {A = ℕ} n 0))) ≡ Err (Image BadMagic)
    by true short =
        let len : nat_lt (length (replicate {A = ℕ} n 0)) 512 ≡ true = ap (λ (k : ℕ). nat_lt k 512) (length-replicate n 0) ∙ short in
        ap (volume_on (replicate n 0)) (too_short (take 512 (replicate n 0)) (length (replicate {A = ℕ} n 0)) len)
    by false long =
        let fits : 512 ≤ n = grind (arith, nat_tests) in
        ap (λ (bytes : List ℕ). volume_on (replicate n 0) (geometry_of bytes (length (replicate {A = ℕ} n 0)))) (take-replicate 512 n 0 fits)
        ∙ ap (volume_on (replicate n 0)) (no_header (length (replicate {A = ℕ} n 0)))

and_false : (b : Bool) → (b && false) ≡ false
and_false true = refl
and_false false = refl

-- a track of zeros has no R0
no_front : (c h s : ℕ) → 29 ≤ s → is_front c h (replicate s 0) ≡ false
unfolding is_front
no_front c h s long =
    let count : s ≡ 21 + (s - 21) = omega arith in
    let split : replicate s 0 ≡ replicate 21 0 ++ replicate (s - 21) 0 = ap (λ (k : ℕ). replicate {A = ℕ} k 0) count ∙ sym (replicate-append-replicate 21 (s - 21) 0) in
    let zeros : List ℕ = replicate s 0 in
    ap (λ (l : List ℕ). nat_le 21 (length zeros) && bytes_eq (slice_range zeros 1 5) (to_be_bytes w16 c ++ to_be_bytes w16 h) && bytes_eq (slice_range l 9 13) (0 ∷ 0 ∷ 0 ∷ 8 ∷ [])) split
    ∙ and_false (nat_le 21 (length zeros) && bytes_eq (slice_range zeros 1 5) (to_be_bytes w16 c ++ to_be_bytes w16 h))

-- so there is no label
no_label : (g : Geometry) (image : List ℕ) → 29 ≤ g.track_size → track_bytes image g 0 ≡ replicate g.track_size 0 → label_of image g ≡ None
unfolding label_of records_on records_of
no_label g image long zeros =
    rw zeros (rw (no_front (0 / heads_of g) (0 % heads_of g) g.track_size long) refl)

primary_most : (d : DiskType) → (row_of d).primary_cylinders ≤ (row_of d).most_cylinders
primary_most D2311 = lit≤ tt
primary_most D2314 = lit≤ tt
primary_most D3330 = lit≤ tt
primary_most D3350 = lit≤ tt

written_size : (d : DiskType) → is_track_size d (row_of d).written_track_size ≡ true
written_size D2311 = refl
written_size D2314 = refl
written_size D3330 = refl
written_size D3350 = refl

-- an image of the size of a new pack has its geometry
pub new_geometry : (g : Geometry) (n len : ℕ) → IsNewPack g n → len ≡ size_of g → HasGeometry len g
new_geometry g n len pack size = record {
  cylinders = pack.some;
  most = omega (arith, pack.primary, primary_most g.device);
  track_size = ap (is_track_size g.device) pack.size ∙ written_size g.device;
  whole = size ∙ ap (λ (k : ℕ). 512 + k) (mul_assoc g.cylinders (heads_of g) g.track_size);
}

-- an image whose track 0 is still zeros
pub unlabelled_refused : (g : Geometry) (n : ℕ) (image rest : List ℕ) → IsNewPack g n → image ≡ header_bytes g ++ (replicate g.track_size 0 ++ rest) → length image ≡ size_of g → volume_of image ≡ Err NoLabel
unfolding volume_of vtoc_of vtoc_at track_bytes
unlabelled_refused g n image rest pack is size =
    let header : take 512 image ≡ header_bytes g = ap (take 512) is ∙ take_at (header_bytes g) (replicate g.track_size 0 ++ rest) 512 refl in
    let read : geometry_of (take 512 image) (length image) ≡ Ok g = ap (λ (l : List ℕ). geometry_of l (length image)) header ∙ written_read g (length image) (new_geometry g n (length image) pack size) in
    let place : 512 + 0 * g.track_size ≡ 512 = omega arith in
    let behind : drop (512 + 0 * g.track_size) image ≡ replicate g.track_size 0 ++ rest =
    ap (λ (k : ℕ). drop k image) place ∙ ap (drop 512) is ∙ drop_at (header_bytes g) (replicate g.track_size 0 ++ rest) 512 refl in
    let zeros : track_bytes image g 0 ≡ replicate g.track_size 0 =
    ap (take g.track_size) behind ∙ take_at (replicate g.track_size 0) rest g.track_size (length-replicate g.track_size 0) in
    ap (volume_on image) read ∙ ap (λ o. volume_within image g (vtoc_at image g o)) (no_label g image (long_track g n pack) zeros)
