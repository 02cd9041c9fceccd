-- A written header: its bytes, and what they are read as.
use Rattle.std.proofs.Common.{◌≡◌, ℕ, ◌+◌, ◌-◌, ◌*◌, ◌/◌, ◌%◌, ◌^◌, ◌==◌, ◌||◌, ◌&&◌, ◌<◌, ◌≤◌, not, nat_lt, nat_le, true, false, List, ◌∷◌, ◌++◌, length, drop, replicate, length-append, Option, Some, Result, Ok, refl, sym, ap, ap₂, ◌∙◌, arith, append_assoc, take_at, drop_at, leb-true, eq-eqb, le-leb}
use Rattle.std.proofs.lemmas.List.{drop-replicate, set_at}
use Rattle.std.proofs.lemmas.Bool.{and_from, and_parts, not_from_true, le-ltb}
use Rattle.std.proofs.lemmas.Nat.{from_le_bytes-to_le_bytes_4}
use Rattle.std.proofs.Math.Nat.{mul-div_cancel, mul-mod_left, mul-le-mul_right, one-le-mul}
use Rattle.std.proofs.Math.ListN.{set}
use Rattle.std.specs.Prelude.{codes}
use Rattle.std.specs.Int.{w32, to_le_bytes}
use borrow.Rule.Slice.PartMut.{put_mid, post_of}
use Rattle.ckd_image.specs.declared.device.DiskType.{DiskType}
use Rattle.ckd_image.specs.declared.device.DiskType.TheVariants.{D2311, D2314, D3330, D3350}
use Rattle.ckd_image.specs.declared.header.Geometry.{Geometry}
use Rattle.ckd_image.specs.Device.{row_of, device_of}
use Rattle.ckd_image.specs.Header.{HasGeometry, heads_field, track_size_field, sequence_field, high_cylinder_field, is_track_size, is_length, geometry_on, geometry_at, geometry_of, has_magic, type_field, header_bytes}
use Rattle.ckd_image.specs.declared.header.ImageErr.{ImageErr}
use Rattle.ckd_image.proofs.GrammarFront.{if_false}

-- bytes put after those that stand already, over equal ones
pub put_behind : (x n k m : ℕ) (front ys : List ℕ) → length front ≡ n → put_mid n k (front ++ replicate m x) ys ≡ (front ++ ys) ++ replicate (m - k) x
put_behind x n k m front ys e =
    let behind : post_of n k (front ++ replicate m x) ≡ replicate (m - k) x = ap (drop k) (drop_at front (replicate m x) n e) ∙ drop-replicate k m x in
    ap₂ (λ (xs zs : List ℕ). xs ++ (ys ++ zs)) (take_at front (replicate m x) n e) behind ∙ sym (append_assoc front ys (replicate (m - k) x))

-- the type byte of a device names it
pub names_device : (d : DiskType) → device_of (row_of d).type_byte ≡ Some d
names_device D2311 = refl
names_device D2314 = refl
names_device D3330 = refl
names_device D3350 = refl

-- a device has heads, few enough for four bytes
pub some_heads : (d : DiskType) → (1 ≤ (row_of d).heads) × ((row_of d).heads < 2 ^ 32)
some_heads D2311 = (omega arith, omega arith)
some_heads D2314 = (omega arith, omega arith)
some_heads D3330 = (omega arith, omega arith)
some_heads D3350 = (omega arith, omega arith)

-- whole cylinders after the header
whole_length : (d : DiskType) (n c : ℕ) → 1 ≤ c → 1 ≤ n → n ≤ (row_of d).most_cylinders → is_length d c (512 + n * c) ≡ true
whole_length d n c some one most =
    let behind : 512 + n * c - 512 ≡ n * c = omega arith in
    let least : 1 * c ≤ n * c = mul-le-mul_right c one in
    let few : n * c ≤ (row_of d).most_cylinders * c = mul-le-mul_right c most in
    and_from _ _ (and_from _ _ (eq-eqb _ 0 (ap (λ (m : ℕ). m % c) behind ∙ mul-mod_left n c)) (le-leb _ _ (omega arith))) (le-leb _ _ (omega arith))

-- the number of these cylinders
cylinders_of : (n c : ℕ) → 1 ≤ c → (512 + n * c - 512) / c ≡ n
cylinders_of n c some =
    let behind : 512 + n * c - 512 ≡ n * c = omega arith in
    ap (λ (m : ℕ). m / c) behind ∙ mul-div_cancel n some

-- a geometry of its parts
abbrev shape : DiskType → ℕ → ℕ → Geometry
shape d n size = record { device = d; cylinders = n; track_size = size }

-- each rule holds for these fields
on_fields : (d : DiskType) (bytes : List ℕ) (n size len : ℕ) → heads_field bytes ≡ (row_of d).heads → track_size_field bytes ≡ size
    → (nat_lt 1 (sequence_field bytes) || not (high_cylinder_field bytes == 0)) ≡ false
    → is_track_size d size ≡ true → 1 ≤ (row_of d).heads * size → 1 ≤ n → n ≤ (row_of d).most_cylinders → len ≡ 512 + n * ((row_of d).heads * size)
    → geometry_on d bytes len ≡ Ok (shape d n size)
unfolding geometry_on
on_fields d bytes n size len h s one_file is some least most whole =
    let cylinder : heads_field bytes * track_size_field bytes ≡ (row_of d).heads * size = ap₂ (λ (x y : ℕ). x * y) h s in
    let length_is : is_length d (heads_field bytes * track_size_field bytes) len ≡ true = ap₂ (λ (c l : ℕ). is_length d c l) cylinder whole ∙ whole_length d n ((row_of d).heads * size) some least most in
    let number : (len - 512) / (heads_field bytes * track_size_field bytes) ≡ n = ap₂ (λ (l c : ℕ). (l - 512) / c) whole cylinder ∙ cylinders_of n ((row_of d).heads * size) some in
    let answer : ◌≡◌ {A = Result Geometry ImageErr} (Ok (shape d ((len - 512) / (heads_field bytes * track_size_field bytes)) (track_size_field bytes))) (Ok (shape d n size)) = ap₂ (λ (m k : ℕ). Ok (shape d m k)) number s in
    if_false (not (heads_field bytes == (row_of d).heads)) _ _ (not_from_true _ (eq-eqb _ _ h))
    ∙ (if_false (not (is_track_size d (track_size_field bytes))) _ _ (not_from_true _ (ap (is_track_size d) s ∙ is))
    ∙ (if_false (nat_lt 1 (sequence_field bytes) || not (high_cylinder_field bytes == 0)) _ _ one_file
    ∙ (if_false (not (is_length d (heads_field bytes * track_size_field bytes) len)) _ _ (not_from_true _ length_is) ∙ answer)))

-- a header of a known device that isn't compressed is judged by its fields
on_device : (d : DiskType) (bytes : List ℕ) (len : ℕ) → 512 ≤ len → has_magic (codes "CKD_C370") bytes ≡ false → has_magic (codes "CKD_P370") bytes ≡ true
    → device_of (type_field bytes) ≡ Some d → geometry_of bytes len ≡ geometry_on d bytes len
unfolding geometry_of
on_device d bytes len long plain text named =
    if_false (nat_lt len 512) _ _ (le-ltb len 512 long)
    ∙ (if_false (has_magic (codes "CKD_C370") bytes) _ _ plain
    ∙ (if_false (not (has_magic (codes "CKD_P370") bytes)) _ _ (not_from_true _ text)
    ∙ ap (λ (o : Option DiskType). geometry_at o bytes len) named))

-- a track size is above 0 and fits four bytes
size_range : (d : DiskType) (size : ℕ) → is_track_size d size ≡ true → (1 ≤ size) × (size < 2 ^ 32)
size_range d size is =
    let w = and_parts ((size % 512 == 0) && nat_le ((row_of d).largest_record + 37) size) (nat_le size 65536) is in
    let v = and_parts (size % 512 == 0) (nat_le ((row_of d).largest_record + 37) size) w.0 in
    let most : size ≤ 65536 = leb-true size 65536 w.1 in
    let least : (row_of d).largest_record + 37 ≤ size = leb-true ((row_of d).largest_record + 37) size v.1 in
    (omega arith, omega arith)

-- a header that was written is read as the geometry, at the length that has it
pub written_read : (g : Geometry) (len : ℕ) → HasGeometry len g → geometry_of (header_bytes g) len ≡ Ok g
written_read g len has =
    let heads = some_heads g.device in
    let size = size_range g.device g.track_size has.track_size in
    let some : 1 ≤ (row_of g.device).heads * g.track_size = one-le-mul heads.0 size.0 in
    let long : 512 ≤ len = omega (arith, has.whole) in
    on_device g.device (header_bytes g) len long refl refl (names_device g.device)
    ∙ on_fields g.device (header_bytes g) g.cylinders g.track_size len (from_le_bytes-to_le_bytes_4 (row_of g.device).heads heads.1) (from_le_bytes-to_le_bytes_4 g.track_size size.1) refl has.track_size some has.cylinders has.most has.whole

-- ---- the bytes that are written

-- text, heads and track size, each after the other over zeros, and then the type
laid : (a b s : List ℕ) (t : ℕ) → length a ≡ 8 → length b ≡ 4 → length s ≡ 4
    → set (put_mid 12 4 (put_mid 8 4 (a ++ drop 8 (replicate 512 0)) b) s) 16 t ≡ a ++ (b ++ (s ++ (t ∷ 0 ∷ 0 ∷ 0 ∷ replicate 492 0)))
laid a b s t la lb ls =
    let two : length (a ++ b) ≡ 12 = length-append a b ∙ omega arith in
    let three : length ((a ++ b) ++ s) ≡ 16 = length-append (a ++ b) s ∙ omega arith in
    let zeros = ap (λ (xs : List ℕ). a ++ xs) (drop-replicate 8 512 0) in
    ap (λ (xs : List ℕ). set (put_mid 12 4 (put_mid 8 4 xs b) s) 16 t) zeros
    ∙ (ap (λ (xs : List ℕ). set (put_mid 12 4 xs s) 16 t) (put_behind 0 8 4 504 a b la)
    ∙ (ap (λ (xs : List ℕ). set xs 16 t) (put_behind 0 12 4 500 (a ++ b) s two)
    ∙ (set_at ((a ++ b) ++ s) 0 (replicate 495 0) t 16 three
    ∙ (append_assoc (a ++ b) s _ ∙ append_assoc a b _))))

-- the same, as the fields of a header
pub written_bytes : (g : Geometry) (a b s : List ℕ) (h t : ℕ) → a ≡ codes "CKD_P370" → b ≡ to_le_bytes w32 h → h ≡ (row_of g.device).heads → s ≡ to_le_bytes w32 g.track_size → t ≡ (row_of g.device).type_byte
    → set (put_mid 12 4 (put_mid 8 4 (a ++ drop 8 (replicate 512 0)) b) s) 16 t ≡ header_bytes g
written_bytes g a b s h t text number heads size type =
    laid a b s t (ap length text) (ap length number) (ap length size)
    ∙ (ap₂ (λ (x y : List ℕ). x ++ (y ++ (s ++ (t ∷ 0 ∷ 0 ∷ 0 ∷ replicate 492 0)))) text (number ∙ ap (to_le_bytes w32) heads)
    ∙ ap₂ (λ (x : List ℕ) (y : ℕ). codes "CKD_P370" ++ (to_le_bytes w32 (row_of g.device).heads ++ (x ++ (y ∷ 0 ∷ 0 ∷ 0 ∷ replicate 492 0)))) size type)
