-- An image whose header is read has the geometry that was read.
use Rattle.std.proofs.Common.{◌≡◌, ◌≤◌, ◌+◌, ◌-◌, ◌*◌, ◌/◌, ◌%◌, ℕ, Bool, true, false, cond, Option, Some, None, Result, Ok, Err, refl, sym, ◌∙◌, ap, subst, arith, List}
use Rattle.std.specs.Prelude.{nat_le, nat_lt, not, ◌==◌, ◌&&◌, ◌||◌, codes}
use Rattle.std.proofs.Math.Nat.{div-add-mod, one-le-mul, le_of_mul-le-mul_right}
use Rattle.std.proofs.lemmas.Bool.{and_parts, eqb-true, leb-true, ltb-false}
use Rattle.ckd_image.specs.declared.device.DiskType.{DiskType}
use Rattle.ckd_image.specs.declared.header.Geometry.{Geometry}
use Rattle.ckd_image.specs.declared.header.ImageErr.{ImageErr}
use Rattle.ckd_image.specs.declared.header.ImageErr.TheVariants.{Compressed, BadMagic, BadHeads, BadTrackSize, MultiFile, BadLength}
use Rattle.ckd_image.specs.Device.{row_of, device_of}
use Rattle.ckd_image.specs.Header.{HasGeometry, geometry_at, geometry_of, geometry_on, has_magic, heads_field, high_cylinder_field, is_length, is_track_size, sequence_field, track_size_field, type_field}
use Rattle.ckd_image.proofs.WrittenHeaders.{some_heads}

-- a rule that isn't broken leaves what follows
unbroken : (b : Bool) (e : ImageErr) (m : Result Geometry ImageErr) (g : Geometry) → cond b (Err e) m ≡ Ok g → (b ≡ false) × (m ≡ Ok g)
unbroken true e m g is = cc
unbroken false e m g is = (refl, is)

holds : (b : Bool) → not b ≡ false → b ≡ true
holds true is = refl
holds false is = cc

same_ok : (g h : Geometry) → ◌≡◌ {A = Result Geometry ImageErr} (Ok g) (Ok h) → g ≡ h
same_ok g h is = cc

-- the cylinders stand whole after the header
whole_cylinders : (d : DiskType) (heads size cylinder len : ℕ) → heads ≡ (row_of d).heads → is_track_size d size ≡ true → cylinder ≡ heads * size → is_length d cylinder len ≡ true → 512 ≤ len
    → HasGeometry len (record { device = d; cylinders = (len - 512) / cylinder; track_size = size })
whole_cylinders d heads size cylinder len head track is fits long =
    let w = and_parts ((len - 512) % cylinder == 0 && nat_le cylinder (len - 512)) _ fits in
    let v = and_parts ((len - 512) % cylinder == 0) _ w.0 in
    let none : (len - 512) % cylinder ≡ 0 = eqb-true _ 0 v.0 in
    let least : cylinder ≤ len - 512 = leb-true cylinder (len - 512) v.1 in
    let most : len - 512 ≤ (row_of d).most_cylinders * cylinder = leb-true (len - 512) _ w.1 in
    let t = and_parts (size % 512 == 0 && nat_le ((row_of d).largest_record + 37) size) _ track in
    let s = and_parts (size % 512 == 0) _ t.0 in
    let long_track : (row_of d).largest_record + 37 ≤ size = leb-true ((row_of d).largest_record + 37) size s.1 in
    let some : 1 ≤ heads = omega (arith, head, (some_heads d).0) in
    let some_size : 1 ≤ size = omega (arith, long_track) in
    let some_cylinder : 1 ≤ cylinder = subst (λ (n : ℕ). 1 ≤ n) (sym is) (one-le-mul some some_size) in
    let q : ℕ = (len - 512) / cylinder in
    let parts : cylinder * q ≡ len - 512 = omega (arith, div-add-mod (len - 512) cylinder, none) in
    let turned : q * cylinder ≡ len - 512 = omega (arith, parts) in
    record {
      cylinders = le_of_mul-le-mul_right {m = 1} {n = q} {k = cylinder} (omega (arith, turned, least)) (omega (arith, some_cylinder));
      most = le_of_mul-le-mul_right {m = q} {n = (row_of d).most_cylinders} {k = cylinder} (omega (arith, turned, most)) (omega (arith, some_cylinder));
      track_size = track;
      whole =
          let same : q * cylinder ≡ q * ((row_of d).heads * size) = ap (λ (n : ℕ). q * n) (is ∙ ap (λ (n : ℕ). n * size) head) in
          omega (arith, turned, same, long);
    }

on_geometry : (d : DiskType) (bytes : List ℕ) (len : ℕ) (g : Geometry) → geometry_on d bytes len ≡ Ok g → 512 ≤ len → HasGeometry len g
unfolding geometry_on
on_geometry d bytes len g is long =
    let heads : ℕ = heads_field bytes in
    let size : ℕ = track_size_field bytes in
    let one = unbroken (not (heads == (row_of d).heads)) (BadHeads heads) _ g is in
    let two = unbroken (not (is_track_size d size)) (BadTrackSize size) _ g one.1 in
    let three = unbroken (nat_lt 1 (sequence_field bytes) || not (high_cylinder_field bytes == 0)) MultiFile _ g two.1 in
    let four = unbroken (not (is_length d (heads * size) len)) (BadLength len) _ g three.1 in
    subst (HasGeometry len) (same_ok _ g four.1)
    (whole_cylinders d heads size (heads * size) len (eqb-true heads _ (holds _ one.0)) (holds _ two.0) refl (holds _ four.0) long)

at_geometry : (o : Option DiskType) (bytes : List ℕ) (len : ℕ) (g : Geometry) → geometry_at o bytes len ≡ Ok g → 512 ≤ len → HasGeometry len g
at_geometry None bytes len g is long = cc
at_geometry (Some d) bytes len g is long = on_geometry d bytes len g is long

pub has_geometry : (bytes : List ℕ) (len : ℕ) (g : Geometry) → geometry_of bytes len ≡ Ok g → HasGeometry len g
unfolding geometry_of
has_geometry bytes len g is =
    let one = unbroken (nat_lt len 512) BadMagic _ g is in
    let two = unbroken (has_magic (codes "CKD_C370") bytes) Compressed _ g one.1 in
    let three = unbroken (not (has_magic (codes "CKD_P370") bytes)) BadMagic _ g two.1 in
    at_geometry (device_of (type_field bytes)) bytes len g three.1 (ltb-false len 512 one.0)
