-- The records of a new directory on one track: they fit there.
use Rattle.std.proofs.Common.{◌≡◌, ◌+◌, ◌*◌, ◌-◌, ◌≤◌, ℕ, Bool, true, cond, List, [], ◌∷◌, ◌++◌, map, min, sym, ap, ◌∙◌, arith}
use Rattle.std.specs.Prelude.{◌==◌, ◌&&◌, ◌%◌, nat_le}
use Rattle.std.specs.List.{range_with_len}
use Rattle.std.proofs.lemmas.Bool.{and_parts, leb-true}
use Rattle.ckd_image.specs.declared.device.DiskType.{DiskType}
use Rattle.ckd_image.specs.declared.device.DiskType.TheVariants.{D2311, D2314, D3330, D3350}
use Rattle.ckd_image.specs.Device.{row_of}
use Rattle.ckd_image.specs.Header.{is_track_size}
use Rattle.vol_model.specs.Places.{Content, directory_end, end_of_file}
use Rattle.pack_spec.specs.Directories.{new_block, new_numbers, new_records}
use Rattle.pack_spec.proofs.NewPlaces.{numbers_on, per_track}

-- as many blocks as stand on a track, and the end-of-file record, take less than a track of any size
pub track_room : (device : DiskType) (size n : ℕ) → is_track_size device size ≡ true → n ≤ per_track device → 21 + 272 * n + 16 ≤ size
track_room device size n lawful few =
    let first = and_parts ((size % 512 == 0) && nat_le ((row_of device).largest_record + 37) size) (nat_le size 65536) lawful in
    let second = and_parts (size % 512 == 0) (nat_le ((row_of device).largest_record + 37) size) first.0 in
    let long : (row_of device).largest_record + 37 ≤ size = leb-true ((row_of device).largest_record + 37) size second.1 in
    by device few long
  where
    by : (d : DiskType) → n ≤ per_track d → (row_of d).largest_record + 37 ≤ size → 21 + 272 * n + 16 ≤ size
    by D2311 low long = omega (arith, low, long)
    by D2314 low long = omega (arith, low, long)
    by D3330 low long = omega (arith, low, long)
    by D3350 low long = omega (arith, low, long)

-- the numbers on a track, as they are computed
pub numbers_by : (device : DiskType) (n k c first count : ℕ) → c ≡ per_track device → first ≡ k * c → count ≡ min c (n - first) → new_numbers device n k ≡ range_with_len first count
numbers_by device n k c first count is from many =
    let start : k * per_track device ≡ first = sym (from ∙ ap (λ (x : ℕ). k * x) is) in
    numbers_on device n k
    ∙ ap (λ (x : ℕ). range_with_len x (min (per_track device) (n - x))) start
    ∙ ap (λ (x : ℕ). range_with_len first (min x (n - first))) (sym is)
    ∙ ap (range_with_len first) (sym many)

-- the records of a track, the last of which is the end-of-file record or isn't
pub records_by : (device : DiskType) (n k first count : ℕ) (cs : List Content) (b : Bool) → new_numbers device n k ≡ range_with_len first count → cs ≡ map new_block (range_with_len first count) → ((directory_end device n).tt == k) ≡ b → cs ++ cond b (end_of_file ∷ []) [] ≡ new_records device n k
records_by device n k first count cs b numbers are ends =
    ap (λ (l : List Content). l ++ cond b (end_of_file ∷ []) []) (are ∙ ap (map new_block) (sym numbers))
    ∙ ap (λ (c : Bool). map new_block (new_numbers device n k) ++ cond c (end_of_file ∷ []) []) (sym ends)

pub few_on_track : (device : DiskType) → per_track device ≤ 36
few_on_track D2311 = omega arith
few_on_track D2314 = omega arith
few_on_track D3330 = omega arith
few_on_track D3350 = omega arith
