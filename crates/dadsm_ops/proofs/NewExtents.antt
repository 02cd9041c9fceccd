-- The extents of a new data set, as they are read back from its DSCBs.
use Rattle.std.proofs.Common.{◌≡◌, ◌+◌, ◌-◌, ◌/◌, ◌%◌, ◌^◌, ◌≤◌, ◌<◌, ℕ, Bool, true, ◌&&◌, ◌||◌, List, [], ◌∷◌, ◌++◌, length, map, take, Option, Some, None, Ok, refl, ap, ap₂, ◌∙◌, arith}
use Rattle.std.specs.Prelude.{◌==◌, nat_le, nat_lt, slice_get}
use Rattle.std.specs.Int.{w16, from_be_bytes, to_be_bytes}
use Rattle.std.specs.List.{AllByRecursion, list_all}
use Rattle.std.specs.Option.{option_map_or}
use Rattle.std.proofs.Math.Nat.{div-lt_iff_lt-mul, mod-lt}
use Rattle.std.proofs.lemmas.Bool.Decides.{nat_tests}
use Rattle.std.proofs.lemmas.Nat.{from_be_bytes-to_be_bytes_2}
use Rattle.ckd_image.specs.declared.device.DiskType.{DiskType}
use Rattle.ckd_image.specs.declared.device.DiskType.TheVariants.{D2311, D2314, D3330, D3350}
use Rattle.ckd_image.specs.declared.header.Geometry.{Geometry}
use Rattle.ckd_image.specs.Device.{row_of}
use Rattle.dscb_codec.specs.declared.Dscb.TheVariants as formats
use Rattle.dscb_codec.specs.declared.F1.{F1}
use Rattle.pack_spec.specs.declared.address.Address.{Address}
use Rattle.pack_spec.specs.declared.slot.VtocSlot.{VtocSlot}
use Rattle.pack_spec.specs.Label.{heads_of, is_inside, track_of_address, tracks_of}
use Rattle.pack_spec.specs.New.{address_of}
use Rattle.pack_spec.specs.Rules.{counted_extents, format_3_of, further_extents, is_chained}
use Rattle.pack_spec.specs.Vtoc.{is_counted_type, is_extent, is_field_type, lower_of, run_of_extent, upper_of}
use Rattle.vol_model.specs.declared.contents.Attr.{Attr}
use Rattle.vol_model.specs.declared.contents.Run.{Run}
use Rattle.vol_model.specs.declared.requests.SpaceUnit.{SpaceUnit}
use Rattle.vol_model.specs.declared.requests.SpaceUnit.TheVariants.{Track, Cylinder}
use Rattle.vol_model.specs.Lawful.{IsOnPack}
use Rattle.dadsm_ops.specs.Allocating.{extent_bytes, extent_field, extent_type, new_f1, new_f3}

heads_some : (d : DiskType) → 0 < (row_of d).heads
heads_some D2311 = omega arith
heads_some D2314 = omega arith
heads_some D3330 = omega arith
heads_some D3350 = omega arith

-- the type is that of an extent with data
pub kind_counted : (unit : SpaceUnit) → ((extent_type unit == 0x01) || (extent_type unit == 0x81)) ≡ true
kind_counted Track = refl
kind_counted Cylinder = refl

both : (a b : Bool) → a ≡ true → b ≡ true → (a && b) ≡ true
both a b e f = grind arith

less : (a b : ℕ) → a < b → nat_lt a b ≡ true
less a b l = grind (arith, nat_tests)

at_most : (a b : ℕ) → a ≤ b → nat_le a b ≡ true
at_most a b l = grind (arith, nat_tests)

address_read : (x y : ℕ) → x < 2 ^ 16 → y < 2 ^ 16 → (let at : Address = record { cylinder = from_be_bytes w16 (to_be_bytes w16 x); head = from_be_bytes w16 (to_be_bytes w16 y) } in at) ≡ record { cylinder = x; head = y }
address_read x y low high = ap₂ (λ (p q : ℕ). let at : Address = record { cylinder = p; head = q } in at) (from_be_bytes-to_be_bytes_2 x low) (from_be_bytes-to_be_bytes_2 y high)

module _ (g : Geometry) where
  inside : (k : ℕ) → k < tracks_of g → is_inside g (address_of g k) ≡ true
  inside k below =
      let some = heads_some g.device in
      both _ _ (less (k / heads_of g) g.cylinders ((div-lt_iff_lt-mul {k = heads_of g} {x = k} {y = g.cylinders} some).1 below)) (less (k % heads_of g) (heads_of g) (mod-lt k some))

  track_of : (k : ℕ) → track_of_address g (address_of g k) ≡ k
  track_of k = let some = heads_some g.device in omega arith

  module _ (kind number : ℕ) (r : Run) (some : 1 ≤ r.len) (within : r.start + r.len ≤ 65536) where
    abbrev last : ℕ
    last = r.start + r.len - 1

    abbrev extent : List ℕ
    extent = extent_bytes g kind number r

    low : (k : ℕ) → k < 65536 → (k / heads_of g < 2 ^ 16) × (k % heads_of g < 2 ^ 16)
    low k below =
        let heads = heads_some g.device in
        (omega arith, omega (arith, mod-lt k heads))

    lower : lower_of extent ≡ address_of g r.start
    lower = let l = low r.start (omega (arith, some, within)) in address_read (r.start / heads_of g) (r.start % heads_of g) l.0 l.1

    upper : upper_of extent ≡ address_of g last
    upper = let l = low last (omega (arith, some, within)) in address_read (last / heads_of g) (last % heads_of g) l.0 l.1

    -- an extent is read as the run
    pub run_read : run_of_extent g extent ≡ r
    run_read =
        let count : last - r.start + 1 ≡ r.len = omega (arith, some) in
        ap₂ (λ (x y : Address). let s : Run = record { start = track_of_address g x; len = track_of_address g y - track_of_address g x + 1 } in s) lower upper
        ∙ ap₂ (λ (s t : ℕ). let x : Run = record { start = s; len = t - s + 1 } in x) (track_of r.start) (track_of last)
        ∙ ap (λ (t : ℕ). let x : Run = record { start = r.start; len = t } in x) count

    -- and is one of the image, where the run is
    pub extent_inside : r.start + r.len ≤ tracks_of g → is_extent g extent ≡ true
    extent_inside there =
        ap₂ (λ (x y : Address). is_inside g x && is_inside g y && nat_le (track_of_address g x) (track_of_address g y)) lower upper
        ∙ both _ _ (both _ _ (inside r.start (omega (arith, some, there))) (inside last (omega (arith, some, there)))) (ap₂ nat_le (track_of r.start) (track_of last) ∙ at_most r.start last (omega (arith, some)))

  -- runs as extents, numbered from this number on
  abbrev pub numbered : ℕ → ℕ → List Run → List (List ℕ)
  numbered kind k [] = []
  numbered kind k (r ∷ rs) = extent_bytes g kind k r ∷ numbered kind (k + 1) rs

  pub numbered_read : (kind k : ℕ) (rs : List Run) → tracks_of g ≤ 65536 → AllByRecursion (IsOnPack g) rs → map (run_of_extent g) (numbered kind k rs) ≡ rs
  numbered_read kind k [] few all = refl
  numbered_read kind k (r ∷ rs) few all =
      ap₂ (λ (x : Run) (xs : List Run). x ∷ xs) (run_read kind k r all.0.0 (omega (arith, all.0.1, few))) (numbered_read kind (k + 1) rs few all.1)

  pub numbered_inside : (kind k : ℕ) (rs : List Run) → tracks_of g ≤ 65536 → AllByRecursion (IsOnPack g) rs → list_all (is_extent g) (numbered kind k rs) ≡ true
  numbered_inside kind k [] few all = refl
  numbered_inside kind k (r ∷ rs) few all =
      both _ _ (extent_inside kind k r all.0.0 (omega (arith, all.0.1, few)) all.0.1) (numbered_inside kind (k + 1) rs few all.1)

  pub numbered_types : (kind k : ℕ) (rs : List Run) → ((kind == 0x01) || (kind == 0x81)) ≡ true → list_all is_counted_type (numbered kind k rs) ≡ true
  numbered_types kind k [] counted = refl
  numbered_types kind k (r ∷ rs) counted = both _ _ counted (numbered_types kind (k + 1) rs counted)

  -- each field has a type that is read
  field_type : (kind k : ℕ) (rs : List Run) → ((kind == 0x01) || (kind == 0x81)) ≡ true → is_field_type (extent_field g kind rs k) ≡ true
  field_type kind k rs counted = by_run (slice_get rs k)
    where
      either : (a b : Bool) → b ≡ true → (a || b) ≡ true
      either a b e = grind arith

      by_run : (o : Option Run) → is_field_type (option_map_or (extent_bytes g kind k) o (0 ∷ 0 ∷ 0 ∷ 0 ∷ 0 ∷ 0 ∷ 0 ∷ 0 ∷ 0 ∷ 0 ∷ [])) ≡ true
      by_run None = refl
      by_run (Some r) = either _ _ counted

  module _ (name serial : List ℕ) (attr : Attr) (kind : ℕ) (pointer : List ℕ) (dir : ℕ) where
    abbrev pub set_f1 : List Run → F1
    set_f1 runs = new_f1 name serial attr g kind runs pointer dir

    pub field_types : (runs : List Run) → ((kind == 0x01) || (kind == 0x81)) ≡ true → list_all is_field_type (set_f1 runs).runs ≡ true
    unfolding new_f1
    field_types runs counted = both _ _ (field_type kind 0 runs counted) (both _ _ (field_type kind 1 runs counted) (both _ _ (field_type kind 2 runs counted) refl))

    -- The format 3 to which the format 1 leads holds the other extents, where there are more than three.
    abbrev pub HasFurtherIfMany : List VtocSlot → List Run → Type 0
    HasFurtherIfMany slots runs = is_chained (set_f1 runs) ≡ true → (s : VtocSlot) × (format_3_of slots (set_f1 runs) ≡ Some s) × (s.content ≡ Ok (formats.F3 (new_f3 g kind runs)))

    third_by : (slots : List VtocSlot) (runs : List Run) (s : VtocSlot) (n : ℕ) (own : List (List ℕ)) → format_3_of slots (set_f1 runs) ≡ Some s → s.content ≡ Ok (formats.F3 (new_f3 g kind runs))
        → take n (own ++ option_map_or (λ (t : VtocSlot). further_extents t.content) (format_3_of slots (set_f1 runs)) []) ≡ take n (own ++ further_extents (Ok (formats.F3 (new_f3 g kind runs))))
    third_by slots runs s n own found content =
        ap (λ (o : Option VtocSlot). take n (own ++ option_map_or (λ (t : VtocSlot). further_extents t.content) o [])) found ∙ ap (λ c. take n (own ++ further_extents c)) content

    -- the extents that a new set counts
    pub counted_new : (slots : List VtocSlot) (runs : List Run) → length runs ≤ 5 → HasFurtherIfMany slots runs → counted_extents slots (set_f1 runs) ≡ numbered kind 0 runs
    unfolding counted_extents new_f1 new_f3
    counted_new slots [] few third = refl
    counted_new slots (a ∷ []) few third = refl
    counted_new slots (a ∷ b ∷ []) few third = refl
    counted_new slots (a ∷ b ∷ c ∷ []) few third = refl
    counted_new slots (a ∷ b ∷ c ∷ d ∷ []) few third = let t = third refl in third_by slots (a ∷ b ∷ c ∷ d ∷ []) t.0 4 (set_f1 (a ∷ b ∷ c ∷ d ∷ [])).runs t.1 t.2
    counted_new slots (a ∷ b ∷ c ∷ d ∷ e ∷ []) few third = let t = third refl in third_by slots (a ∷ b ∷ c ∷ d ∷ e ∷ []) t.0 5 (set_f1 (a ∷ b ∷ c ∷ d ∷ e ∷ [])).runs t.1 t.2
    counted_new slots (a ∷ b ∷ c ∷ d ∷ e ∷ x ∷ xs) few third = absurd (omega (arith, few))
