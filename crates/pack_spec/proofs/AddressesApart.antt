-- No two slots of a VTOC have one address.
use Rattle.std.proofs.Common.{◌≡◌, ◌+◌, ◌*◌, ◌≤◌, ◌<◌, ◌/◌, ◌%◌, ℕ, zero, suc, List, [], ◌∷◌, ◌++◌, length, Option, Some, None, refl, ap, subst, ◌∙◌, arith}
use Rattle.std.specs.Prelude.{slice_get, slice_index, unwrap_or}
use Rattle.std.specs.Int.{w16, from_be_bytes, to_be_bytes}
use Rattle.std.specs.List.{flat_map, list_all, range_with_len}
use Rattle.std.proofs.Math.Nat.{div-add-mod, div-le_self, mod-le}
use Rattle.std.proofs.lemmas.Nat.{from_be_bytes-to_be_bytes_2}
use Rattle.std.proofs.lemmas.Option.{cond_some, option_and_then_some}
use Rattle.ckd_image.specs.declared.header.Geometry.{Geometry}
use Rattle.ckd_image.specs.Track.{Record}
use Rattle.pack_spec.specs.declared.slot.VtocSlot.{VtocSlot}
use Rattle.pack_spec.specs.Label.{address_at, heads_of, records_on, track_of_address}
use Rattle.pack_spec.specs.Vtoc.{is_slot}
use Rattle.pack_spec.specs.Slots.{record_address, slots_from, slots_in, slots_of_vtoc, slots_on}
use Rattle.pack_spec.proofs.SlotCounts.{length-slots_from, length-slots_on}
use Rattle.vol_model.specs.declared.contents.Run.{Run}

-- no two slots have one address
abbrev pub AreApart : List VtocSlot → Type 0
AreApart slots = (i j : ℕ) (s t : VtocSlot) → slice_get slots i ≡ Some s → slice_get slots j ≡ Some t → s.address ≡ t.address → i ≡ j

-- a number by which slots rise: 256 a track, and the record
abbrev key_of : Geometry → List ℕ → ℕ
key_of g address = track_of_address g (address_at 0 address) * 256 + slice_index address 4

key_at : (g : Geometry) (track r : ℕ) → track < 65536 → key_of g (record_address g track r) ≡ track * 256 + r
key_at g track r low =
    let h : ℕ = heads_of g in
    let cylinder : from_be_bytes w16 (to_be_bytes w16 (track / h)) ≡ track / h = from_be_bytes-to_be_bytes_2 (track / h) (omega (arith, low, div-le_self track h)) in
    let head : from_be_bytes w16 (to_be_bytes w16 (track % h)) ≡ track % h = from_be_bytes-to_be_bytes_2 (track % h) (omega (arith, low, mod-le track h)) in
    let whole : track / h * h + track % h ≡ track = omega (arith, div-add-mod track h) in
    ap (λ (n : ℕ). (n * h + from_be_bytes w16 (to_be_bytes w16 (track % h))) * 256 + r) cylinder
    ∙ ap (λ (n : ℕ). (track / h * h + n) * 256 + r) head
    ∙ ap (λ (n : ℕ). n * 256 + r) whole

module _ (g : Geometry) where
  -- slots rise from a number to another
  abbrev Rise : ℕ → ℕ → List VtocSlot → Type 0
  Rise low high [] = low ≤ high
  Rise low high (s ∷ ss) = (low ≤ key_of g s.address) × Rise (key_of g s.address + 1) high ss

  rise_lower : (lower low high : ℕ) (ss : List VtocSlot) → lower ≤ low → Rise low high ss → Rise lower high ss
  rise_lower lower low high [] le rise = omega (arith, le, rise)
  rise_lower lower low high (s ∷ ss) le rise = (omega (arith, le, rise.0), rise.1)

  rise_then : (low mid high : ℕ) (xs ys : List VtocSlot) → Rise low mid xs → Rise mid high ys → Rise low high (xs ++ ys)
  rise_then low mid high [] ys one two = rise_lower low mid high ys one two
  rise_then low mid high (x ∷ xs) ys one two = (one.0, rise_then (key_of g x.address + 1) mid high xs ys one.1 two)

  -- none stands before the first
  rise_above : (low high i : ℕ) (ss : List VtocSlot) (s : VtocSlot) → Rise low high ss → slice_get ss i ≡ Some s → low ≤ key_of g s.address
  rise_above low high i [] s rise is = cc
  rise_above low high zero (x ∷ xs) s rise is =
      let same : x ≡ s = cc in
      subst (λ (y : VtocSlot). low ≤ key_of g y.address) same rise.0
  rise_above low high (suc i) (x ∷ xs) s rise is =
      let more = rise_above (key_of g x.address + 1) high i xs s rise.1 is in
      omega (arith, more, rise.0)

  rise_apart : (low high i j : ℕ) (ss : List VtocSlot) (s t : VtocSlot) → Rise low high ss → slice_get ss i ≡ Some s → slice_get ss j ≡ Some t → key_of g s.address ≡ key_of g t.address → i ≡ j
  rise_apart low high i j [] s t rise one two same = cc
  rise_apart low high zero zero (x ∷ xs) s t rise one two same = refl
  rise_apart low high zero (suc j) (x ∷ xs) s t rise one two same =
      let first : x ≡ s = cc in
      let more = rise_above (key_of g x.address + 1) high j xs t rise.1 two in
      absurd (omega (arith, more, same, ap (λ (y : VtocSlot). key_of g y.address) first))
  rise_apart low high (suc i) zero (x ∷ xs) s t rise one two same =
      let first : x ≡ t = cc in
      let more = rise_above (key_of g x.address + 1) high i xs s rise.1 one in
      absurd (omega (arith, more, same, ap (λ (y : VtocSlot). key_of g y.address) first))
  rise_apart low high (suc i) (suc j) (x ∷ xs) s t rise one two same = ap suc (rise_apart (key_of g x.address + 1) high i j xs s t rise.1 one two same)

  -- the slots of a track
  rise_track : (track r : ℕ) (records : List Record) → track < 65536 → r + length records ≤ 256 → Rise (track * 256 + r) (track * 256 + 256) (slots_from g track r records)
  rise_track track r [] low few = omega (arith, few)
  rise_track track r (x ∷ xs) low few =
      let key = key_at g track r low in
      let more = rise_track track (r + 1) xs low (omega (arith, few)) in
      (omega (arith, key), rise_lower (key_of g (record_address g track r) + 1) (track * 256 + (r + 1)) (track * 256 + 256) (slots_from g track (r + 1) xs) (omega (arith, key)) more)

  module _ (image : List ℕ) where
    abbrev on_track : ℕ → List VtocSlot
    on_track track = unwrap_or (slots_on image g track) []

    rise_on : (track : ℕ) → track < 65536 → Rise (track * 256) ((track + 1) * 256) (on_track track)
    unfolding slots_on
    rise_on track low = by_slots (slots_on image g track) refl
      where
        by_slots : (o : Option (List VtocSlot)) → slots_on image g track ≡ o → Rise (track * 256) ((track + 1) * 256) (unwrap_or o [])
        by_slots None is = omega arith
        by_slots (Some found) is = option_and_then_some (slots_in g track) (records_on image g None track) found is (λ xs read are.
            let same : slots_from g track 1 xs ≡ found = (cond_some (list_all is_slot xs) (slots_from g track 1 xs) found are).1 in
            let few = length-slots_on image g track found is in
            let many : 1 + length xs ≤ 256 = omega (arith, few, ap length same, length-slots_from g track 1 xs) in
            let high : track * 256 + 256 ≡ (track + 1) * 256 = omega arith in
            subst (λ (ss : List VtocSlot). Rise (track * 256) ((track + 1) * 256) ss) same
            (subst (λ (n : ℕ). Rise (track * 256) n (slots_from g track 1 xs)) high
            (rise_lower (track * 256) (track * 256 + 1) (track * 256 + 256) (slots_from g track 1 xs) (omega arith) (rise_track track 1 xs low many))))

    rise_tracks : (start n : ℕ) → start + n ≤ 65536 → Rise (start * 256) ((start + n) * 256) (flat_map on_track (range_with_len start n))
    rise_tracks start zero low = omega arith
    rise_tracks start (suc n) low =
        let rest = rise_tracks (start + 1) n (omega (arith, low)) in
        let high : (start + 1 + n) * 256 ≡ (start + suc n) * 256 = omega arith in
        subst (λ (m : ℕ). Rise (start * 256) m (on_track start ++ flat_map on_track (range_with_len (start + 1) n))) high
        (rise_then (start * 256) ((start + 1) * 256) ((start + 1 + n) * 256) (on_track start) _ (rise_on start (omega (arith, low))) rest)

-- the slots of a VTOC whose tracks can be told by two bytes
pub slots_apart : (image : List ℕ) (g : Geometry) (vtoc : Run) → vtoc.start + vtoc.len ≤ 65536 → AreApart (slots_of_vtoc image g vtoc)
unfolding slots_of_vtoc
slots_apart image g vtoc low i j s t one two same =
    rise_apart g _ _ i j (slots_of_vtoc image g vtoc) s t (rise_tracks g image vtoc.start vtoc.len low) one two (ap (key_of g) same)
