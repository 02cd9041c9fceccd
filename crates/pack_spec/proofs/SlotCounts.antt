-- How many slots stand on a track, and on those of a VTOC.
use Rattle.std.proofs.Common.{◌≡◌, ◌+◌, ◌*◌, ◌≤◌, ap, length-append, ℕ, zero, suc, Bool, true, false, cond, ◌/◌, ◌%◌, drop, List, [], ◌∷◌, length, Option, Some, None, refl, sym, arith}
use Rattle.std.proofs.lemmas.Option.{cond_some, option_and_then_some}
use Rattle.std.specs.Option.{option_map}
use Rattle.std.specs.Prelude.{unwrap_or}
use Rattle.std.specs.List.{flat_map, list_all}
use Rattle.std.proofs.lemmas.List.FromFn.{length-range_with_len}
use Rattle.ckd_image.specs.declared.header.Geometry.{Geometry}
use Rattle.ckd_image.specs.Track.{Record}
use Rattle.ckd_image.specs.Reading.{records_to_end, records_of, is_at_end, is_front, is_record_at, front_record, record_length}
use Rattle.pack_spec.specs.Label.{heads_of, track_bytes, records_on}
use Rattle.pack_spec.specs.Vtoc.{is_slot}
use Rattle.pack_spec.specs.Slots.{slots_from, slots_in, slots_of_vtoc, slots_on, tracks_in}
use Rattle.pack_spec.specs.declared.slot.VtocSlot.{VtocSlot}
use Rattle.vol_model.specs.declared.contents.Run.{Run}

-- a value that a test lets through
pub taken : {A : Type 0} (b : Bool) (o : Option A) (x : A) → cond b o None ≡ Some x → o ≡ Some x
taken true o x e = e
taken false o x e = cc

pub length-slots_from : (g : Geometry) (track r : ℕ) (xs : List Record) → length (slots_from g track r xs) ≡ length xs
length-slots_from g track r [] = refl
length-slots_from g track r (x ∷ xs) = ap suc (length-slots_from g track (r + 1) xs)

-- at most so many records stand on a track
pub more-records : (left : ℕ) (x : Record) (xs : List Record) (ends stands : Bool) (o : Option (List Record)) → ((ys : List Record) → o ≡ Some ys → length ys ≤ left) → cond ends (Some []) (cond stands (option_map (λ ys. x ∷ ys) o) None) ≡ Some xs → length xs ≤ suc left
more-records left x xs true stands o h e = let same : [] ≡ xs = cc in rw (sym same) (omega arith)
more-records left x xs false true None h e = cc
more-records left x xs false true (Some ys) h e =
    let same : x ∷ ys ≡ xs = cc in
    let few = h ys refl in
    rw (sym same) (omega arith)
more-records left x xs false false o h e = cc

pub length-records_to_end : (left r : ℕ) (bytes : List ℕ) (xs : List Record) → records_to_end left r bytes ≡ Some xs → length xs ≤ left
unfolding records_to_end
length-records_to_end zero r bytes xs e =
    let same : [] ≡ xs = (cond_some (is_at_end bytes) [] xs e).1 in
    rw (sym same) (omega arith)
length-records_to_end (suc left) r bytes xs e =
    more-records left (front_record bytes) xs (is_at_end bytes) (is_record_at r bytes) _ (λ ys h. length-records_to_end left (suc r) (drop (record_length bytes) bytes) ys h) e

length-records_on : (image : List ℕ) (g : Geometry) (track : ℕ) (xs : List Record) → records_on image g None track ≡ Some xs → length xs ≤ 255
unfolding records_on records_of
length-records_on image g track xs e =
    let bytes = track_bytes image g track in
    length-records_to_end 255 1 (drop 21 bytes) xs (taken (is_front (track / heads_of g) (track % heads_of g) bytes) _ xs e)

-- at most 255 slots stand on a track
pub length-slots_on : (image : List ℕ) (g : Geometry) (track : ℕ) (slots : List VtocSlot) → slots_on image g track ≡ Some slots → length slots ≤ 255
unfolding slots_on
length-slots_on image g track slots e =
    option_and_then_some (slots_in g track) (records_on image g None track) slots e (λ xs found are.
    let same : slots_from g track 1 xs ≡ slots = (cond_some (list_all is_slot xs) (slots_from g track 1 xs) slots are).1 in
    let few = length-records_on image g track xs found in
    rw (sym same) (omega (arith, length-slots_from g track 1 xs)))

-- at most 65,535 slots stand on the tracks of a VTOC
few_slots_at : (image : List ℕ) (g : Geometry) (track : ℕ) → length (unwrap_or (slots_on image g track) []) ≤ 255
few_slots_at image g track = found (slots_on image g track) refl
  where
    found : (o : Option (List VtocSlot)) → slots_on image g track ≡ o → length (unwrap_or o []) ≤ 255
    found None is = omega arith
    found (Some slots) is = length-slots_on image g track slots is

few_slots_in : (image : List ℕ) (g : Geometry) (ts : List ℕ) → length (flat_map (λ t. unwrap_or (slots_on image g t) []) ts) ≤ length ts * 255
few_slots_in image g [] = omega arith
few_slots_in image g (t ∷ ts) =
    omega (arith, few_slots_at image g t, few_slots_in image g ts, length-append (unwrap_or (slots_on image g t) []) (flat_map (λ u. unwrap_or (slots_on image g u) []) ts))

pub few_slots : (image : List ℕ) (g : Geometry) (vtoc : Run) → vtoc.len ≤ 257 → length (slots_of_vtoc image g vtoc) ≤ 65535
unfolding slots_of_vtoc
few_slots image g vtoc few =
    omega (arith, few, few_slots_in image g (tracks_in vtoc), length-range_with_len vtoc.start vtoc.len)
