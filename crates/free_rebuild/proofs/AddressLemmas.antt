-- The slots that an index holds, each at its address.
use Rattle.std.proofs.Common.{◌≡◌, ◌+◌, ◌≤◌, ◌<◌, ℕ, zero, suc, List, [], ◌∷◌, ◌++◌, length, Option, Some, None, Result, Ok, refl, sym, ap, ◌∙◌, arith}
use Rattle.std.specs.Prelude.{slice_get, unwrap_or}
use Rattle.std.specs.List.{flat_map, list_all, range_with_len}
use Rattle.std.specs.Option.{option_map}
use Rattle.std.proofs.lemmas.Option.{cond_some, option_and_then_some}
use Rattle.ckd_image.specs.declared.header.Geometry.{Geometry}
use Rattle.ckd_image.specs.Track.{Record}
use Rattle.dscb_codec.specs.declared.Dscb.{Dscb}
use Rattle.pack_spec.specs.declared.slot.VtocSlot.{VtocSlot}
use Rattle.pack_spec.specs.Label.{records_on}
use Rattle.pack_spec.specs.Slots.{record_address, slots_from, slots_in, slots_of_vtoc, slots_on}
use Rattle.pack_spec.specs.Vtoc.{is_slot, slot_bytes}
use Rattle.dscb_codec.specs.Layout.{decoded}
use Rattle.dscb_codec.specs.declared.DscbErr.{DscbErr}
use Rattle.vtoc_index.specs.declared.vol.Vol.{Vol}
use Rattle.vtoc_index.specs.Index.{AreDscbs, IsIndexOf, address_in, slots_in_front, track_index}
use Rattle.vtoc_index.proofs.HeldDscbs.{dscbs_many}
use Rattle.vtoc_index.proofs.TrackPut.{slots_at}
use Rattle.vtoc_index.proofs.VtocPut.{slot_stands}
use Rattle.free_rebuild.proofs.ChainLemmas.{AreHeld, get_low}

-- the slots of a track have their addresses
from_address : (g : Geometry) (track r i : ℕ) (xs : List Record) (s : VtocSlot) → slice_get (slots_from g track r xs) i ≡ Some s → s.address ≡ record_address g track (r + i)
from_address g track r i [] s is = cc
from_address g track r zero (x ∷ xs) s is =
    let e : r + zero ≡ r = omega arith in
    let same : record { address = record_address g track r; content = decoded (slot_bytes x) } ≡ s = cc in
    sym (ap (λ (t : VtocSlot). t.address) same) ∙ ap (record_address g track) (sym e)
from_address g track r (suc i) (x ∷ xs) s is =
    let e : r + suc i ≡ r + 1 + i = omega arith in
    from_address g track (r + 1) i xs s is ∙ ap (record_address g track) (sym e)

track_address : (image : List ℕ) (g : Geometry) (track i : ℕ) (s : VtocSlot) → slice_get (slots_at image g track) i ≡ Some s → s.address ≡ record_address g track (1 + i)
unfolding slots_on
track_address image g track i s is = by_slots (slots_on image g track) refl is
  where
    by_slots : (o : Option (List VtocSlot)) → slots_on image g track ≡ o → slice_get (unwrap_or o []) i ≡ Some s → s.address ≡ record_address g track (1 + i)
    by_slots None found there = cc
    by_slots (Some found) held there = option_and_then_some (slots_in g track) (records_on image g None track) found held (λ xs read are.
        let same : slots_from g track 1 xs ≡ found = (cond_some (list_all is_slot xs) (slots_from g track 1 xs) found are).1 in
        from_address g track 1 i xs s (ap (λ (ss : List VtocSlot). slice_get ss i) same ∙ there))

get_behind : {X : Type 0} (xs ys : List X) (i : ℕ) → slice_get (xs ++ ys) (length xs + i) ≡ slice_get ys i
get_behind [] ys i = ap (slice_get ys) (omega arith)
get_behind (x ∷ xs) ys i = let e : suc (length xs) + i ≡ suc (length xs + i) = omega arith in ap (slice_get (x ∷ xs ++ ys)) e ∙ get_behind xs ys i

get_front : {X : Type 0} (xs ys : List X) (i : ℕ) → i < length xs → slice_get (xs ++ ys) i ≡ slice_get xs i
get_front [] ys i low = absurd (omega (arith, low))
get_front (x ∷ xs) ys zero low = refl
get_front (x ∷ xs) ys (suc i) low = get_front xs ys i (omega (arith, low))

length_append : {X : Type 0} (xs ys : List X) → length (xs ++ ys) ≡ length xs + length ys
length_append [] ys = omega arith
length_append (x ∷ xs) ys = ap suc (length_append xs ys) ∙ omega arith

-- the item of one of the lists that are joined
get_joined : (f : ℕ → List VtocSlot) (start n index front : ℕ) → index < n → front < length (f (start + index)) → slice_get (flat_map f (range_with_len start n)) (length (flat_map f (range_with_len start index)) + front) ≡ slice_get (f (start + index)) front
get_joined f start zero index front inside low = absurd (omega (arith, inside))
get_joined f start (suc n) zero front inside low =
    let e : start + zero ≡ start = omega arith in
    let here : front < length (f start) = omega (arith, low, ap (λ (t : ℕ). length (f t)) e) in
    ap (slice_get (f start ++ flat_map f (range_with_len (start + 1) n))) (omega arith) ∙ get_front (f start) (flat_map f (range_with_len (start + 1) n)) front here ∙ ap (λ (t : ℕ). slice_get (f t) front) (sym e)
get_joined f start (suc n) (suc index) front inside low =
    let e : start + suc index ≡ start + 1 + index = omega arith in
    let here : front < length (f (start + 1 + index)) = omega (arith, low, ap (λ (t : ℕ). length (f t)) e) in
    let place : length (f start ++ flat_map f (range_with_len (start + 1) index)) + front ≡ length (f start) + (length (flat_map f (range_with_len (start + 1) index)) + front) = omega (arith, length_append (f start) (flat_map f (range_with_len (start + 1) index))) in
    ap (slice_get (f start ++ flat_map f (range_with_len (start + 1) n))) place
    ∙ get_behind (f start) (flat_map f (range_with_len (start + 1) n)) (length (flat_map f (range_with_len (start + 1) index)) + front)
    ∙ get_joined f (start + 1) n index front (omega (arith, inside)) here
    ∙ ap (λ (t : ℕ). slice_get (f t) front) (sym e)

pub content_of : (ds : List Dscb) (ss : List VtocSlot) (k : ℕ) (s : VtocSlot) → AreDscbs ds ss → slice_get ss k ≡ Some s → (d : Dscb) × (slice_get ds k ≡ Some d) × (s.content ≡ Ok d)
content_of [] [] k s are is = cc
content_of [] (x ∷ ss) k s are is = absurd cc
content_of (d ∷ ds) [] k s are is = absurd cc
content_of (d ∷ ds) (x ∷ ss) zero s are is =
    let same : x ≡ s = cc in
    let one : x.content ≡ Ok d = cc in
    (d, refl, ap (λ (t : VtocSlot). t.content) (sym same) ∙ one)
content_of (d ∷ ds) (x ∷ ss) (suc k) s are is =
    let rest : AreDscbs ds ss = cc in
    content_of ds ss k s rest is

get_past : {X : Type 0} (xs : List X) (k : ℕ) → length xs ≤ k → slice_get xs k ≡ None
get_past [] k high = refl
get_past (x ∷ xs) zero high = absurd (omega (arith, high))
get_past (x ∷ xs) (suc k) high = get_past xs k (omega (arith, high))

-- what an index holds, stands in the slots, at their addresses
pub held_slots : (image : List ℕ) (v : Vol) → IsIndexOf image v → AreHeld (address_in v) (slots_of_vtoc image v.geometry v.vtoc) v.slots.items
unfolding slots_of_vtoc
held_slots image v index k = by_item (slice_get slots k) refl
  where
    slots : List VtocSlot
    slots = slots_of_vtoc image v.geometry v.vtoc

    by_item : (o : Option VtocSlot) → slice_get slots k ≡ o → slice_get slots k ≡ option_map (λ (d : Dscb). record { address = address_in v k; content = Ok d }) (slice_get v.slots.items k)
    by_item None there =
        let many = dscbs_many v.slots.items slots index.slots in
        let high : length v.slots.items ≤ k = past slots k there many in
        there ∙ sym (ap (option_map (λ (d : Dscb). record { address = address_in v k; content = Ok d })) (get_past v.slots.items k high))
      where
        past : (ss : List VtocSlot) (k : ℕ) → slice_get ss k ≡ None → length v.slots.items ≡ length ss → length v.slots.items ≤ k
        past ss k none many = by_low ss k none many
          where
            by_low : (ss : List VtocSlot) (k : ℕ) → slice_get ss k ≡ None → length v.slots.items ≡ length ss → length v.slots.items ≤ k
            by_low ss k none many = omega (arith, many, long ss k none)
              where
                long : (ss : List VtocSlot) (k : ℕ) → slice_get ss k ≡ None → length ss ≤ k
                long [] k none = omega arith
                long (s ∷ ss) zero none = cc
                long (s ∷ ss) (suc k) none = let more = long ss k none in omega (arith, more)
    by_item (Some s) there =
        let content = content_of v.slots.items slots k s index.slots there in
        let low : k < length slots = get_low slots k s there in
        let stands = slot_stands image v.geometry v.vtoc v.firsts.items k index.firsts low in
        let t : ℕ = v.vtoc.start + track_index v.firsts.items k in
        let front : ℕ = slots_in_front v.firsts.items k in
        let joined = get_joined (slots_at image v.geometry) v.vtoc.start v.vtoc.len (track_index v.firsts.items k) front stands.inside stands.there in
        let item : slice_get (slots_at image v.geometry t) front ≡ Some s = sym joined ∙ ap (slice_get slots) stands.number ∙ there in
        let address : s.address ≡ record_address v.geometry t (1 + front) = track_address image v.geometry t front s item in
        let e : 1 + front ≡ front + 1 = omega arith in
        let at : s.address ≡ address_in v k = address ∙ ap (record_address v.geometry t) e in
        let slot : s ≡ record { address = address_in v k; content = Ok content.0 } =
        ap (λ (a : List ℕ). record { address = a; content = s.content }) at ∙ ap (λ (c : Result Dscb DscbErr). record { address = address_in v k; content = c }) content.2 in
        there ∙ ap Some slot ∙ sym (ap (option_map (λ (d : Dscb). record { address = address_in v k; content = Ok d })) content.1)
