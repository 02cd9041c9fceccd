-- The slots of a VTOC, of which one is written over.
use Rattle.vtoc_index.proofs.TrackPut.{slots_at}
use Rattle.std.proofs.Common.{◌≡◌, ◌≢◌, ◌⊎◌, inl, inr, ⊎_elim, ◌<◌, ◌≤◌, ◌+◌, ◌-◌, ℕ, zero, suc, List, [], ◌∷◌, ◌++◌, length, get_or, Option, Result, Ok, refl, sym, ◌∙◌, ap, subst, arith, length-append}
use Rattle.std.specs.Prelude.{map, filter}
use Rattle.std.specs.List.{cons_option, filter_map, flat_map, range_with_len}
use Rattle.std.proofs.Math.ListN.{set}
use Rattle.std.proofs.lemmas.Bool.{cases_lt}
use Rattle.std.proofs.lemmas.List.FromFn.{get_or-map-range_with_len}
use Rattle.dscb_codec.specs.declared.Dscb.{Dscb}
use Rattle.dscb_codec.specs.declared.DscbErr.{DscbErr}
use Rattle.pack_spec.specs.declared.MountErr.{MountErr}
use Rattle.pack_spec.specs.declared.slot.VtocSlot.{VtocSlot}
use Rattle.vol_model.specs.declared.contents.Run.{Run}
use Rattle.pack_spec.specs.Slots.{slots_of_vtoc, tracks_in, track_fault, track_faults}
use Rattle.vtoc_index.specs.Index.{AreDscbs, with_dscb, firsts_of, slots_before, slots_in_front, track_index}
use Rattle.vtoc_index.proofs.Firsts.{Counted, counted, passes}
use Rattle.ckd_image.specs.declared.header.Geometry.{Geometry}

-- a slot after others, or before them
put_behind : (k : ℕ) (d : Dscb) (xs ys : List VtocSlot) → with_dscb (length xs + k) d (xs ++ ys) ≡ xs ++ with_dscb k d ys
put_behind k d [] ys = let none : 0 + k ≡ k = omega arith in ap (λ (n : ℕ). with_dscb n d ys) none
put_behind k d (x ∷ xs) ys =
    let next : suc (length xs) + k ≡ suc (length xs + k) = omega arith in
    ap (λ (n : ℕ). with_dscb n d (x ∷ (xs ++ ys))) next ∙ ap (λ (l : List VtocSlot). x ∷ l) (put_behind k d xs ys)

put_before : (k : ℕ) (d : Dscb) (xs ys : List VtocSlot) → k < length xs → with_dscb k d (xs ++ ys) ≡ with_dscb k d xs ++ ys
put_before k d [] ys low = absurd (omega (arith, low))
put_before zero d (x ∷ xs) ys low = refl
put_before (suc k) d (x ∷ xs) ys low = ap (λ (l : List VtocSlot). x ∷ l) (put_before k d xs ys (omega (arith, low)))

-- lists of tracks that are the same from one on
same_tracks : (f h : ℕ → List VtocSlot) (a n : ℕ) → ((j : ℕ) → a ≤ j → h j ≡ f j) → flat_map h (range_with_len a n) ≡ flat_map f (range_with_len a n)
same_tracks f h a zero same = refl
same_tracks f h a (suc n) same =
    ap (λ (l : List VtocSlot). l ++ flat_map h (range_with_len (a + 1) n)) (same a (omega arith))
    ∙ ap (λ (l : List VtocSlot). f a ++ l) (same_tracks f h (a + 1) n (λ j past. same j (omega (arith, past))))

-- a slot of one track is put, and the others are as before
pub put_tracks : (f h : ℕ → List VtocSlot) (d : Dscb) (a n i k t : ℕ) → i < n → t ≡ a + i → k < length (f t) → h t ≡ with_dscb k d (f t) → ((j : ℕ) → j ≢ t → h j ≡ f j)
    → flat_map h (range_with_len a n) ≡ with_dscb (length (flat_map f (range_with_len a i)) + k) d (flat_map f (range_with_len a n))
put_tracks f h d a zero i k t inside at low put others = absurd (omega (arith, inside))
put_tracks f h d a (suc n) zero k t inside at low put others =
    let here : t ≡ a = omega (arith, at) in
    let none : 0 + k ≡ k = omega arith in
    let below : k < length (f a) = subst (λ (j : ℕ). k < length (f j)) here low in
    ap (λ (l : List VtocSlot). l ++ flat_map h (range_with_len (a + 1) n)) (subst (λ (j : ℕ). h j ≡ with_dscb k d (f j)) here put)
    ∙ ap (λ (l : List VtocSlot). with_dscb k d (f a) ++ l) (same_tracks f h (a + 1) n (λ j past. others j (omega (arith, past, here))))
    ∙ sym (put_before k d (f a) (flat_map f (range_with_len (a + 1) n)) below)
    ∙ ap (λ (m : ℕ). with_dscb m d (f a ++ flat_map f (range_with_len (a + 1) n))) (sym none)
put_tracks f h d a (suc n) (suc i) k t inside at low put others =
    let before : List VtocSlot = flat_map f (range_with_len (a + 1) i) in
    let place : length (f a ++ before) + k ≡ length (f a) + (length before + k) = omega (arith, length-append (f a) before) in
    ap (λ (l : List VtocSlot). l ++ flat_map h (range_with_len (a + 1) n)) (others a (omega (arith, at)))
    ∙ ap (λ (l : List VtocSlot). f a ++ l) (put_tracks f h d (a + 1) n i k t (omega (arith, inside)) (omega (arith, at)) low put others)
    ∙ sym (ap (λ (m : ℕ). with_dscb m d (f a ++ flat_map f (range_with_len (a + 1) n))) place ∙ put_behind (length before + k) d (f a) (flat_map f (range_with_len (a + 1) n)))

-- as many slots on each track are as many on all
same_count : (f h : ℕ → List VtocSlot) (a n : ℕ) → ((j : ℕ) → length (h j) ≡ length (f j)) → length (flat_map h (range_with_len a n)) ≡ length (flat_map f (range_with_len a n))
same_count f h a zero same = refl
same_count f h a (suc n) same =
    omega (arith, length-append (h a) (flat_map h (range_with_len (a + 1) n)), length-append (f a) (flat_map f (range_with_len (a + 1) n)), same a, same_count f h (a + 1) n same)

-- the slots of one track more
one_more : (f : ℕ → List VtocSlot) (a n : ℕ) → length (flat_map f (range_with_len a (suc n))) ≡ length (flat_map f (range_with_len a n)) + length (f (a + n))
one_more f a zero =
    let first : a + 0 ≡ a = omega arith in
    omega (arith, length-append (f a) [], ap (λ (j : ℕ). length (f j)) first)
one_more f a (suc n) =
    let next : a + 1 + n ≡ a + suc n = omega arith in
    omega (arith, length-append (f a) (flat_map f (range_with_len (a + 1) (suc n))), length-append (f a) (flat_map f (range_with_len (a + 1) n)), one_more f (a + 1) n, ap (λ (j : ℕ). length (f j)) next)

before_more : (image : List ℕ) (g : Geometry) (vtoc : Run) (j : ℕ) → slots_before image g vtoc (suc j) ≡ slots_before image g vtoc j + length (slots_at image g (vtoc.start + j))
unfolding slots_of_vtoc
before_more image g vtoc j = one_more (slots_at image g) vtoc.start j

pub before_none : (image : List ℕ) (g : Geometry) (vtoc : Run) → slots_before image g vtoc 0 ≡ 0
unfolding slots_of_vtoc
before_none image g vtoc = refl

-- Where a slot stands: its track is one of the VTOC, so many slots stand before that track and before the slot on it, and the slot is one of the track's.
pub record Stands (image : List ℕ) (g : Geometry) (vtoc : Run) (index front slot : ℕ) : Type 0 where
  pub inside : index < vtoc.len
  pub number : slots_before image g vtoc index + front ≡ slot
  pub there : front < length (slots_at image g (vtoc.start + index))

pub slot_stands : (image : List ℕ) (g : Geometry) (vtoc : Run) (firsts : List ℕ) (slot : ℕ) → firsts ≡ firsts_of image g vtoc → slot < length (slots_of_vtoc image g vtoc) → Stands image g vtoc (track_index firsts slot) (slots_in_front firsts slot) slot
unfolding firsts_of
slot_stands image g vtoc firsts slot is low = by_count (counted count 0 vtoc.len slot grows (omega (arith, before_none image g vtoc)) (omega (arith, low, ap count all)))
  where
    count : ℕ → ℕ
    count = slots_before image g vtoc

    all : 0 + vtoc.len ≡ vtoc.len
    all = omega arith

    grows : (j : ℕ) → count j ≤ count (suc j)
    grows j = omega (arith, before_more image g vtoc j)

    by_count : Counted count 0 vtoc.len slot → Stands image g vtoc (track_index firsts slot) (slots_in_front firsts slot) slot
    by_count c =
        let index : track_index firsts slot ≡ c.index = ap (λ (l : List ℕ). length (filter (passes slot) l) - 1) is ∙ ap (λ (n : ℕ). n - 1) c.passed ∙ omega arith in
        let none : 0 + c.index ≡ c.index = omega arith in
        let next : 0 + suc c.index ≡ suc c.index = omega arith in
        let first : get_or firsts (track_index firsts slot) 0 ≡ count c.index =
        ap (λ (l : List ℕ). get_or l (track_index firsts slot) 0) is ∙ ap (λ (n : ℕ). get_or (map count (range_with_len 0 vtoc.len)) n 0) index ∙ get_or-map-range_with_len count 0 vtoc.len c.index c.index 0 c.inside none in
        let low : count c.index ≤ slot = omega (arith, c.low, ap count none) in
        let high : slot < count c.index + length (slots_at image g (vtoc.start + c.index)) = omega (arith, c.high, ap count next, before_more image g vtoc c.index) in
        let front : slots_in_front firsts slot ≡ slot - count c.index = ap (λ (n : ℕ). slot - n) first in
        let stands : Stands image g vtoc c.index (slots_in_front firsts slot) slot = record {
          inside = c.inside;
          number = omega (arith, front, low);
          there = omega (arith, front, low, high);
        } in
        subst (λ (n : ℕ). Stands image g vtoc n (slots_in_front firsts slot) slot) (sym index) stands

-- a put slot is one of all
pub vtoc_put : (image put : List ℕ) (g : Geometry) (vtoc : Run) (d : Dscb) (index front slot : ℕ) → Stands image g vtoc index front slot → slots_at put g (vtoc.start + index) ≡ with_dscb front d (slots_at image g (vtoc.start + index)) → ((j : ℕ) → j ≢ vtoc.start + index → slots_at put g j ≡ slots_at image g j)
    → slots_of_vtoc put g vtoc ≡ with_dscb slot d (slots_of_vtoc image g vtoc)
unfolding slots_of_vtoc
vtoc_put image put g vtoc d index front slot stands track others =
    put_tracks (slots_at image g) (slots_at put g) d vtoc.start vtoc.len index front (vtoc.start + index) stands.inside refl stands.there track others
    ∙ ap (λ (n : ℕ). with_dscb n d (flat_map (slots_at image g) (range_with_len vtoc.start vtoc.len))) stands.number

same_map : (f h : ℕ → ℕ) (xs : List ℕ) → ((j : ℕ) → h j ≡ f j) → map h xs ≡ map f xs
same_map f h [] same = refl
same_map f h (x ∷ xs) same = ap (λ (y : ℕ). y ∷ map h xs) (same x) ∙ ap (λ (l : List ℕ). f x ∷ l) (same_map f h xs same)

-- as many slots on each track have the same numbers
pub same_firsts : (image put : List ℕ) (g : Geometry) (vtoc : Run) → ((j : ℕ) → length (slots_at put g j) ≡ length (slots_at image g j)) → firsts_of put g vtoc ≡ firsts_of image g vtoc
unfolding firsts_of slots_of_vtoc
same_firsts image put g vtoc same = same_map (slots_before image g vtoc) (slots_before put g vtoc) (range_with_len 0 vtoc.len) (λ j. same_count (slots_at image g) (slots_at put g) vtoc.start j same)

same_filtered : (f h : ℕ → Option MountErr) (xs : List ℕ) → ((j : ℕ) → h j ≡ f j) → filter_map h xs ≡ filter_map f xs
same_filtered f h [] same = refl
same_filtered f h (x ∷ xs) same = ap (λ (o : Option MountErr). cons_option o (filter_map h xs)) (same x) ∙ ap (cons_option (f x)) (same_filtered f h xs same)

pub same_faults : (image put : List ℕ) (g : Geometry) (vtoc : Run) → ((j : ℕ) → track_fault put g j ≡ track_fault image g j) → track_faults put g vtoc ≡ track_faults image g vtoc
unfolding track_faults
same_faults image put g vtoc same = same_filtered (track_fault image g) (track_fault put g) (tracks_in vtoc) same

-- a DSCB in a slot
pub dscbs_put : (slot : ℕ) (d : Dscb) (ds : List Dscb) (ss : List VtocSlot) → AreDscbs ds ss → AreDscbs (set ds slot d) (with_dscb slot d ss)
dscbs_put slot d [] [] are = refl
dscbs_put slot d [] (s ∷ ss) are = cc
dscbs_put slot d (x ∷ ds) [] are = cc
dscbs_put zero d (x ∷ ds) (s ∷ ss) are = ap (λ (l : List (Result Dscb DscbErr)). Ok d ∷ l) (others are)
  where
    others : s.content ∷ map (λ (t : VtocSlot). t.content) ss ≡ Ok x ∷ map Ok ds → map (λ (t : VtocSlot). t.content) ss ≡ map Ok ds
    others same = cc
dscbs_put (suc slot) d (x ∷ ds) (s ∷ ss) are =
    ap (λ (r : Result Dscb DscbErr). r ∷ map (λ (t : VtocSlot). t.content) (with_dscb slot d ss)) first ∙ ap (λ (l : List (Result Dscb DscbErr)). Ok x ∷ l) (dscbs_put slot d ds ss others)
  where
    first : s.content ≡ Ok x
    first = cc

    others : map (λ (t : VtocSlot). t.content) ss ≡ map Ok ds
    others = cc

-- two numbers are the same or apart
pub same_or_apart : (m n : ℕ) → (m ≡ n) ⊎ (m ≢ n)
same_or_apart m n =
    ⊎_elim (λ under. inr (λ is. omega (arith, under, is))) (λ over. ⊎_elim (λ under. inr (λ is. omega (arith, under, is))) (λ most. inl (omega (arith, over, most))) (cases_lt n m)) (cases_lt m n)
