-- The address of a slot, by the index; and the slot to which a pointer leads.
use Rattle.std.proofs.Common.{◌≡◌, ◌<◌, ◌≤◌, ◌+◌, ℕ, zero, suc, Bool, true, false, cond, List, [], ◌∷◌, ◌++◌, length, get_or, Option, Some, None, refl, sym, ap, subst, ⊎_elim, ◌∙◌, arith, length-append}
use Rattle.std.specs.Prelude.{◌&&◌, Result, Ok, slice_get}
use Rattle.std.specs.List.{find, flat_map, range_with_len}
use Rattle.std.specs.Option.{option_map_or}
use Rattle.std.specs.Str.{bytes_eq}
use Rattle.std.proofs.lemmas.Bool.{cases_lt}
use Rattle.std.proofs.lemmas.List.{get_or_default}
use Rattle.std.proofs.lemmas.Option.{slice_get-get_or}
use Rattle.ckd_image.specs.declared.header.Geometry.{Geometry}
use Rattle.ckd_image.specs.Track.{Record}
use Rattle.dscb_codec.specs.declared.Dscb.{Dscb}
use Rattle.dscb_codec.specs.declared.Dscb.TheVariants as formats
use Rattle.dscb_codec.specs.declared.DscbErr.{DscbErr}
use Rattle.dscb_codec.specs.declared.F1.{F1}
use Rattle.dscb_codec.specs.declared.F3.{F3}
use Rattle.pack_spec.specs.declared.slot.VtocSlot.{VtocSlot}
use Rattle.pack_spec.specs.Rules.{further_extents, is_f3, is_led_to}
use Rattle.pack_spec.specs.Slots.{record_address, slots_from, slots_of_vtoc}
use Rattle.vtoc_index.specs.Index.{AreDscbs, IsIndexOf, address_in, slots_in_front, track_index}
use Rattle.vtoc_index.specs.declared.vol.Vol.{Vol}
use Rattle.vtoc_index.proofs.HeldDscbs.{dscbs_many}
use Rattle.vtoc_index.proofs.TrackPut.{slot_records, slots_at, slots_at-some, slots_found}
use Rattle.vtoc_index.proofs.VtocPut.{slot_stands}
use Rattle.vtoc_sets.specs.Sets.{leads_to, rows_of}

module _ {X : Type 0} where
  -- an item of the first of two lists, and one of the second
  get_first : (xs ys : List X) (k : ℕ) → k < length xs → slice_get (xs ++ ys) k ≡ slice_get xs k
  get_first [] ys k low = absurd (omega (arith, low))
  get_first (x ∷ xs) ys zero low = refl
  get_first (x ∷ xs) ys (suc k) low = get_first xs ys k (omega (arith, low))

  get_second : (xs ys : List X) (k : ℕ) → slice_get (xs ++ ys) (length xs + k) ≡ slice_get ys k
  get_second [] ys k = let none : 0 + k ≡ k = omega arith in ap (slice_get ys) none
  get_second (x ∷ xs) ys k =
      let next : suc (length xs) + k ≡ suc (length xs + k) = omega arith in
      ap (slice_get (x ∷ (xs ++ ys))) next ∙ get_second xs ys k

  -- an item of one list among several
  get_among : (f : ℕ → List X) (a n i k : ℕ) → i < n → k < length (f (a + i)) → slice_get (flat_map f (range_with_len a n)) (length (flat_map f (range_with_len a i)) + k) ≡ slice_get (f (a + i)) k
  get_among f a zero i k inside low = absurd (omega (arith, inside))
  get_among f a (suc n) zero k inside low =
      let here : a + 0 ≡ a = omega arith in
      let none : 0 + k ≡ k = omega arith in
      ap (slice_get (f a ++ flat_map f (range_with_len (a + 1) n))) none
      ∙ get_first (f a) (flat_map f (range_with_len (a + 1) n)) k (subst (λ (j : ℕ). k < length (f j)) here low)
      ∙ sym (ap (λ (j : ℕ). slice_get (f j) k) here)
  get_among f a (suc n) (suc i) k inside low =
      let before : List X = flat_map f (range_with_len (a + 1) i) in
      let place : length (f a ++ before) + k ≡ length (f a) + (length before + k) = omega (arith, length-append (f a) before) in
      let next : a + suc i ≡ a + 1 + i = omega arith in
      ap (slice_get (f a ++ flat_map f (range_with_len (a + 1) n))) place
      ∙ get_second (f a) (flat_map f (range_with_len (a + 1) n)) (length before + k)
      ∙ get_among f (a + 1) n i k (omega (arith, inside)) (subst (λ (j : ℕ). k < length (f j)) next low)
      ∙ sym (ap (λ (j : ℕ). slice_get (f j) k) next)

-- the address of a record that is a slot
from_address : (g : Geometry) (track r k : ℕ) (xs : List Record) (s : VtocSlot) → slice_get (slots_from g track r xs) k ≡ Some s → s.address ≡ record_address g track (r + k)
from_address g track r k [] s is = cc
from_address g track r zero (x ∷ xs) s is =
    let this : s.address ≡ record_address g track r = cc in
    let none : r ≡ r + 0 = omega arith in
    this ∙ ap (record_address g track) none
from_address g track r (suc k) (x ∷ xs) s is =
    let next : r + 1 + k ≡ r + suc k = omega arith in
    from_address g track (r + 1) k xs s is ∙ ap (record_address g track) next

-- The address of a slot is that which the index gives it.
slot_address : (image : List ℕ) (v : Vol) (slot : ℕ) (s : VtocSlot) → IsIndexOf image v → slot < length v.slots.items → slice_get (slots_of_vtoc image v.geometry v.vtoc) slot ≡ Some s → s.address ≡ address_in v slot
unfolding slots_of_vtoc
slot_address image v slot s index low is =
    let g : Geometry = v.geometry in
    let i : ℕ = track_index v.firsts.items slot in
    let k : ℕ = slots_in_front v.firsts.items slot in
    let many = dscbs_many v.slots.items (slots_of_vtoc image g v.vtoc) index.slots in
    let stands = slot_stands image g v.vtoc v.firsts.items slot index.firsts (omega (arith, low, many)) in
    let found = slots_found image g (v.vtoc.start + i) k stands.there in
    let records = slot_records image g (v.vtoc.start + i) found.0 found.1.0 in
    let there : slice_get (slots_at image g (v.vtoc.start + i)) k ≡ Some s =
    sym (ap (slice_get (flat_map (slots_at image g) (range_with_len v.vtoc.start v.vtoc.len))) (sym stands.number) ∙ get_among (slots_at image g) v.vtoc.start v.vtoc.len i k stands.inside stands.there) ∙ is in
    let one : 1 + k ≡ k + 1 = omega arith in
    from_address g (v.vtoc.start + i) 1 k records.records s (sym (ap (λ (l : List VtocSlot). slice_get l k) (slots_at-some image g (v.vtoc.start + i) found.0 found.1.0 ∙ records.is)) ∙ there)
    ∙ ap (record_address g (v.vtoc.start + i)) one

-- what is in a slot is what the index holds
pub slot_content : (items : List Dscb) (slots : List VtocSlot) (k : ℕ) (d : Dscb) (s : VtocSlot) → AreDscbs items slots → k < length items → slice_get slots k ≡ Some s → s.content ≡ Ok (get_or items k d)
slot_content [] slots k d s are low is = absurd (omega (arith, low))
slot_content (x ∷ items) [] k d s are low is = cc
slot_content (x ∷ items) (t ∷ slots) zero d s are low is =
    let here : t.content ≡ Ok x = cc in
    let same : t ≡ s = cc in
    sym (ap (λ (y : VtocSlot). y.content) same) ∙ here
slot_content (x ∷ items) (t ∷ slots) (suc k) d s are low is = let rest : AreDscbs items slots = cc in slot_content items slots k d s rest (omega (arith, low)) is

module _ {X : Type 0} (p : X → Bool) where
  -- the first that passes, and none
  find_at : (xs : List X) (k : ℕ) (x : X) → slice_get xs k ≡ Some x → p x ≡ true → ((j : ℕ) (y : X) → j < k → slice_get xs j ≡ Some y → p y ≡ false) → find p xs ≡ Some x
  find_at [] k x is passes earlier = cc
  find_at (y ∷ xs) zero x is passes earlier =
      let this : y ≡ x = cc in
      ap (λ (b : Bool). cond b (Some y) (find p xs)) (ap p this ∙ passes) ∙ ap Some this
  find_at (y ∷ xs) (suc k) x is passes earlier =
      ap (λ (b : Bool). cond b (Some y) (find p xs)) (earlier 0 y (omega arith) refl) ∙ find_at xs k x is passes (λ j z low at. earlier (suc j) z (omega (arith, low)) at)

  find_nowhere : (xs : List X) → ((j : ℕ) (y : X) → slice_get xs j ≡ Some y → p y ≡ false) → find p xs ≡ None
  find_nowhere [] none = refl
  find_nowhere (y ∷ xs) none = ap (λ (b : Bool). cond b (Some y) (find p xs)) (none 0 y refl) ∙ find_nowhere xs (λ j z at. none (suc j) z at)

  -- what is there has a number below the length
  there : (xs : List X) (j : ℕ) (y : X) → slice_get xs j ≡ Some y → j < length xs
  there [] j y is = cc
  there (x ∷ xs) zero y is = omega arith
  there (x ∷ xs) (suc j) y is = omega (arith, there xs j y is)

-- up to this slot none is the format 3 to which the pointer of a format 1 leads
abbrev pub NoneLeads : Vol → F1 → ℕ → Type 0
NoneLeads v f n = (j : ℕ) (d : Dscb) → j < n → leads_to v f j (get_or v.slots.items j d) ≡ false

-- so up to the next
pub none_more : (v : Vol) (f : F1) (k : ℕ) (xs : List Dscb) (e : Dscb) → xs ≡ v.slots.items → NoneLeads v f k → k < length xs → leads_to v f k (get_or xs k e) ≡ false → NoneLeads v f (k + 1)
none_more v f k xs e same none low fails j d below =
    ⊎_elim (λ before. none j d before)
    (λ past.
    let at : k ≡ j = omega (arith, below, past) in
    let here : get_or xs k e ≡ get_or v.slots.items k d = get_or_default xs k e d low ∙ ap (λ (l : List Dscb). get_or l k d) same in
    subst (λ (n : ℕ). leads_to v f n (get_or v.slots.items n d) ≡ false) at (ap (leads_to v f k) (sym here) ∙ fails))
    (cases_lt j k)

module _ (image : List ℕ) (v : Vol) (f : F1) (index : IsIndexOf image v) where
  abbrev slots : List VtocSlot
  slots = slots_of_vtoc image v.geometry v.vtoc

  many : length v.slots.items ≡ length slots
  many = dscbs_many v.slots.items slots index.slots

  -- a slot passes by the index where it passes on the image
  alike : (j : ℕ) (d : Dscb) (s : VtocSlot) → slice_get slots j ≡ Some s → is_led_to f s ≡ leads_to v f j (get_or v.slots.items j d)
  alike j d s is =
      let low : j < length v.slots.items = omega (arith, many, there (is_led_to f) slots j s is) in
      ap (λ (a : List ℕ). bytes_eq a f.pointer && is_f3 s.content) (slot_address image v j s index low is)
      ∙ ap (λ (c : Result Dscb DscbErr). bytes_eq (address_in v j) f.pointer && is_f3 c) (slot_content v.slots.items slots j d s index.slots low is)

  -- The further extents of a set, where a slot is found, and where none is.
  pub led : (k : ℕ) (xs : List Dscb) (e : Dscb) (o : Option F3) → xs ≡ v.slots.items → k < length xs → leads_to v f k (get_or xs k e) ≡ true → NoneLeads v f k → rows_of o ≡ further_extents (Ok (get_or xs k e))
      → rows_of o ≡ option_map_or (λ (s : VtocSlot). further_extents s.content) (find (is_led_to f) slots) []
  led k xs e o same low passes earlier rows =
      let items : List Dscb = v.slots.items in
      let below : k < length items = omega (arith, low, ap length same) in
      let here : get_or xs k e ≡ get_or items k e = ap (λ (l : List Dscb). get_or l k e) same in
      let s : VtocSlot = get_or slots k (record { address = []; content = Ok e }) in
      let at : slice_get slots k ≡ Some s = slice_get-get_or slots k (record { address = []; content = Ok e }) (omega (arith, many, below)) in
      let content : s.content ≡ Ok (get_or xs k e) = slot_content items slots k e s index.slots below at ∙ ap (λ (x : Dscb). Ok x) (sym here) in
      let found : find (is_led_to f) slots ≡ Some s = find_at (is_led_to f) slots k s at (alike k e s at ∙ ap (leads_to v f k) (sym here) ∙ passes) (λ j y before is. alike j e y is ∙ earlier j e before) in
      rows ∙ sym (ap (λ (o : Option VtocSlot). option_map_or (λ (s : VtocSlot). further_extents s.content) o []) found ∙ ap further_extents content)

  pub led_not : (n : ℕ) → length v.slots.items ≤ n → NoneLeads v f n → [] ≡ option_map_or (λ (s : VtocSlot). further_extents s.content) (find (is_led_to f) slots) []
  led_not n past none =
      sym (ap (λ (o : Option VtocSlot). option_map_or (λ (s : VtocSlot). further_extents s.content) o []) (find_nowhere (is_led_to f) slots (λ j y is. alike j formats.F0 y is ∙ none j formats.F0 (omega (arith, many, past, there (is_led_to f) slots j y is)))))
