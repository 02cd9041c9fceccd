-- The index of a volume one of whose data sets gets extents: its names stay, and the format 3 of the set is found.
use Rattle.std.proofs.Common.{◌≡◌, ⊎_elim, ◌≤◌, ℕ, zero, suc, Bool, true, false, cond, ◌&&◌, List, [], ◌∷◌, length, get_or, Option, Some, None, Ok, refl, sym, ap, ◌∙◌, arith}
use Rattle.std.specs.Prelude.{find, is_some, option_and_then, slice_get, slice_index_or, slice_set}
use Rattle.std.specs.Option.{option_map}
use Rattle.std.specs.Str.{bytes_eq}
use Rattle.std.proofs.lemmas.Bool.{and_parts}
use Rattle.dscb_codec.specs.declared.Dscb.{Dscb}
use Rattle.dscb_codec.specs.declared.Dscb.TheVariants as formats
use Rattle.dscb_codec.specs.declared.F1.{F1}
use Rattle.dscb_codec.specs.declared.F3.{F3}
use Rattle.ebcdic_names.specs.declared.names.Dsn.{Dsn}
use Rattle.pack_spec.specs.declared.slot.VtocSlot.{VtocSlot}
use Rattle.pack_spec.specs.Rules.{is_chained, is_f3, is_led_to, set_in}
use Rattle.pack_spec.proofs.AlikeVolumes.{chain_found}
use Rattle.vol_model.specs.Shelf.{is_catalog}
use Rattle.vtoc_index.specs.Bits.{with_bit}
use Rattle.vtoc_index.specs.declared.vol.Vol.{Vol}
use Rattle.vtoc_index.specs.Index.{IsMounted, address_in}
use Rattle.vtoc_index.specs.Names.{name_at}
use Rattle.vtoc_index.proofs.VtocPut.{same_or_apart}
use Rattle.vtoc_sets.specs.Sets.{leads_to}
use Rattle.vtoc_sets.proofs.SlotAddresses.{NoneLeads}
use Rattle.free_rebuild.specs.Chain.{is_open}
use Rattle.free_rebuild.proofs.AddressLemmas.{content_of}
use Rattle.free_rebuild.proofs.ChainLemmas.{get_low, get_set, get_set_other}
use Rattle.dadsm_ops.specs.Allocating.{HaveSameNames}
use Rattle.dadsm_ops.specs.Extending.{HoldsSet, IsLedTo}
use Rattle.dadsm_ops.proofs.ExtendedSteps.{stands_there}
use Rattle.slot_laws.proofs.StandingPuts.{slots_by}

-- the name of a data set, if a DSCB is a format 1
abbrev name_of : Dscb → Option (List ℕ)
name_of d = option_map (λ (f : F1). f.name) (set_in (Ok d))

-- a DSCB of the same name in a slot leaves the names
pub names_put : (items : List Dscb) (slot : ℕ) (d e : Dscb) → slice_get items slot ≡ Some d → name_of e ≡ name_of d → HaveSameNames items (slice_set items slot e)
names_put items slot d e there same k = ⊎_elim
    (λ here. ap (name_at (slice_set items slot e)) here ∙ ap (option_and_then name_of) (get_set items slot e (get_low items slot d there)) ∙ same ∙ sym (ap (name_at items) here ∙ ap (option_and_then name_of) there))
    (λ other. ap (option_and_then name_of) (get_set_other items slot k e other))
    (same_or_apart k slot)

-- so do a format 3 in the place of another, and the format 1 with added extents
pub names_third : (items : List Dscb) (slot : ℕ) (h d : F3) → slice_get items slot ≡ Some (formats.F3 h) → HaveSameNames items (slice_set items slot (formats.F3 d))
names_third items slot h d there = names_put items slot (formats.F3 h) (formats.F3 d) there refl

pub names_set : (items : List Dscb) (slot : ℕ) (f e : F1) → slice_get items slot ≡ Some (formats.F1 f) → e.name ≡ f.name → HaveSameNames items (slice_set items slot (formats.F1 e))
names_set items slot f e there same = names_put items slot (formats.F1 f) (formats.F1 e) there (ap Some same)

-- the set stays in its slot where another is put
pub set_stays : (items : List Dscb) (number slot : ℕ) (f : F1) (d e : Dscb) → slice_get items slot ≡ Some (formats.F1 f) → slice_get items number ≡ Some d → set_in (Ok d) ≡ None → slice_get (slice_set items number e) slot ≡ Some (formats.F1 f)
set_stays items number slot f d e set there none =
    get_set_other items number slot e (λ same.
    let both : Some (formats.F1 f) ≡ Some d = sym set ∙ ap (slice_get items) same ∙ there in
    let one : formats.F1 f ≡ d = cc in
    let wrong : Some f ≡ None = ap (λ (x : Dscb). set_in (Ok x)) one ∙ none in
    absurd (cc wrong))
    ∙ set

-- and where the mark of an update is put
pub set_marked : (items new : List Dscb) (slot : ℕ) (f : F1) → slice_get items slot ≡ Some (formats.F1 f) → new ≡ slice_set items 0 (with_bit true (slice_index_or items 0 formats.F0)) → slice_get new slot ≡ Some (formats.F1 f)
set_marked [] new slot f at is = cc
set_marked (d ∷ ds) new zero f at is =
    let same : d ≡ formats.F1 f = cc in
    ap (λ (l : List Dscb). slice_get l 0) is ∙ ap (λ (x : Dscb). Some (with_bit true x)) same
set_marked (d ∷ ds) new (suc k) f at is = ap (λ (l : List Dscb). slice_get l (suc k)) is ∙ at

-- an open slot holds no set
pub open_no_set : (d : Dscb) → is_open d ≡ true → set_in (Ok d) ≡ None
open_no_set formats.F0 opened = refl
open_no_set (formats.F1 f) opened = cc
open_no_set (formats.F3 f) opened = cc
open_no_set (formats.F4 f) opened = cc
open_no_set (formats.F5 f) opened = refl

-- what none leads to up to the end
get_or_there : {X : Type 0} (xs : List X) (k : ℕ) (x : X) → slice_get xs k ≡ Some x → get_or xs k x ≡ x
get_or_there [] k x is = cc
get_or_there (y ∷ xs) zero x is = cc
get_or_there (y ∷ xs) (suc k) x is = get_or_there xs k x is

pub none_leads : (v : Vol) (f : F1) (n : ℕ) → length v.slots.items ≤ n → NoneLeads v f n → (slot : ℕ) (d : Dscb) → slice_get v.slots.items slot ≡ Some d → leads_to v f slot d ≡ false
none_leads v f n all none slot d there =
    ap (leads_to v f slot) (sym (get_or_there v.slots.items slot d there)) ∙ none slot d (omega (arith, all, get_low v.slots.items slot d there))

-- a slot to which the pointer leads is told by that
pub led_told : (v : Vol) (f : F1) (slot : ℕ) (h : F3) → IsLedTo v f slot h → ((k : ℕ) (d : Dscb) → slice_get v.slots.items k ≡ Some d → leads_to v f k d ≡ false) → ⊥
led_told v f slot h led none =
    let here : (bytes_eq (address_in v slot) f.pointer && is_f3 (Ok (formats.F3 h))) ≡ false = none slot (formats.F3 h) led.there in
    by (bytes_eq (address_in v slot) f.pointer) led.address here
  where
    by : (b : Bool) → b ≡ true → (b && true) ≡ false → ⊥
    by true is wrong = cc wrong
    by false is wrong = cc is

-- ---- the set's own format 3

found_there : (p : VtocSlot → Bool) (xs : List VtocSlot) → is_some (find p xs) ≡ true → (j : ℕ) × (x : VtocSlot) × (slice_get xs j ≡ Some x) × (p x ≡ true)
found_there p [] is = cc
found_there p (y ∷ xs) is = by_test (p y) refl (λ found. found_there p xs found) is
  where
    by_test : (t : Bool) → p y ≡ t → (is_some (find p xs) ≡ true → (j : ℕ) × (x : VtocSlot) × (slice_get xs j ≡ Some x) × (p x ≡ true)) → is_some (cond t (Some y) (find p xs)) ≡ true → (j : ℕ) × (x : VtocSlot) × (slice_get (y ∷ xs) j ≡ Some x) × (p x ≡ true)
    by_test true test more found = (zero, y, refl, test)
    by_test false test more found = let rest = more found in (suc rest.0, rest.1, rest.2, rest.3)

third_of : (d : Dscb) → is_f3 (Ok d) ≡ true → (h : F3) × (d ≡ formats.F3 h)
third_of formats.F0 is = cc
third_of (formats.F1 f) is = cc
third_of (formats.F3 h) is = (h, refl)
third_of (formats.F4 f) is = cc
third_of (formats.F5 f) is = cc

-- A set of a mounted image that counts its pointer has one in the index.
pub own_third : (image : List ℕ) (v : Vol) → IsMounted image v → (slot : ℕ) (f : F1) → slice_get v.slots.items slot ≡ Some (formats.F1 f) → is_chained f ≡ true → (number : ℕ) × (h : F3) × IsLedTo v f number h
own_third image v mounted slot f set chained =
    let slots : List VtocSlot = slots_by image v in
    let here : VtocSlot = record { address = address_in v slot; content = Ok (formats.F1 f) } in
    let some = chain_found v.geometry slots mounted.lawful f (slot, here, stands_there image v mounted slot (formats.F1 f) set, refl) chained in
    let found = found_there (is_led_to f) slots (sym (ap (λ (b : Bool). is_some (cond b (find (is_led_to f) slots) None)) chained) ∙ some) in
    let parts = and_parts (bytes_eq found.1.address f.pointer) (is_f3 found.1.content) found.3 in
    let held = content_of v.slots.items slots found.0 found.1 mounted.index.slots found.2 in
    let third = third_of held.0 (ap is_f3 (sym held.2) ∙ parts.1) in
    let both : Some found.1 ≡ Some (record { address = address_in v found.0; content = Ok held.0 }) = sym found.2 ∙ stands_there image v mounted found.0 held.0 held.1 in
    let same : found.1 ≡ record { address = address_in v found.0; content = Ok held.0 } = cc in (
      found.0,
      third.0,
      record {
        there = held.1 ∙ ap Some third.1;
        address = ap (λ (x : VtocSlot). bytes_eq x.address f.pointer) (sym same) ∙ parts.0;
      },
    )

-- ---- the set in a slot

-- its name
pub named_at : (items : List Dscb) (slot : ℕ) (f : F1) → slice_get items slot ≡ Some (formats.F1 f) → name_at items slot ≡ Some f.name
named_at items slot f there = ap (option_and_then name_of) there

pub dsn_at : (items : List Dscb) (slot : ℕ) (f : F1) → slice_get items slot ≡ Some (formats.F1 f) → (dsn : Dsn) → name_at items slot ≡ Some dsn.bytes → f.name ≡ dsn.bytes
dsn_at items slot f there dsn is = let both : Some f.name ≡ Some dsn.bytes = sym (named_at items slot f there) ∙ is in cc

-- it isn't the catalog, where the slot holds another
pub plain_at : (items : List Dscb) (slot : ℕ) → HoldsSet items slot → (f : F1) → slice_get items slot ≡ Some (formats.F1 f) → is_catalog f.name ≡ false
plain_at items slot holds f there =
    let both : Some (formats.F1 holds.set) ≡ Some (formats.F1 f) = sym holds.there ∙ there in
    let same : holds.set ≡ f = cc in
    ap (λ (x : F1). is_catalog x.name) (sym same) ∙ holds.other
