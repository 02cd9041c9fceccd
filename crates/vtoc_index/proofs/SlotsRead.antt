-- The slots of one track, a record after another.
use Rattle.dscb_codec.specs.Layout.{decoded}
use Rattle.std.proofs.Common.{◌≡◌, ℕ, zero, suc, ◌+◌, ◌<◌, ◌≤◌, Bool, true, false, cond, List, [], ◌∷◌, ◌++◌, length, take, Option, Some, None, refl, sym, ap, ◌∙◌, arith, append_assoc, length-append, add-one}
use Rattle.std.specs.Prelude.{option_and_then, slice_get, ◌&&◌}
use Rattle.std.specs.List.{list_all}
use Rattle.std.proofs.lemmas.List.{append-nil, take_all}
use Rattle.std.proofs.lemmas.List.Folds.{list_all-append}
use Rattle.ckd_image.specs.declared.header.Geometry.{Geometry}
use Rattle.ckd_image.specs.Track.{Record}
use Rattle.vtoc_index.specs.Reading.{Adds, slot_of}
use Rattle.pack_spec.specs.Vtoc.{is_slot, slot_bytes}
use Rattle.pack_spec.specs.Slots.{record_address, slot_at, slots_from, slots_in}
use Rattle.pack_spec.proofs.SlotCounts.{length-slots_from}
use Rattle.pack_spec.specs.declared.slot.VtocSlot.{VtocSlot}

-- one more slot on a track
slots_from-push : (g : Geometry) (track r n : ℕ) (xs : List Record) (x : Record) → n ≡ r + length xs → slots_from g track r (xs ++ x ∷ []) ≡ slots_from g track r xs ++ slot_at g track n x ∷ []
slots_from-push g track r n [] x is =
    let same : r ≡ n = omega arith in
    ap (λ (k : ℕ). slot_at g track k x ∷ []) same
slots_from-push g track r n (y ∷ xs) x is =
    let next : n ≡ r + 1 + length xs = omega arith in
    ap (λ (l : List VtocSlot). slot_at g track r y ∷ l) (slots_from-push g track (r + 1) n xs x next)

-- so many records are slots, and these were added
pub record AddsSoFar (g : Geometry) (track : ℕ) (records : List Record) (passed : ℕ) (old new : List VtocSlot) : Type 0 where
  pub slots : List VtocSlot
  pub are_slots : slots_in g track (take passed records) ≡ Some slots
  pub many : length (take passed records) ≡ passed
  pub added : new ≡ old ++ slots

pub so_far_none : (g : Geometry) (track : ℕ) (records : List Record) (old : List VtocSlot) → AddsSoFar g track records 0 old old
so_far_none g track records old = record { slots = []; are_slots = refl; many = refl; added = sym (append-nil old) }

-- records that are slots
record AreSlots (g : Geometry) (track : ℕ) (xs : List Record) (slots : List VtocSlot) : Type 0 where
  all : list_all is_slot xs ≡ true
  parts : slots_from g track 1 xs ≡ slots

are_slots_by : (g : Geometry) (track : ℕ) (b : Bool) (xs : List Record) (slots : List VtocSlot) → b ≡ list_all is_slot xs → cond b (Some (slots_from g track 1 xs)) None ≡ Some slots → AreSlots g track xs slots
are_slots_by g track true xs slots same is = record { all = sym same; parts = cc }
are_slots_by g track false xs slots same is = cc

slots_are : (g : Geometry) (track : ℕ) (xs : List Record) (slots : List VtocSlot) → slots_in g track xs ≡ Some slots → AreSlots g track xs slots
slots_are g track xs slots is = are_slots_by g track (list_all is_slot xs) xs slots refl is

are_slots_in : (g : Geometry) (track : ℕ) (xs : List Record) (slots : List VtocSlot) → AreSlots g track xs slots → slots_in g track xs ≡ Some slots
are_slots_in g track xs slots are = ap (λ (b : Bool). cond b (Some (slots_from g track 1 xs)) None) are.all ∙ ap (λ (l : List VtocSlot). Some l) are.parts

-- the record that is a slot with these bytes
record IsSlot (o : Option Record) (s : List ℕ) : Type 0 where
  x : Record
  there : o ≡ Some x
  is : is_slot x ≡ true
  bytes : slot_bytes x ≡ s

slot_by : (b : Bool) (x : Record) (s : List ℕ) → b ≡ is_slot x → cond b (Some (slot_bytes x)) None ≡ Some s → IsSlot (Some x) s
slot_by true x s same is = record { x = x; there = refl; is = sym same; bytes = cc }
slot_by false x s same is = cc

slot_there : (o : Option Record) (s : List ℕ) → option_and_then slot_of o ≡ Some s → IsSlot o s
slot_there None s is = cc
slot_there (Some x) s is = slot_by (is_slot x) x s refl is

take_slot : (xs : List Record) (p : ℕ) (x : Record) → slice_get xs p ≡ Some x → take (suc p) xs ≡ take p xs ++ x ∷ []
take_slot [] p x is = cc
take_slot (y ∷ xs) zero x is = let same : y ≡ x = cc in ap (λ (z : Record). z ∷ []) same
take_slot (y ∷ xs) (suc p) x is = ap (λ (l : List Record). y ∷ l) (take_slot xs p x is)

slots_push : (g : Geometry) (track n : ℕ) (xs : List Record) (slots : List VtocSlot) (x : Record) → slots_in g track xs ≡ Some slots → is_slot x ≡ true → n ≡ 1 + length xs → slots_in g track (xs ++ x ∷ []) ≡ Some (slots ++ slot_at g track n x ∷ [])
slots_push g track n xs slots x is slot number =
    let are = slots_are g track xs slots is in
    are_slots_in g track (xs ++ x ∷ []) (slots ++ slot_at g track n x ∷ []) (record {
      all = list_all-append is_slot xs (x ∷ []) ∙ ap (λ (b : Bool). b && (is_slot x && true)) are.all ∙ ap (λ (b : Bool). b && true) slot;
      parts = slots_from-push g track 1 n xs x number ∙ ap (λ (l : List VtocSlot). l ++ slot_at g track n x ∷ []) are.parts;
    })

pub so_far_more : (g : Geometry) (track passed at r : ℕ) (records : List Record) (old new after : List VtocSlot) (y : VtocSlot) (s : List ℕ) → option_and_then slot_of (slice_get records at) ≡ Some s → at ≡ passed → r ≡ passed + 1 → y ≡ record { address = record_address g track r; content = decoded s } → after ≡ new ++ y ∷ [] → AddsSoFar g track records passed old new → AddsSoFar g track records (passed + 1) old after
so_far_more g track passed at r records old new after y s found same number read pushed before =
    let slot = slot_there (slice_get records passed) s (ap (λ (n : ℕ). option_and_then slot_of (slice_get records n)) (sym same) ∙ found) in
    let next : r ≡ 1 + length (take passed records) = omega (arith, before.many, number) in
    let front : take (passed + 1) records ≡ take passed records ++ slot.x ∷ [] = ap (λ (n : ℕ). take n records) (add-one passed) ∙ take_slot records passed slot.x slot.there in
    let this : slot_at g track r slot.x ≡ y = ap (λ (b : List ℕ). record { address = record_address g track r; content = decoded b }) slot.bytes ∙ sym read in
    record {
      slots = before.slots ++ y ∷ [];
      are_slots =
          ap (λ (l : List Record). slots_in g track l) front
          ∙ slots_push g track r (take passed records) before.slots slot.x before.are_slots slot.is next
          ∙ ap (λ (z : VtocSlot). Some (before.slots ++ z ∷ [])) this;
      many = ap length front ∙ length-append (take passed records) (slot.x ∷ []) ∙ ap (λ (n : ℕ). n + 1) before.many;
      added = pushed ∙ ap (λ (l : List VtocSlot). l ++ y ∷ []) before.added ∙ append_assoc old before.slots (y ∷ []);
    }

not_by : (b c : Bool) (s : List ℕ) → cond b (Some s) None ≡ None → (b && c) ≡ false
not_by true c s is = cc
not_by false c s is = refl

and_false : (b c : Bool) → c ≡ false → (b && c) ≡ false
and_false true c is = is
and_false false c is = refl

not_all : (xs : List Record) (p : ℕ) → p < length xs → option_and_then slot_of (slice_get xs p) ≡ None → list_all is_slot xs ≡ false
not_all [] p low none = absurd (omega arith)
not_all (x ∷ xs) zero low none = not_by (is_slot x) (list_all is_slot xs) (slot_bytes x) none
not_all (x ∷ xs) (suc p) low none = and_false (is_slot x) (list_all is_slot xs) (not_all xs p (omega arith) none)

pub so_far_not : (g : Geometry) (track : ℕ) (records : List Record) (at : ℕ) → at < length records → option_and_then slot_of (slice_get records at) ≡ None → slots_in g track records ≡ None
so_far_not g track records at low none = ap (λ (b : Bool). cond b (Some (slots_from g track 1 records)) None) (not_all records at low none)

pub so_far_all : (g : Geometry) (track passed : ℕ) (records : List Record) (old new : List VtocSlot) → length records ≤ passed → AddsSoFar g track records passed old new → Adds g track records old new
so_far_all g track passed records old new high done = record {
  slots = done.slots;
  are_slots = ap (λ (l : List Record). slots_in g track l) (sym (take_all passed records high)) ∙ done.are_slots;
  added = done.added;
}

-- as many slots are added as there are records
pub adds_few : (g : Geometry) (track count : ℕ) (records : List Record) (old new : List VtocSlot) → length records ≡ count → Adds g track records old new → length new ≡ length old + count
adds_few g track count records old new many adds =
    let are = slots_are g track records adds.slots adds.are_slots in
    let slots : length adds.slots ≡ count = sym (ap length are.parts) ∙ length-slots_from g track 1 records ∙ many in
    ap length adds.added ∙ length-append old adds.slots ∙ ap (λ (n : ℕ). length old + n) slots
