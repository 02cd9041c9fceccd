-- The data sets of an index in the order of their names (System Control Blocks GC28-6628).
use Rattle.std.specs.Prelude.{◌≡◌, ◌≢◌, ◌<◌, ◌≤◌, ℕ, ◌==◌, Bool, true, false, List, length, map, replicate, is_some, Option, Some, None, Ok, option_and_then, slice_get, slice_index, unwrap_or}
use Rattle.std.specs.Cmp.Lexicographic.{slice_cmp}
use Rattle.std.specs.List.{list_any}
use Rattle.std.specs.List.Sorted.{IsStrictlySortedBy}
use Rattle.std.specs.Option.{option_map}
use Rattle.std.specs.Ordering.{is_lt, nat_cmp}
use Rattle.dscb_codec.specs.declared.Dscb.{Dscb}
use Rattle.pack_spec.specs.Rules.{set_in}
use Rattle.pack_spec.specs.declared.slot.VtocSlot.{VtocSlot}

-- the name of the data set whose format 1 a slot holds, counted from 0, if it holds one
abbrev pub name_at : List Dscb → ℕ → Option (List ℕ)
name_at dscbs slot = option_and_then (λ d. option_map (λ f. f.name) (set_in (Ok d)))
    (slice_get dscbs slot)

-- the same of slots as they are read
abbrev pub name_in : List VtocSlot → ℕ → Option (List ℕ)
name_in slots slot = option_and_then (λ s. option_map (λ f. f.name) (set_in s.content))
    (slice_get slots slot)

-- the name, or zeros where there is none
unfoldable pub or_zeros : Option (List ℕ) → List ℕ
or_zeros name = unwrap_or name (replicate 44 0)

-- the names that slots have; zeros for one that has none
abbrev pub names_of : (ℕ → Option (List ℕ)) → List ℕ → List (List ℕ)
names_of name slots = map (λ slot. or_zeros (name slot)) slots

-- These are the slots that have a name, and their names rise.
pub record AreByName (name : ℕ → Option (List ℕ)) (slots : List ℕ) : Type 0 where
  pub each : (slot : ℕ) → list_any (λ s. s == slot) slots ≡ is_some (name slot)
  pub rise : IsStrictlySortedBy (slice_cmp nat_cmp) (names_of name slots)

-- The data set in a slot has another name, which no other slot has.
pub record IsRenamed (slot : ℕ) (old new : List Dscb) : Type 0 where
  pub name : List ℕ
  pub was : is_some (name_at old slot) ≡ true
  pub is : name_at new slot ≡ Some name
  pub others : (other : ℕ) → other ≢ slot → name_at new other ≡ name_at old other
  pub apart : (other : ℕ) → other ≢ slot → name_at old other ≢ Some name

-- A slot that held no data set has one, whose name no other slot has.
pub record IsEntered (slot : ℕ) (old new : List Dscb) : Type 0 where
  pub name : List ℕ
  pub was : name_at old slot ≡ None
  pub is : name_at new slot ≡ Some name
  pub others : (other : ℕ) → other ≢ slot → name_at new other ≡ name_at old other
  pub apart : (other : ℕ) → other ≢ slot → name_at old other ≢ Some name

-- A slot that held a data set has none any more.
pub record IsForgotten (slot : ℕ) (old new : List Dscb) : Type 0 where
  pub was : is_some (name_at old slot) ≡ true
  pub is : name_at new slot ≡ None
  pub others : (other : ℕ) → other ≢ slot → name_at new other ≡ name_at old other

-- the name of a slot stands before this one
abbrev pub is_lower : (ℕ → Option (List ℕ)) → List ℕ → ℕ → Bool
is_lower name n slot = is_lt (slice_cmp nat_cmp (or_zeros (name slot)) n)

-- of these slots, this is the first whose name doesn't stand before that one; or there is none
pub record IsFrom (name : ℕ → Option (List ℕ)) (slots : List ℕ) (n : List ℕ)
    (found : Option ℕ) : Type 0 where
  pub place : ℕ
  pub slot : found ≡ slice_get slots place
  pub below : (k : ℕ) → k < place → is_lower name n (slice_index slots k) ≡ true
  pub above : (k : ℕ) → place ≤ k → k < length slots
      → is_lower name n (slice_index slots k) ≡ false
