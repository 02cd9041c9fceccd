-- A data set that is found by its name: its slot, and the format 1 there.
use Rattle.std.proofs.Common.{◌≡◌, ℕ, ◌<◌, true, List, [], ◌∷◌, length, get_or, Some, Result, Ok, refl, sym, ap, ◌∙◌}
use Rattle.std.specs.Prelude.{position, slice_get}
use Rattle.std.specs.List.{AllByRecursion}
use Rattle.std.proofs.lemmas.List.Quantifiers.{position-Some}
use Rattle.std.proofs.lemmas.Option.{slice_get-get_or}
use Rattle.std.proofs.lemmas.Slice.Eq.{bytes_eq-Decides}
use Rattle.dscb_codec.specs.declared.Dscb.{Dscb}
use Rattle.dscb_codec.specs.declared.Dscb.TheVariants as formats
use Rattle.dscb_codec.specs.declared.DscbErr.{DscbErr}
use Rattle.dscb_codec.specs.declared.F1.{F1}
use Rattle.pack_spec.specs.declared.slot.VtocSlot.{VtocSlot}
use Rattle.pack_spec.specs.Rules.{is_named}
use Rattle.vtoc_index.specs.Index.{AreDscbs, first_named}
use Rattle.slot_laws.proofs.ChangedLists.{position-map}

-- The slot in which a data set stands, and its format 1.
pub record FoundSet (name : List ℕ) (items : List Dscb) (slot : ℕ) : Type 0 where
  pub low : slot < length items
  pub f : F1
  pub set : slice_get items slot ≡ Some (formats.F1 f)
  pub named : f.name ≡ name

set_of : (name : List ℕ) (d : Dscb) → is_named name (Ok d) ≡ true → (f : F1) × ((d ≡ formats.F1 f) × (f.name ≡ name))
set_of name formats.F0 is = cc
set_of name (formats.F1 f) is = (f, (refl, (bytes_eq-Decides f.name name).0 is))
set_of name (formats.F3 f) is = cc
set_of name (formats.F4 f) is = cc
set_of name (formats.F5 f) is = cc

-- a data set that is found stands in its slot
pub set_found : (name : List ℕ) (items : List Dscb) (slot : ℕ) → first_named name items ≡ Some slot → FoundSet name items slot
set_found name items slot found =
    let at = position-Some (λ d. is_named name (Ok d)) items slot formats.F0 found in
    let set = set_of name (get_or items slot formats.F0) at.1 in
    record { low = at.0; f = set.0; set = slice_get-get_or items slot formats.F0 at.0 ∙ ap Some set.1.0; named = set.1.1 }

-- the content of a slot that holds a DSCB
abbrev content_of : Dscb → Result Dscb DscbErr
content_of d = Ok d

all_units : {X : Type 0} (xs : List X) → AllByRecursion (λ x. Unit {0}) xs
all_units [] = tt
all_units (x ∷ xs) = (tt, all_units xs)

-- a name stands first in the same place of the index and of the slots
pub named_alike : (name : List ℕ) (items : List Dscb) (slots : List VtocSlot) → AreDscbs items slots → position (λ s. is_named name s.content) slots ≡ first_named name items
named_alike name items slots are =
    sym (position-map (λ s. Unit {0}) (λ (s : VtocSlot). s.content) (λ s. is_named name s.content) (is_named name) (λ s any. refl) slots (all_units slots))
    ∙ ap (position (is_named name)) are
    ∙ position-map (λ d. Unit {0}) (λ (d : Dscb). content_of d) (λ d. is_named name (Ok d)) (is_named name) (λ d any. refl) items (all_units items)
