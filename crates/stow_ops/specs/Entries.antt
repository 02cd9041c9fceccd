-- Entries of a directory with one more, or with one less (STOW of System Control Blocks GC28-6628).
use Rattle.std.specs.Prelude.{◌≡◌, ℕ, ◌≤◌, ◌<◌, true, List, ◌∷◌, ◌++◌, length, slice_get, Some}
use Rattle.std.specs.Str.{bytes_eq}
use Rattle.vol_model.specs.declared.contents.Entry.{Entry}
use Rattle.pack_spec.specs.Directories.{name_number}

-- Where an entry stands among others, or would: after those whose names stand before its own, and not after one whose name doesn't.
pub record IsPlaceOf (entries : List Entry) (e : Entry) (at : ℕ) : Type 0 where
  pub before : (k : ℕ) (x : Entry) → k < at → slice_get entries k ≡ Some x → name_number x < name_number e
  pub here : (x : Entry) → slice_get entries at ≡ Some x → name_number e ≤ name_number x

-- an entry of the same name stands at this place
abbrev pub StandsAt : List Entry → Entry → ℕ → Type 0
StandsAt entries e at = (x : Entry) × (slice_get entries at ≡ Some x) × (name_number x ≡ name_number e)

-- entries have one more, or in the place of another of its name
pub data HasEntered (e : Entry) (old new : List Entry) : Type 0 where
  added : (a z : List Entry) → IsPlaceOf old e (length a) → (StandsAt old e (length a) → ⊥) → old ≡ a ++ z → new ≡ a ++ e ∷ z → HasEntered e old new
  replaced : (a : List Entry) (x : Entry) (z : List Entry) → IsPlaceOf old e (length a) → name_number x ≡ name_number e → old ≡ a ++ x ∷ z → new ≡ a ++ e ∷ z → HasEntered e old new

-- entries have one of this name less
pub record HasDropped (name : List ℕ) (old new : List Entry) : Type 0 where
  pub front : List Entry
  pub dropped : Entry
  pub rest : List Entry
  pub was : old ≡ front ++ dropped ∷ rest
  pub is : new ≡ front ++ rest
  pub named : bytes_eq dropped.name.bytes name ≡ true
