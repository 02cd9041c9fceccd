-- Files by name, and what writes, syncs and prints of a device do to them, in this project's profile.
use Rattle.std.specs.Prelude.{◌≡◌, ◌⊎◌, ◌↔◌, ℕ, ◌+◌, ◌<◌, List, [], ◌∷◌, ◌++◌, length, take, drop, Option, Some, None, Result, OnOk, OnErr, IsErr, if◌then◌else◌}
use Rattle.std.specs.Str.{bytes_eq}
use Rattle.stop_model.specs.Moments.{Meaning, LeftNow, IsDurable, LeavesSame, ElapsesExactly}

-- a file: its name, and its bytes
pub record File : Type 0 where
  pub name : List ℕ
  pub bytes : List ℕ

-- the bytes of the first file of this name
abbrev pub file_of : List File → List ℕ → Option (List ℕ)
file_of [] name = None
file_of (f ∷ files) name = if bytes_eq f.name name then Some f.bytes else file_of files name

-- the file of this name has these bytes from the offset on
abbrev pub HasBytesAt : List File → List ℕ → ℕ → List ℕ → Type 0
HasBytesAt files name at bytes = (image : List ℕ) × (file_of files name ≡ Some image) × (bytes ≡ take (length bytes) (drop at image))

-- an image over whose bytes others were written, from an offset on
unfoldable pub patched : List ℕ → ℕ → List ℕ → List ℕ
patched image at bytes = take at image ++ bytes ++ drop (at + length bytes) image

-- the files after bytes were written over those of the first of this name, from an offset on
unfoldable pub written : List File → List ℕ → ℕ → List ℕ → List File
written [] name at bytes = []
written (f ∷ files) name at bytes = if bytes_eq f.name name then record f { bytes = patched f.bytes at bytes } ∷ files else f ∷ written files name at bytes

-- the first list begins the second
abbrev pub IsPrefixOf : List ℕ → List ℕ → Type 0
IsPrefixOf xs ys = (rest : List ℕ) × (xs ++ rest ≡ ys)

-- a stop leaves what one left before, without this write or with it
abbrev pub IsPending : List ℕ → ℕ → List ℕ → Meaning (List File) → Meaning (List File) → Type 0
IsPending name at bytes old new = (j : List File) → new.left j ↔ ((d : List File) × old.left d × ((j ≡ d) ⊎ (j ≡ written d name at bytes)))

-- A write, done or failed, is pending: a stop may leave it out or keep it, also a stop in the call. One that failed is read or isn't, and may not have begun.
pub record AfterWrite {T E : Type 0} (name : List ℕ) (at : ℕ) (bytes : List ℕ) (old new : Meaning (List File)) (result : Result T E) : Type 0 where
  pub printed : new.printed ≡ old.printed
  pub done : OnOk result (new.state ≡ written old.state name at bytes)
  pub failed : OnErr result ((new.state ≡ old.state) ⊎ (new.state ≡ written old.state name at bytes))
  pub pending : IsPending name at bytes old new ⊎ (IsErr result × LeavesSame old new)
  pub ticks : OnOk result (old.clock < new.clock)
  pub time : ElapsesExactly old new (LeftNow new)

-- A sync that is done makes what is read durable, on all units; one that failed leaves the pending writes as they were.
pub record AfterSync {T E : Type 0} (old new : Meaning (List File)) (result : Result T E) : Type 0 where
  pub state : new.state ≡ old.state
  pub printed : new.printed ≡ old.printed
  pub done : OnOk result (IsDurable new)
  pub failed : OnErr result (LeavesSame old new)
  pub ticks : OnOk result (old.clock < new.clock)
  pub time : ElapsesExactly old new (LeftNow old)

-- A print, done or failed, keeps the files and has printed a prefix of the bytes: all of them, where it is done. A stop in the call leaves a prefix of what it printed.
pub record AfterPrint {T E : Type 0} (bytes : List ℕ) (old new : Meaning (List File)) (result : Result T E) : Type 0 where
  pub state : new.state ≡ old.state
  pub left : LeavesSame old new
  pub done : OnOk result (new.printed ≡ old.printed ++ bytes)
  pub prefix : (q : List ℕ) × IsPrefixOf q bytes × (new.printed ≡ old.printed ++ q)
  pub ticks : OnOk result (old.clock < new.clock)
  pub time : ElapsesExactly old new (λ j p. old.left j × (IsPrefixOf old.printed p × IsPrefixOf p new.printed))
