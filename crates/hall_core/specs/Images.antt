-- The image of a unit, in this project's profile: the bytes of its file.
use Rattle.std.specs.Prelude.{◌≡◌, ◌⊎◌, ◌↔◌, ℕ, ◌<◌, ◌≤◌, List, [], ◌∷◌, ◌++◌, length, replicate, Some, None, Result, OnOk, OnErr, IsErrOf, unwrap_or}
use Rattle.hall_core.specs.declared.hall.HallErr.{HallErr}
use Rattle.hall_core.specs.declared.hall.HallErr.TheVariants.{Missing, Exists, Memory}
use Rattle.hall_core.specs.Facts.{Attached, Facts, unit_of}
use Rattle.stop_model.specs.Files.{File, file_of}
use Rattle.stop_model.specs.Moments.{Meaning, Same, Elapses}

-- the image of a unit: the bytes of its file
abbrev pub image_of : List File → Facts → ℕ → List ℕ
image_of files facts unit = unwrap_or (file_of files (unit_of facts.units unit).name) []

-- the image of a unit as a hall holds it
abbrev pub image_in : Meaning (List File) → Facts → ℕ → List ℕ
image_in meaning facts unit = image_of meaning.state facts unit

-- each unit is a file, of its size
abbrev pub AreWhole : List File → List Attached → Type 0
AreWhole files units = (k : ℕ) → k < length units → (image : List ℕ) × (file_of files (unit_of units k).name ≡ Some image) × (length image ≡ (unit_of units k).size)

-- An attachment changes nothing that is told but the time; it is done only where the file is there, and reported missing only where it isn't. Where it wants memory no time goes by either.
pub record Attaches (name : List ℕ) (old new : Meaning (List File)) (result : Result ℕ HallErr) : Type 0 where
  pub same : Same old new
  pub there : OnOk result ((image : List ℕ) × (file_of old.state name ≡ Some image))
  pub missing : IsErrOf result Missing → file_of old.state name ≡ None
  pub memory : IsErrOf result Memory → new.clock ≡ old.clock

-- a file of this name, of so many zero bytes
abbrev pub zeros_named : List ℕ → ℕ → File
zeros_named name len = record { name = name; bytes = replicate len 0 }

-- the files, and one of this name after them, of so many zero bytes
abbrev pub created : List File → List ℕ → ℕ → List File
created files name len = files ++ zeros_named name len ∷ []

-- what a creation that ended early leaves of files: them, or also a file of this name, of at most so many zero bytes
abbrev pub IsPartlyCreated : List ℕ → ℕ → List File → List File → Type 0
IsPartlyCreated name len files j = (j ≡ files) ⊎ ((n : ℕ) × (n ≤ len) × (j ≡ created files name n))

-- a stop now leaves what one left before, with a creation that ended early, and of each of those something
pub record LeavesPartlyCreated (name : List ℕ) (len : ℕ) (old new : Meaning (List File)) : Type 0 where
  pub only : (j : List File) → new.left j → (d : List File) × old.left d × IsPartlyCreated name len d j
  pub each : (d : List File) → old.left d → (j : List File) × new.left j × IsPartlyCreated name len d j

-- A creation makes the file after the others, durably, where none has its name; where one has it nothing changes but the time.
pub record Creates (name : List ℕ) (len : ℕ) (old new : Meaning (List File)) (result : Result ℕ HallErr) : Type 0 where
  pub fresh : OnOk result (file_of old.state name ≡ None)
  pub state : OnOk result (new.state ≡ created old.state name len)
  pub left : OnOk result ((j : List File) → new.left j ↔ ((d : List File) × old.left d × (j ≡ created d name len)))
  pub exists : IsErrOf result Exists → (image : List ℕ) × (file_of old.state name ≡ Some image)
  pub stays : (image : List ℕ) → file_of old.state name ≡ Some image → Same old new
  pub failed : OnErr result (IsPartlyCreated name len old.state new.state × LeavesPartlyCreated name len old new)
  pub memory : IsErrOf result Memory → Same old new × (new.clock ≡ old.clock)
  pub printed : new.printed ≡ old.printed
  pub moments : Elapses old new (λ j p. ((d : List File) × old.left d × IsPartlyCreated name len d j) × (p ≡ old.printed))

-- what a hall means that tells nothing
abbrev pub untold : Meaning (List File)
untold = record { state = []; printed = []; left = λ _. Unit {0}; clock = 0; left_since = λ _ _ p. p ≡ [] }
