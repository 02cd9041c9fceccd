-- What a hall always tells, in this project's profile: its units, the references that lead to it, and how many faults it had.
use Rattle.std.specs.Prelude.{◌≡◌, ◌⊎◌, ℕ, ◌≤◌, List, [], ◌∷◌, ◌++◌, length, map, Contains, Result, OnOk, OnErr, IfOk, IsErrOf, slice_index_or}
use Rattle.stop_model.specs.Counts.{Rose}
use Rattle.hall_core.specs.declared.hall.HallErr.{HallErr}
use Rattle.hall_core.specs.declared.hall.HallErr.TheVariants.{Missing, Exists, Failed, Memory}

-- an attached file: its name, and its size in bytes
pub record Attached : Type 0 where
  pub name : List ℕ
  pub size : ℕ

-- the units in the order of their numbers; the references that lead to the hall, so that a hall which was lent is known again; and the counts of device and print faults
pub record Facts : Type 0 where
  pub units : List Attached
  pub references : List ℕ
  pub dev_faults : ℕ
  pub print_faults : ℕ

-- the attached file of a unit
abbrev pub unit_of : List Attached → ℕ → Attached
unit_of units unit = slice_index_or units unit (record { name = []; size = 0 })

-- the name of the file of a unit
abbrev pub name_in : Facts → ℕ → List ℕ
name_in facts unit = (unit_of facts.units unit).name

-- the size of a unit, in bytes
abbrev pub size_in : Facts → ℕ → ℕ
size_in facts unit = (unit_of facts.units unit).size

-- a file is attached under this name
abbrev pub IsAttached : List Attached → List ℕ → Type 0
IsAttached units name = Contains (map (λ (u : Attached). u.name) units) name

-- A device call: its count stands still where it is done and rose where it failed, and the rest stays.
pub record DeviceCall {T E : Type 0} (old new : Facts) (result : Result T E) : Type 0 where
  pub units : new.units ≡ old.units
  pub references : new.references ≡ old.references
  pub prints : new.print_faults ≡ old.print_faults
  pub later : old.dev_faults ≤ new.dev_faults
  pub done : OnOk result (new.dev_faults ≡ old.dev_faults)
  pub failed : OnErr result (Rose old.dev_faults new.dev_faults)

-- Calls by which a fault of the device is reported or isn't: the device count rose where one is, and else stands still; the rest stays.
pub record ReportedCall (reported : Type 0) (old new : Facts) : Type 0 where
  pub units : new.units ≡ old.units
  pub references : new.references ≡ old.references
  pub prints : new.print_faults ≡ old.print_faults
  pub later : old.dev_faults ≤ new.dev_faults
  pub device : reported → Rose old.dev_faults new.dev_faults
  pub others : ¬ reported → new.dev_faults ≡ old.dev_faults

-- A call without an answer, which may note a fault of the device: the rest stays.
pub record NotedCall (old new : Facts) : Type 0 where
  pub units : new.units ≡ old.units
  pub references : new.references ≡ old.references
  pub prints : new.print_faults ≡ old.print_faults
  pub later : old.dev_faults ≤ new.dev_faults

-- A print: its count stands still where it is done and rose where it failed, and the rest stays.
pub record PrintCall {T E : Type 0} (old new : Facts) (result : Result T E) : Type 0 where
  pub units : new.units ≡ old.units
  pub references : new.references ≡ old.references
  pub devices : new.dev_faults ≡ old.dev_faults
  pub later : old.print_faults ≤ new.print_faults
  pub done : OnOk result (new.print_faults ≡ old.print_faults)
  pub failed : OnErr result (Rose old.print_faults new.print_faults)

-- An attachment: the file is the next unit, or the units stay; the device count rose where the device failed, and else stands still; want of memory changes nothing.
pub record AttachCall (name : List ℕ) (old new : Facts) (result : Result ℕ HallErr) : Type 0 where
  pub added : IfOk result (λ unit. (unit ≡ length old.units) × ((size : ℕ) × (new.units ≡ old.units ++ record { name = name; size = size } ∷ [])))
  pub stays : OnErr result (new.units ≡ old.units)
  pub references : new.references ≡ old.references
  pub prints : new.print_faults ≡ old.print_faults
  pub later : old.dev_faults ≤ new.dev_faults
  pub failed : IsErrOf result Failed → Rose old.dev_faults new.dev_faults
  pub others : ¬ IsErrOf result Failed → new.dev_faults ≡ old.dev_faults
  pub memory : IsErrOf result Memory → new ≡ old
  pub never_exists : ¬ IsErrOf result Exists

-- A creation: the file is the next unit, of this size, or the units stay; the counts are as in an attachment.
pub record CreateCall (name : List ℕ) (len : ℕ) (old new : Facts) (result : Result ℕ HallErr) : Type 0 where
  pub added : IfOk result (λ unit. (unit ≡ length old.units) × (new.units ≡ old.units ++ record { name = name; size = len } ∷ []))
  pub stays : OnErr result (new.units ≡ old.units)
  pub references : new.references ≡ old.references
  pub prints : new.print_faults ≡ old.print_faults
  pub later : old.dev_faults ≤ new.dev_faults
  pub failed : IsErrOf result Failed → Rose old.dev_faults new.dev_faults
  pub others : ¬ IsErrOf result Failed → new.dev_faults ≡ old.dev_faults
  pub memory : IsErrOf result Memory → new ≡ old
  pub never_missing : ¬ IsErrOf result Missing

-- Calls of a device and of a printer: both counts stand still where they are done, one rose where they failed, and the rest stays.
pub record OutsideCalls {T E : Type 0} (old new : Facts) (result : Result T E) : Type 0 where
  pub units : new.units ≡ old.units
  pub references : new.references ≡ old.references
  pub devices : old.dev_faults ≤ new.dev_faults
  pub prints : old.print_faults ≤ new.print_faults
  pub done : OnOk result ((new.dev_faults ≡ old.dev_faults) × (new.print_faults ≡ old.print_faults))
  pub failed : OnErr result (Rose old.dev_faults new.dev_faults ⊎ Rose old.print_faults new.print_faults)
