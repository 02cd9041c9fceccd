-- What a hall over real files tells, which of its units are noted, and which files it finds missing, there already, or to be read alone.
use Rattle.std.specs.Prelude.{◌≡◌, ◌⊎◌, Bool, List, [], map, string_bytes}
use Rattle.std.specs.IoError.{error_kind}
use Rattle.std.specs.declared.io.Error.{Error}
use Rattle.std.specs.declared.io.ErrorKind.TheVariants.{NotFound, NotADirectory, AlreadyExists, PermissionDenied, ReadOnlyFilesystem}
use Rattle.hall_core.specs.Facts.{Attached, Facts}
use Rattle.hall_files.specs.declared.file_hall.Unit.{Unit}
use Rattle.hall_files.specs.declared.file_hall.FileHall.{FileHall}

-- the units, in the order of their attachment
abbrev pub units_in : {R : Type 0} → FileHall R → List Unit
units_in hall = hall.units.items

-- the attached files, each by its name and its size
abbrev pub units_of : List Unit → List Attached
units_of units = map (λ (u : Unit). record { name = string_bytes u.name; size = u.size }) units

-- the units and the counts of faults; no reference leads to the hall
abbrev pub facts_of : {R : Type 0} → FileHall R → Facts
facts_of hall = record { units = units_of (units_in hall); references = []; dev_faults = hall.dev_faults; print_faults = hall.print_faults }

-- whether each unit may have been written since the last sync that was done, in the order of the units
abbrev pub notes_of : {R : Type 0} → FileHall R → List Bool
notes_of hall = map (λ (u : Unit). u.is_written) (units_in hall)

-- an error says that no file has the name: there is no entry of that name, or what should be its folder is none
abbrev pub SaysMissing : Error → Type 0
SaysMissing error = (error_kind error ≡ NotFound) ⊎ (error_kind error ≡ NotADirectory)

-- an error says that a file has the name already
abbrev pub SaysExists : Error → Type 0
SaysExists error = error_kind error ≡ AlreadyExists

-- an error says that the file may not be written: there is no leave to do it, or nothing on the medium may be written
abbrev pub SaysReadOnly : Error → Type 0
SaysReadOnly error = (error_kind error ≡ PermissionDenied) ⊎ (error_kind error ≡ ReadOnlyFilesystem)
