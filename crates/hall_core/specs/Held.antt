-- What the parts of a hall in memory stand for.
use Rattle.std.specs.Prelude.{◌≡◌, ◌≢◌, ◌≤◌, Bool, if◌then◌else◌, ℕ, ◌<◌, List, length, map, Option, Some, None, slice_index, String, Vec, string_bytes, string_len, string_capacity, vec_len, vec_capacity}
use Rattle.std.specs.declared.alloc.Global.{Global}
use Rattle.hall_core.specs.Facts.{Attached, unit_of}
use Rattle.stop_model.specs.Files.{File, written}

-- the file that a pair of a name and bytes stands for
abbrev pub file_of_pair : String Global × Vec ℕ Global → File
file_of_pair pair = record { name = string_bytes pair.0; bytes = pair.1.items }

-- the files that pairs stand for
abbrev pub files_of : List (String Global × Vec ℕ Global) → List File
files_of pairs = map file_of_pair pairs

-- a pair that is empty, and has room for a name and bytes of this length
pub record IsSpare (room : ℕ) (pair : String Global × Vec ℕ Global) : Type 0 where
  pub no_name : string_len pair.0 ≡ 0
  pub no_bytes : vec_len pair.1 ≡ 0
  pub name_room : room ≤ string_capacity pair.0
  pub bytes_room : room ≤ vec_capacity pair.1

-- the files as first given: the copy of them, or where none was made yet, the present ones
abbrev pub first_pairs : Option (Vec (String Global × Vec ℕ Global) Global) → List (String Global × Vec ℕ Global) → List (String Global × Vec ℕ Global)
first_pairs (Some copy) present = copy.items
first_pairs None present = present

-- the attached file that a file is as a unit
abbrev pub attached_as : File → Attached
attached_as file = record { name = file.name; size = length file.bytes }

-- the names and sizes of files, which no write changes
abbrev pub shapes_of : List File → List Attached
shapes_of files = map attached_as files

-- the units at these places of the files
abbrev pub units_at : List Attached → List ℕ → List Attached
units_at shapes places = map (λ place. unit_of shapes place) places

-- the units at these places of the files of pairs
abbrev pub attached_in : List (String Global × Vec ℕ Global) → List ℕ → List Attached
attached_in pairs places = units_at (shapes_of (files_of pairs)) places

-- a file at this place is the first of its name
pub record IsFirst (shapes : List Attached) (place : ℕ) : Type 0 where
  pub inside : place < length shapes
  pub before : (k : ℕ) → k < place → (unit_of shapes k).name ≢ (unit_of shapes place).name

-- a file at this place has this name, and is the first of it
abbrev pub IsFirstNamed : List Attached → ℕ → List ℕ → Type 0
IsFirstNamed shapes place name = IsFirst shapes place × ((unit_of shapes place).name ≡ name)

-- the files, with a write over those of the name at a place where it is done
abbrev pub with_bytes : List File → ℕ → ℕ → List ℕ → Bool → List File
with_bytes files place at bytes is_done = if is_done then written files (unit_of (shapes_of files) place).name at bytes else files

-- each place is that of the first file of its name
abbrev pub AreFirst : List Attached → List ℕ → Type 0
AreFirst shapes places = (k : ℕ) → k < length places → IsFirst shapes (slice_index places k)
