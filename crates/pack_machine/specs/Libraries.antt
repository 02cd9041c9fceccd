-- What is answered of the directories of partitioned data sets, by those that are held of each pack, in this project's profile.
use Rattle.std.specs.Prelude.{◌≡◌, ◌⊎◌, ℕ, ◌==◌, ◌&&◌, ◌++◌, not, Bool, List, [], ◌∷◌, length, filter, find, slice_get, Option, Some, None, Result, Ok, Err, option_and_then}
use Rattle.std.specs.Str.{bytes_eq}
use Rattle.dscb_codec.specs.declared.F1.{F1}
use Rattle.pack_spec.specs.Blocks.{last_of}
use Rattle.pds_directory.specs.Directories.{IsReadIn, owned_in, part_in}
use Rattle.pds_directory.specs.declared.dir.Dir.{Dir}
use Rattle.vol_model.specs.declared.answers.ReadErr.{ReadErr}
use Rattle.vol_model.specs.declared.answers.ReadErr.TheVariants.{Unreadable, Memory, Device}
use Rattle.vol_model.specs.declared.contents.Body.{Body}
use Rattle.vol_model.specs.declared.contents.Body.TheVariants as bodies
use Rattle.vol_model.specs.declared.contents.Entry.{Entry}
use Rattle.vol_model.specs.Places.{is_before}
use Rattle.vol_model.specs.Reading.{directory_size, entries_in}
use Rattle.vol_model.specs.Shelf.{unreadable}
use Rattle.vtoc_index.specs.declared.vol.Vol.{Vol}
use Rattle.seq_access.specs.declared.read_buf.ReadBuf.{ReadBuf}
use Rattle.seq_access.specs.declared.read_buf.Reach.TheVariants.{Nothing}
use Rattle.pack_machine.specs.Known.{IsLibraryOf}
use Rattle.pack_machine.specs.declared.pack_cache.PackCache.{PackCache}
use Rattle.mount_repair.specs.declared.library.Library.{Library}

-- the library of a number, from 0, of those that are held of the pack of this number
abbrev pub library_at : List PackCache → ℕ → ℕ → Option Library
library_at known n at = option_and_then (λ (b : PackCache). slice_get b.libraries.items at) (slice_get known n)

-- the library of a data set that begins on this track, of those that are held
abbrev pub library_from : List Library → ℕ → Option Library
library_from libraries start = find (λ (l : Library). l.start == start) libraries

-- the library is held of a data set with this body
abbrev pub IsHeld : Option Library → Body → Type 0
IsHeld library body = (l : Library) × (library ≡ Some l) × IsLibraryOf l body

-- the library of a data set with this body is held under a number, or it has no directory and no entry, or it can't be read
abbrev pub HoldsLibrary : Result (Option ℕ) ReadErr → Body → (ℕ → Option Library) → Type 0
HoldsLibrary (Ok (Some at)) body libraries = IsHeld (libraries at) body
HoldsLibrary (Ok None) body libraries = (entries_in body ≡ Ok []) × (directory_size body ≡ 0)
HoldsLibrary (Err (Unreadable track)) body libraries = (entries_in body ≡ Err track) × (directory_size body ≡ 0)
HoldsLibrary (Err Memory) body libraries = Unit {0}
HoldsLibrary (Err Device) body libraries = Unit {0}

-- the same of a partitioned one
abbrev pub HoldsPart : Result ℕ ReadErr → Body → List Library → Type 0
HoldsPart (Ok at) body libraries = IsHeld (slice_get libraries at) body
HoldsPart (Err (Unreadable track)) body libraries = body ≡ bodies.Unreadable track
HoldsPart (Err Memory) body libraries = Unit {0}
HoldsPart (Err Device) body libraries = Unit {0}

-- The library of a partitioned data set of an image is that of its directory, and begins where the set does.
pub record IsLibraryAt (image : List ℕ) (v : Vol) (f : F1) (l : Library) : Type 0 where
  pub start : slice_get (owned_in image v f) 0 ≡ Some l.start
  pub dir : IsReadIn image v f l.dir

-- it is read, where the body can be
abbrev pub ReadsLibrary : Result Library ReadErr → List ℕ → Vol → F1 → Type 0
ReadsLibrary (Ok l) image v f = unreadable (part_in image v f) ≡ None → IsLibraryAt image v f l
ReadsLibrary (Err (Unreadable track)) image v f = part_in image v f ≡ bodies.Unreadable track
ReadsLibrary (Err Memory) image v f = Unit {0}
ReadsLibrary (Err Device) image v f = Unit {0}

-- libraries are some of these, and none of a data set that begins on this track
abbrev pub AreOthers : ℕ → List Library → List Library → Type 0
AreOthers start old new = new ≡ filter (λ (l : Library). not (l.start == start)) old

-- a library is put after these, or memory ran out
abbrev pub IsKeptBehind : Library → List Library → List Library → Type 0
IsKeptBehind l old new = (new ≡ old ++ l ∷ []) ⊎ (new ≡ old)

-- An index has the buffer of reads, empty, which has the index's.
pub record IsLent (v v' : Vol) (buf buf' : ReadBuf) : Type 0 where
  pub index : v' ≡ record v { buf = record (buf.records) { unit = v.unit; track = v.vtoc.start; records = [] } }
  pub buffer : buf' ≡ record { records = v.buf; reach = Nothing }

-- a library is made where a directory was read, unless memory runs out
abbrev pub IsMadeFrom : Result Dir ReadErr → ℕ → Result Library ReadErr → Type 0
IsMadeFrom (Ok dir) start (Ok l) = (l.dir ≡ dir) × (l.start ≡ start)
IsMadeFrom (Ok dir) start (Err e) = e ≡ Memory
IsMadeFrom (Err e) start r = r ≡ Err e

-- the number of blocks of a library; 0 where there is none
abbrev pub size_held : Option Library → ℕ
size_held None = 0
size_held (Some l) = length l.dir.places.items

-- its entries; none where there is none
abbrev pub entries_held : Option Library → List Entry
entries_held None = []
entries_held (Some l) = l.entries.items

-- an entry has this name
abbrev pub entry_has : List ℕ → Entry → Bool
entry_has name e = bytes_eq e.name.bytes name

-- the number of blocks that a data set's directory has, by the number under which its library is held
abbrev pub size_by : Result (Option ℕ) ReadErr → (ℕ → ℕ) → ℕ
size_by (Ok (Some at)) size = size at
size_by (Ok None) size = 0
size_by (Err e) size = 0

-- whether a library is held is known
abbrev pub IsAnswered : Result (Option ℕ) ReadErr → Type 0
IsAnswered (Ok held) = Unit {0}
IsAnswered (Err (Unreadable track)) = Unit {0}
IsAnswered (Err Memory) = ⊥
IsAnswered (Err Device) = ⊥

-- a data set with this library and this LSTAR has no entry and no block
abbrev pub is_vacant_by : Library → List ℕ → Bool
is_vacant_by l lstar = (length l.entries.items == 0) && not (is_before l.dir.end (last_of lstar))

-- that is told of a data set with this body and this LSTAR, if its library is held
abbrev pub IsVacancyOf : Option Bool → Body → List ℕ → Type 0
IsVacancyOf None body lstar = Unit {0}
IsVacancyOf (Some vacant) body lstar = (l : Library) × IsLibraryOf l body × (vacant ≡ is_vacant_by l lstar)
