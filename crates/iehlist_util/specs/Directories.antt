-- What LISTPDS lists of partitioned data sets (Utilities GC28-6586, in this project's profile).
use Rattle.std.specs.Prelude.{◌≡◌, ℕ, not, List, [], ◌∷◌, ◌++◌, length, map, Option, Result, Ok, Err}
use Rattle.ebcdic_names.specs.declared.names.Dsn.{Dsn}
use Rattle.vol_model.specs.declared.contents.DataSet.{DataSet}
use Rattle.vol_model.specs.declared.contents.Entry.{Entry}
use Rattle.vol_model.specs.declared.contents.Shelf.{Shelf}
use Rattle.vol_model.specs.declared.contents.Volume.{Volume}
use Rattle.vol_model.specs.declared.refusals.Refusal.{Refusal}
use Rattle.vol_model.specs.declared.refusals.Refusal.TheVariants.{WrongKind}
use Rattle.vol_model.specs.Reading.{entries_in}
use Rattle.vol_model.specs.Shelf.{in_directory, is_partitioned, on_found, refuse, set_of}
use Rattle.vol_model.specs.Writing.{body_on, set_on}
use Rattle.util_syntax.specs.declared.listing.Outcome.TheVariants.{Done, Refused}
use Rattle.iehlist_util.specs.declared.directories.PdsAnswer.{PdsAnswer}
use Rattle.iehlist_util.specs.Lines.{directory_line, entry_line}

-- The directory of a partitioned set: how many blocks it has, and its entries.
pub record Directory : Type 0 where
  pub blocks : ℕ
  pub entries : List Entry

-- the directory of a set, or the first reason for which it isn't listed: there is no such set, it isn't partitioned, or it can't be read
unfoldable pub directory_of : List ℕ → Option DataSet → Result Directory Refusal
directory_of name found = on_found found (λ (x : DataSet).
    refuse (not (is_partitioned name x.attr)) WrongKind (in_directory x.body (λ dir entries. Ok (record { blocks = dir; entries = entries }))))

-- the directory of the set of this name on the volume of this number
abbrev pub directory_on : Shelf → ℕ → List ℕ → Result Directory Refusal
directory_on shelf v name = directory_of name (set_on shelf v name)

-- the set of this name on the volume of this number has these entries
abbrev pub HasEntries : Shelf → ℕ → List ℕ → List Entry → Type 0
HasEntries shelf v name es = entries_in (body_on shelf v name) ≡ Ok es

-- how many blocks a directory has
abbrev pub blocks_in : Result Directory Refusal → Result ℕ Refusal
blocks_in (Ok d) = Ok d.blocks
blocks_in (Err r) = Err r

-- its line, and those of its entries
unfoldable pub directory_lines : List ℕ → Directory → List (List ℕ)
directory_lines name d = directory_line name d.blocks (length d.entries) ∷ map entry_line d.entries

-- the lines of a set, if its directory is listed
abbrev pub lines_of : List ℕ → Result Directory Refusal → List (List ℕ)
lines_of name (Ok d) = directory_lines name d
lines_of name (Err r) = []

-- whether it is, or why not
abbrev pub answer_of : Result Directory Refusal → Result (Unit {0}) Refusal
answer_of (Ok d) = Ok tt
answer_of (Err r) = Err r

-- What is listed of directories, and what became of that.
pub record PdsListing : Type 0 where
  pub lines : List (List ℕ)
  pub answer : PdsAnswer

-- a directory, and what is listed after it: nothing where its set is refused, which the answer names then
abbrev pub listed_first : Dsn → Result Directory Refusal → PdsListing → PdsListing
listed_first dsn (Ok d) others = record { lines = directory_lines dsn.bytes d ++ others.lines; answer = others.answer }
listed_first dsn (Err r) others = record { lines = []; answer = record { dsn = dsn; outcome = Refused r } }

-- nothing is left after the last set, which the answer names
abbrev pub behind_last : Dsn → PdsListing
behind_last dsn = record { lines = []; answer = record { dsn = dsn; outcome = Done } }

-- a set and others by their names, up to the first that is refused
unfoldable pub pds_listing : Volume → Dsn → List Dsn → PdsListing
pds_listing volume dsn [] = listed_first dsn (directory_of dsn.bytes (set_of dsn.bytes volume)) (behind_last dsn)
pds_listing volume dsn (next ∷ dsns) = listed_first dsn (directory_of dsn.bytes (set_of dsn.bytes volume)) (pds_listing volume next dsns)
