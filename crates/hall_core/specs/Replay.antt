-- What the record of a hall in memory stands for: the events, over the units and the bytes that were written and printed.
use Rattle.std.specs.Prelude.{◌≡◌, ℕ, ◌+◌, ◌<◌, ◌≤◌, Bool, true, false, List, [], ◌∷◌, ◌++◌, length, map, take, drop, replicate, slice_index_or, if◌then◌else◌, String, Vec}
use Rattle.std.specs.declared.alloc.Global.{Global}
use Rattle.hall_core.specs.declared.mem_hall.step.Step.{Step}
use Rattle.hall_core.specs.declared.mem_hall.step.Step.TheVariants.{Write, Create, Sync, Print, Pass}
use Rattle.hall_core.specs.Facts.{Attached, unit_of}
use Rattle.stop_model.specs.Files.{File}
use Rattle.hall_core.specs.History.{Event, wrote, made, synced, printed, passed, Change, writing, making, Disk, new_disk, after_all, with_changes}
use Rattle.hall_core.specs.Held.{files_of, shapes_of, units_at, attached_in, AreFirst}

-- so many bytes of a list, from a start on
abbrev pub part : List ℕ → ℕ → ℕ → List ℕ
part bytes start len = take len (drop start bytes)

-- the file that a unit was made as
abbrev pub new_file : Attached → File
new_file unit = record { name = unit.name; bytes = replicate unit.size 0 }

-- the event that a step stands for
abbrev pub event_of : List Attached → List ℕ → List ℕ → Step → Event
event_of units pool text (Write unit at start len is_done) = wrote (record { name = (unit_of units unit).name; at = at; bytes = part pool start len; is_done = is_done })
event_of units pool text (Create unit) = made (new_file (unit_of units unit))
event_of units pool text Sync = synced
event_of units pool text (Print start len) = printed (part text start len)
event_of units pool text Pass = passed

-- the events of these steps
abbrev pub events_at : List Attached → List ℕ → List ℕ → List Step → List Event
events_at units pool text steps = map (event_of units pool text) steps

-- the unit of a write
abbrev pub unit_written : Step → ℕ
unit_written (Write unit at start len is_done) = unit
unit_written _ = 0

-- how many files these steps made
abbrev pub files_made : List Step → ℕ
files_made [] = 0
files_made (Create unit ∷ steps) = files_made steps + 1
files_made (Write unit at start len is_done ∷ steps) = files_made steps
files_made (Sync ∷ steps) = files_made steps
files_made (Print start len ∷ steps) = files_made steps
files_made (Pass ∷ steps) = files_made steps

-- how many units there must be for a step
abbrev pub units_needed : Step → ℕ
units_needed (Write unit at start len is_done) = unit + 1
units_needed (Create unit) = unit + 1
units_needed _ = 0

-- how large the unit of a write must be
abbrev pub size_needed : Step → ℕ
size_needed (Write unit at start len is_done) = at + len
size_needed _ = 0

-- how many bytes must have been written for a step
abbrev pub pool_needed : Step → ℕ
pool_needed (Write unit at start len is_done) = start + len
pool_needed _ = 0

-- how many bytes must have been printed for a step
abbrev pub text_needed : Step → ℕ
text_needed (Print start len) = start + len
text_needed _ = 0

-- a step speaks of a unit that there is, of bytes in it, and of bytes that were written or printed
pub record IsWithin (units : List Attached) (pool text : ℕ) (step : Step) : Type 0 where
  pub unit : units_needed step ≤ length units
  pub size : size_needed step ≤ (unit_of units (unit_written step)).size
  pub from_pool : pool_needed step ≤ pool
  pub from_text : text_needed step ≤ text

-- each step does
abbrev pub AreWithin : List Attached → ℕ → ℕ → List Step → Type 0
AreWithin units pool text steps = (k : ℕ) → k < length steps → IsWithin units pool text (slice_index_or steps k Pass)

-- a step speaks of a unit that there is, of bytes in it, and of bytes that were written
pub record IsWritable (units : List Attached) (pool : ℕ) (step : Step) : Type 0 where
  pub unit : units_needed step ≤ length units
  pub size : size_needed step ≤ (unit_of units (unit_written step)).size
  pub from_pool : pool_needed step ≤ pool

-- each step does
abbrev pub AreWritable : List Attached → ℕ → List Step → Type 0
AreWritable units pool steps = (k : ℕ) → k < length steps → IsWritable units pool (slice_index_or steps k Pass)

-- each step speaks of bytes that were printed
abbrev pub ArePrinted : ℕ → List Step → Type 0
ArePrinted text steps = (k : ℕ) → k < length steps → text_needed (slice_index_or steps k Pass) ≤ text

-- how many files there must be before a write, whose unit has one of these places
abbrev pub files_needed : List ℕ → Step → ℕ
files_needed places (Write unit at start len is_done) = slice_index_or places unit 0 + 1
files_needed places _ = 0

-- the place of the file that a step makes, and of any other step this number
abbrev pub place_made : List ℕ → Step → ℕ → ℕ
place_made places (Create unit) n = slice_index_or places unit 0
place_made places _ n = n

-- a step, before which there are n files, writes to one of them, or makes the next
pub record IsPlaced (places : List ℕ) (n : ℕ) (step : Step) : Type 0 where
  pub file : files_needed places step ≤ n
  pub next : place_made places step n ≡ n

-- each step does, where there were n files at first
abbrev pub ArePlaced : List ℕ → ℕ → List Step → Type 0
ArePlaced places n steps = (k : ℕ) → k < length steps → IsPlaced places (n + files_made (take k steps)) (slice_index_or steps k Pass)

-- The present files and the printed text are what the steps made of the first files.
pub record IsReplay (first files : List File) (places : List ℕ) (steps : List Step) (pool text : List ℕ) : Type 0 where
  pub shapes : shapes_of first ≡ take (length first) (shapes_of files)
  pub count : length first + files_made steps ≡ length files
  pub placed : ArePlaced places (length first) steps
  pub firsts : AreFirst (shapes_of files) places
  pub within : AreWithin (units_at (shapes_of files) places) (length pool) (length text) steps
  pub present : (after_all (new_disk first) (events_at (units_at (shapes_of files) places) pool text steps)).files ≡ files
  pub printed : (after_all (new_disk first) (events_at (units_at (shapes_of files) places) pool text steps)).text ≡ text

-- the changes that these steps made
abbrev pub changes_at : List Attached → List ℕ → List Step → List Change
changes_at units pool [] = []
changes_at units pool (Write unit at start len is_done ∷ steps) = writing (record { name = (unit_of units unit).name; at = at; bytes = part pool start len; is_done = is_done }) ∷ changes_at units pool steps
changes_at units pool (Create unit ∷ steps) = making (new_file (unit_of units unit)) ∷ changes_at units pool steps
changes_at units pool (Sync ∷ steps) = changes_at units pool steps
changes_at units pool (Print start len ∷ steps) = changes_at units pool steps
changes_at units pool (Pass ∷ steps) = changes_at units pool steps

-- the changes of these steps, over units at these places of the files of pairs
abbrev pub changes_in : List (String Global × Vec ℕ Global) → List ℕ → List ℕ → List Step → List Change
changes_in pairs places pool steps = changes_at (attached_in pairs places) pool steps

-- a step is a write
abbrev pub is_write : Step → Bool
is_write (Write unit at start len is_done) = true
is_write (Create unit) = false
is_write Sync = false
is_write (Print start len) = false
is_write Pass = false

-- a step is a write that was done
abbrev pub is_done_write : Step → Bool
is_done_write (Write unit at start len is_done) = is_done
is_done_write (Create unit) = false
is_done_write Sync = false
is_done_write (Print start len) = false
is_done_write Pass = false

-- a change is kept: a write where its flag is true, a file made always
abbrev pub is_kept_step : Step → Bool → Bool
is_kept_step step flag = if is_write step then flag else true

-- the changes that were done
abbrev pub done_of : List Change → List Change
done_of [] = []
done_of (writing w ∷ cs) = if w.is_done then writing w ∷ done_of cs else done_of cs
done_of (making f ∷ cs) = making f ∷ done_of cs

-- the bytes that these steps printed
abbrev pub prints_at : List ℕ → List Step → List ℕ
prints_at text [] = []
prints_at text (Write unit at start len is_done ∷ steps) = prints_at text steps
prints_at text (Create unit ∷ steps) = prints_at text steps
prints_at text (Sync ∷ steps) = prints_at text steps
prints_at text (Print start len ∷ steps) = part text start len ++ prints_at text steps
prints_at text (Pass ∷ steps) = prints_at text steps

-- the disk that held these files, after these steps
abbrev pub disk_after : List File → List Attached → List ℕ → List ℕ → List Step → Disk
disk_after first units pool text steps = after_all (new_disk first) (events_at units pool text steps)

-- the place from which on changes are pending after the i-th step, where it was this place before it
abbrev pub pending_place : Step → ℕ → ℕ → ℕ
pending_place Sync i from = i + 1
pending_place (Write unit at start len is_done) i from = from
pending_place (Create unit) i from = from
pending_place (Print start len) i from = from
pending_place Pass i from = from

-- A step can be made again over these pairs, which are the first of the present ones, as far as their names and sizes go.
pub record IsRedoable (present : List (String Global × Vec ℕ Global)) (places : List ℕ) (pool : ℕ) (pairs : List (String Global × Vec ℕ Global)) (step : Step) : Type 0 where
  pub shapes : shapes_of (files_of pairs) ≡ take (length pairs) (shapes_of (files_of present))
  pub inside : length pairs + files_made (step ∷ []) ≤ length present
  pub firsts : AreFirst (shapes_of (files_of present)) places
  pub within : IsWritable (attached_in present places) pool step
  pub placed : IsPlaced places (length pairs) step

-- so can these steps, one after another
pub record AreRedoable (present : List (String Global × Vec ℕ Global)) (places : List ℕ) (pool : ℕ) (pairs : List (String Global × Vec ℕ Global)) (steps : List Step) : Type 0 where
  pub shapes : shapes_of (files_of pairs) ≡ take (length pairs) (shapes_of (files_of present))
  pub inside : length pairs + files_made steps ≤ length present
  pub firsts : AreFirst (shapes_of (files_of present)) places
  pub within : AreWritable (attached_in present places) pool steps
  pub placed : ArePlaced places (length pairs) steps

-- these changes were made of pairs, and so many files with them
pub record HasRedone (present pairs pairs' : List (String Global × Vec ℕ Global)) (changes : List Change) (count : ℕ) : Type 0 where
  pub made : files_of pairs' ≡ with_changes (files_of pairs) changes
  pub shapes : shapes_of (files_of pairs') ≡ take (length pairs') (shapes_of (files_of present))
  pub files : length pairs' ≡ length pairs + count

-- of these steps the pending changes are those from the n-th step on; the done ones before it are durable
pub record IsPendingFrom (steps : List Step) (n : ℕ) : Type 0 where
  pub within : n ≤ length steps
  pub pending : (first : List File) (units : List Attached) (pool text : List ℕ) → (disk_after first units pool text steps).pending ≡ changes_at units pool (drop n steps)
  pub stable : (first : List File) (units : List Attached) (pool text : List ℕ) → (disk_after first units pool text steps).stable ≡ with_changes first (done_of (changes_at units pool (take n steps)))
