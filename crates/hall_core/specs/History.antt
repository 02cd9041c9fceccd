-- The disk model, in this project's profile: what calls did to a disk, and what a stop at each moment of them leaves.
use Rattle.std.specs.Prelude.{◌≡◌, ℕ, ◌≤◌, Bool, true, false, List, [], ◌∷◌, ◌++◌, length, take, Option, Some, slice_get, if◌then◌else◌}
use Rattle.stop_model.specs.Moments.{Meaning}
use Rattle.stop_model.specs.Files.{File, written, IsPrefixOf}

-- a write over the bytes of a file, from an offset on; and whether it was done, and so is read
pub record Write : Type 0 where
  pub name : List ℕ
  pub at : ℕ
  pub bytes : List ℕ
  pub is_done : Bool

-- a change of the files since the last sync: a write, which a stop may leave out, or a file made, which it never does
pub data Change : Type 0 where
  writing : Write → Change
  making : File → Change

-- what a call did: a write; a file made; a sync; a print of these bytes; or nothing that stays
pub data Event : Type 0 where
  wrote : Write → Event
  made : File → Event
  synced : Event
  printed : List ℕ → Event
  passed : Event

-- the files as of the last sync, as they are read, the changes since that sync, and the bytes printed
pub record Disk : Type 0 where
  pub stable : List File
  pub files : List File
  pub pending : List Change
  pub text : List ℕ

-- a disk that holds these files, before any call
abbrev pub new_disk : List File → Disk
new_disk files = record { stable = files; files = files; pending = []; text = [] }

-- files after a change
abbrev pub with_change : List File → Change → List File
with_change files (writing w) = written files w.name w.at w.bytes
with_change files (making f) = files ++ f ∷ []

-- files after these changes, one after another
abbrev pub with_changes : List File → List Change → List File
with_changes files [] = files
with_changes files (c ∷ cs) = with_changes (with_change files c) cs

-- the disk after an event
abbrev pub after : Disk → Event → Disk
after d (wrote w) = record d { files = if w.is_done then with_change d.files (writing w) else d.files; pending = d.pending ++ writing w ∷ [] }
after d (made f) = record d { files = with_change d.files (making f); pending = d.pending ++ making f ∷ [] }
after d synced = record d { stable = d.files; pending = [] }
after d (printed bytes) = record d { text = d.text ++ bytes }
after d passed = d

-- the disk after these events, one after another
abbrev pub after_all : Disk → List Event → Disk
after_all d [] = d
after_all d (e ∷ es) = after_all (after d e) es

-- the files made, and the writes whose flag is true; a missing flag counts as false
abbrev pub kept : List Bool → List Change → List Change
kept flags [] = []
kept flags (making f ∷ cs) = making f ∷ kept flags cs
kept [] (writing w ∷ cs) = kept [] cs
kept (true ∷ flags) (writing w ∷ cs) = writing w ∷ kept flags cs
kept (false ∷ flags) (writing w ∷ cs) = kept flags cs

-- the stable files of a disk, with the files made since and the writes whose flag is true, in their order
abbrev pub files_left : Disk → List Bool → List File
files_left d flags = with_changes d.stable (kept flags d.pending)

-- a stop leaves these files of a disk, whichever of the pending writes are kept
abbrev pub MayLeave : Disk → List File → Type 0
MayLeave d j = (flags : List Bool) × (j ≡ files_left d flags)

-- the bytes of which a stop in an event may leave a part
abbrev pub bytes_of_print : Option Event → List ℕ
bytes_of_print (Some (printed bytes)) = bytes
bytes_of_print _ = []

-- a stop before the k-th event, counted from 0, or within it leaves these files and printed bytes of a disk that held those files at first
pub record MayLeaveAt (first : List File) (events : List Event) (k : ℕ) (j : List File) (p : List ℕ) : Type 0 where
  pub files : MayLeave (after_all (new_disk first) (take k events)) j
  pub text : (q : List ℕ) × IsPrefixOf q (bytes_of_print (slice_get events k)) × (p ≡ (after_all (new_disk first) (take k events)).text ++ q)

-- a stop at the k-th moment or later
abbrev pub MayLeaveSince : List File → List Event → ℕ → List File → List ℕ → Type 0
MayLeaveSince first events k j p = (m : ℕ) × (k ≤ m) × (m ≤ length events) × MayLeaveAt first events m j p

-- what these events mean on a disk that held these files at first; its clock counts them
abbrev pub meaning_after : List File → List Event → Meaning (List File)
meaning_after first events =
    let d = after_all (new_disk first) events in
    record {
      state = d.files;
      printed = d.text;
      left = MayLeave d;
      clock = length events;
      left_since = MayLeaveSince first events;
    }
