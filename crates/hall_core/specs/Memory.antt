-- What a hall in memory shows of itself.
use Rattle.std.specs.Prelude.{◌≡◌, ◌↔◌, ◌⊎◌, ℕ, ◌+◌, ◌<◌, ◌≤◌, Bool, List, [], ◌∷◌, ◌++◌, length, take, Contains, Result, IsErrOf}
use Rattle.hall_core.specs.Facts.{Facts, name_in}
use Rattle.stop_model.specs.Files.{File}
use Rattle.stop_model.specs.Moments.{Meaning}
use Rattle.hall_core.specs.History.{Event, wrote, Disk, new_disk, after_all, meaning_after}
use Rattle.hall_core.specs.Held.{files_of, first_pairs, shapes_of, units_at}
use Rattle.hall_core.specs.Replay.{events_at}
use Rattle.hall_core.specs.declared.hall.HallErr.{HallErr}
use Rattle.hall_core.specs.declared.hall.HallErr.TheVariants.{Failed, Memory}
use Rattle.hall_core.specs.declared.mem_hall.step.Call.{Call}
use Rattle.hall_core.specs.declared.mem_hall.MemHall.{MemHall}

-- the files that it was given
abbrev pub first_files : MemHall → List File
first_files hall = files_of (first_pairs hall.first hall.files.items)

-- the units, and the counts of faults
abbrev pub facts_of : MemHall → Facts
facts_of hall = record { units = units_at (shapes_of (files_of hall.files.items)) hall.units.items; references = []; dev_faults = hall.dev_faults; print_faults = hall.print_faults }

-- what its calls did
abbrev pub events_of : MemHall → List Event
events_of hall = events_at (facts_of hall).units hall.written.items hall.printed.items hall.steps.items

-- what it holds
abbrev pub meaning_of : MemHall → Meaning (List File)
meaning_of hall = meaning_after (first_files hall) (events_of hall)

-- a write to a unit, done or failed
abbrev pub write_to : Facts → ℕ → ℕ → List ℕ → Bool → Event
write_to facts unit at bytes is_done = wrote (record { name = name_in facts unit; at = at; bytes = bytes; is_done = is_done })

-- the disk at a moment: before the call of this number
abbrev pub disk_at : MemHall → ℕ → Disk
disk_at hall moment = after_all (new_disk (first_files hall)) (take moment (events_of hall))

-- the record of its calls
abbrev pub calls_of : MemHall → List Call
calls_of hall = hall.calls.items

-- at which numbers its calls fail
abbrev pub failing_calls : MemHall → List ℕ
failing_calls hall = hall.fails.items

-- how many calls were numbered
abbrev pub number_of_calls : MemHall → ℕ
number_of_calls hall = length (calls_of hall)

-- for how many further calls there is room
abbrev pub calls_left : MemHall → ℕ
calls_left hall = hall.room_calls

-- for how many further bytes there is room
abbrev pub bytes_left : MemHall → ℕ
bytes_left hall = hall.room_bytes

-- there is too little room for a call that uses so many bytes: for one call, or for the bytes
abbrev pub LacksRoom : MemHall → ℕ → Type 0
LacksRoom hall bytes = (calls_left hall ≡ 0) ⊎ (bytes_left hall < bytes)

-- there is room for a call that uses so many bytes
pub record HasRoom (hall : MemHall) (used : ℕ) : Type 0 where
  pub calls : 0 < calls_left hall
  pub bytes : used ≤ bytes_left hall

-- the next call that is numbered is to fail
abbrev pub NextCallFails : MemHall → Type 0
NextCallFails hall = Contains (failing_calls hall) (number_of_calls hall)

-- the room stays
pub record KeepsRoom (old new : MemHall) : Type 0 where
  pub calls : calls_left new ≡ calls_left old
  pub bytes : bytes_left new ≡ bytes_left old

-- no call was put on the record, and none did anything
pub record KeepsRecord (old new : MemHall) : Type 0 where
  pub calls : calls_of new ≡ calls_of old
  pub events : events_of new ≡ events_of old

-- what the hall was made with stays
pub record KeepsSetup (old new : MemHall) : Type 0 where
  pub first : first_files new ≡ first_files old
  pub failing : failing_calls new ≡ failing_calls old

-- all but the room stays
pub record KeepsAllButRoom (old new : MemHall) : Type 0 where
  pub setup : KeepsSetup old new
  pub record_of_calls : KeepsRecord old new
  pub facts : facts_of new ≡ facts_of old

-- this call was put on the record and did this, and it used one call of the room and so many bytes of it
pub record Records (used : ℕ) (call : Call) (event : Event) (old new : MemHall) : Type 0 where
  pub calls : calls_of new ≡ calls_of old ++ call ∷ []
  pub events : events_of new ≡ events_of old ++ event ∷ []
  pub room_calls : calls_left new + 1 ≡ calls_left old
  pub room_bytes : bytes_left new + used ≡ bytes_left old

-- How a call that uses so many bytes goes: it fails exactly where there is too little room or its number is to fail; with room it is put on the record and uses the room, and without it does neither.
pub record IsExactCall {T : Type 0} (used : ℕ) (call : Call) (event : Event) (old new : MemHall) (result : Result T HallErr) : Type 0 where
  pub failed : IsErrOf result Failed ↔ (LacksRoom old used ⊎ NextCallFails old)
  pub memory : ¬ IsErrOf result Memory
  pub lacking : LacksRoom old used → KeepsRoom old new × KeepsRecord old new
  pub room : HasRoom old used → Records used call event old new
  pub setup : KeepsSetup old new
