-- What a put on one of several packs leaves, whose set is extended where it owns no track for the block.
use Rattle.std.specs.Prelude.{◌≡◌, true, ℕ, List, ◌++◌, Some, Result, Ok, Err, OnOk}
use Rattle.hall_core.specs.Facts.{Attached}
use Rattle.seq_access.specs.declared.writer.PutErr.{PutErr}
use Rattle.seq_access.specs.declared.writer.PutErr.TheVariants as put_err
use Rattle.stop_model.specs.Files.{File}
use Rattle.stop_model.specs.Moments.{Meaning}
use Rattle.stop_model.specs.Steps.{seen}
use Rattle.vol_model.specs.declared.answers.MachErr.{MachErr}
use Rattle.vol_model.specs.declared.answers.MachErr.TheVariants as mach
use Rattle.vol_model.specs.declared.answers.StoreErr.{StoreErr}
use Rattle.vol_model.specs.declared.answers.StoreErr.TheVariants as store
use Rattle.vol_model.specs.declared.contents.Place.{Place}
use Rattle.vol_model.specs.declared.contents.Shelf.{Shelf}
use Rattle.vol_model.specs.declared.refusals.Refusal.TheVariants.{NoRoom}
use Rattle.vol_model.specs.Calls.{Does, Keeps, Records, sound_after}
use Rattle.vol_model.specs.Places.{Content}
use Rattle.vol_model.specs.Shelf.{put_last}
use Rattle.vol_model.specs.Writing.{OpenWriter, Room, did_put, making_room, room_for, room_made, with_puts}
use Rattle.vtoc_index.specs.declared.vol.Vol.{Vol}
use Rattle.shelf_machine.specs.Machine.{KeepsSafe, placed_in, shelf_under, units_of, writer_in}
use Rattle.shelf_machine.specs.Opening.{names_of}
use Rattle.shelf_machine.specs.Fronts.{due}
use Rattle.shelf_machine.specs.Pending.{IsPendingBy, puts_on}
use Rattle.shelf_machine.specs.Putting.{did_place}
use Rattle.shelf_machine.specs.declared.writer.Writer.{Writer}

-- the answer to a put, as one of the machine
abbrev pub put_answer : Result Place PutErr → Result Place MachErr
put_answer (Ok place) = Ok place
put_answer (Err put_err.Device) = Err mach.Device
put_answer (Err e) = Err (mach.Refused NoRoom)

-- the answer where a set isn't extended for the block of a put; that takes no memory
abbrev pub room_answer : StoreErr → MachErr
room_answer store.Device = mach.Device
room_answer e = mach.Refused NoRoom

-- the shelf of the packs of these indexes
abbrev pub shelf_on : List File → List Attached → List Vol → Shelf
shelf_on files attached vols = shelf_under (names_of attached (units_of vols)) files

-- the room for a content after those that a writer put
abbrev pub room_on : List File → List Attached → List Vol → Writer → Content → Room
room_on files attached vols w c =
    let writer = placed_in files attached vols w in
    room_for (shelf_on files attached vols) writer.target writer.puts c

-- A content is placed as on the shelf, with an extension where one is wanted; the writer has it, or stands as before.
pub record PlacesBlock (c : Content) (attached attached' : List Attached) (vols vols' : List Vol)
    (w w' : Writer) (m m' : Meaning (List File)) (n n' : ℕ)
    (result : Result Place MachErr) : Type 0 where
  pub does : let did = did_place (shelf_on m.state attached vols) (placed_in m.state attached vols w) c in
      Does did.operations did (seen (shelf_under (names_of attached (units_of vols))) m)
      (seen (shelf_under (names_of attached' (units_of vols'))) m') n n' result
  pub records : Records result (placed_in m.state attached vols w) c
      (placed_in m'.state attached' vols' w')
  -- what was promised of stops is promised still
  pub safe : Keeps m.clock (KeepsSafe (names_of attached (units_of vols)) vols m)
      (KeepsSafe (names_of attached' (units_of vols')) vols' m')
  -- unless the device failed nothing is pending but what the writer put
  pub pending : sound_after result ≡ true → IsPendingBy m' attached' vols' (Some w')

-- what a writer placed is the same where a call isn't done, unless the device failed
abbrev pub StandsAgain : {T : Type 0} → Result T MachErr → OpenWriter → OpenWriter → Type 0
StandsAgain (Ok x) old new = Unit {0}
StandsAgain (Err mach.Device) old new = Unit {0}
StandsAgain (Err e) old new = new ≡ old

-- what is due in front of the next block of a writer
abbrev pub due_on : List File → List Attached → List Vol → Writer → List Content
due_on files attached vols w = due w.owes_end_of_file (puts_on files attached vols w)

-- what is due where it is closed
abbrev pub ends_on : List File → List Attached → List Vol → Writer → List Content
ends_on files attached vols w = due_on files attached vols w ++ put_last w.mode

-- The same of several contents, with this answer once they are placed.
pub record PlacesAll {X : Type 0} (cs : List Content) (x : X) (attached attached' : List Attached)
    (vols vols' : List Vol) (w w' : Writer) (m m' : Meaning (List File))
    (n n' : ℕ) (result : Result X MachErr) : Type 0 where
  pub does : let writer = placed_in m.state attached vols w in
      let did = room_made (making_room (shelf_on m.state attached vols) writer.target writer.puts cs) x in
      Does did.operations did (seen (shelf_under (names_of attached (units_of vols))) m)
      (seen (shelf_under (names_of attached' (units_of vols'))) m') n n' result
  pub done : OnOk result (placed_in m'.state attached' vols' w'
      ≡ with_puts (placed_in m.state attached vols w) cs)
  -- what was promised of stops is promised still
  pub safe : Keeps m.clock (KeepsSafe (names_of attached (units_of vols)) vols m)
      (KeepsSafe (names_of attached' (units_of vols')) vols' m')
  -- unless the device failed nothing is pending but what the writer put
  pub pending : sound_after result ≡ true → IsPendingBy m' attached' vols' (Some w')

-- A put does what one does on the shelf: it places what is due in front, and then the block.
pub record PutsBlock (c : Content) (attached attached' : List Attached) (vols vols' : List Vol)
    (w w' : Writer) (m m' : Meaning (List File)) (n n' : ℕ)
    (result : Result Place MachErr) : Type 0 where
  pub does : let did = did_put (shelf_on m.state attached vols) (writer_in m.state attached vols (Some w)) c in
      Does did.operations did (seen (shelf_under (names_of attached (units_of vols))) m)
      (seen (shelf_under (names_of attached' (units_of vols'))) m') n n' result
  pub records : Records result (writer_in m.state attached vols (Some w)) c
      (writer_in m'.state attached' vols' (Some w'))
  -- what was promised of stops is promised still
  pub safe : Keeps m.clock (KeepsSafe (names_of attached (units_of vols)) vols m)
      (KeepsSafe (names_of attached' (units_of vols')) vols' m')
  -- unless the device failed nothing is pending but what the writer put
  pub pending : sound_after result ≡ true → IsPendingBy m' attached' vols' (Some w')
