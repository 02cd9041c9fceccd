-- What a put on one of several packs leaves, where its set is not extended.
use Rattle.std.specs.Prelude.{◌≡◌, ℕ, true, false, List, [], ◌∷◌, IsErrOf, Some, Result, Ok, Err}
use Rattle.hall_core.specs.Facts.{Attached}
use Rattle.seq_access.specs.Writing.{has_put}
use Rattle.seq_access.specs.declared.writer.PutErr.{PutErr}
use Rattle.seq_access.specs.declared.writer.PutErr.TheVariants.{Device, NeedExtent, TooLong}
use Rattle.stop_model.specs.Files.{File}
use Rattle.stop_model.specs.Moments.{Elapses, Meaning}
use Rattle.stop_model.specs.Steps.{seen}
use Rattle.vol_model.specs.declared.contents.Place.{Place}
use Rattle.vol_model.specs.declared.contents.Shelf.{Shelf}
use Rattle.vol_model.specs.declared.refusals.Refusal.{Refusal}
use Rattle.vol_model.specs.declared.refusals.Refusal.TheVariants.{NoRoom}
use Rattle.vol_model.specs.Calls.{Keeps}
use Rattle.vol_model.specs.Did.{Did, answered}
use Rattle.vol_model.specs.Places.{Content, end_of_file}
use Rattle.vol_model.specs.Writing.{OpenWriter, Wanted, making_room, place_on, room_for, room_made, with_puts}
use Rattle.vtoc_index.specs.declared.vol.Vol.{Vol}
use Rattle.shelf_machine.specs.Known.{AreHeld}
use Rattle.shelf_machine.specs.Machine.{AreKept, KeepsSafe, shelf_under}
use Rattle.shelf_machine.specs.Pending.{IsPendingBy}
use Rattle.pack_machine.specs.declared.pack_cache.PackCache.{PackCache}
use Rattle.shelf_machine.specs.declared.writer.Writer.{Writer}

-- The shelf stays, whatever a stop leaves, and so does what was promised; unless the device failed the indexes and the buffers are those of the images, and nothing is pending but by the writer.
pub record PutsOn {T : Type 0} (names : List (List ℕ)) (attached : List Attached) (vols vols' : List Vol)
    (known : List PackCache) (w : Writer) (m m' : Meaning (List File)) (result : Result T PutErr) : Type 0 where
  pub state : shelf_under names m'.state ≡ shelf_under names m.state
  pub printed : m'.printed ≡ m.printed
  pub moments : Elapses (seen (shelf_under names) m) (seen (shelf_under names) m')
      (λ s p. (s ≡ shelf_under names m.state) × (p ≡ m.printed))
  pub safe : Keeps m.clock (KeepsSafe names vols m) (KeepsSafe names vols' m')
  pub kept : ¬ IsErrOf result Device → AreKept m'.state attached vols'
  pub pending : ¬ IsErrOf result Device → IsPendingBy m' attached vols' (Some w)
  pub held : ¬ IsErrOf result Device → AreHeld m'.state attached vols' known

-- One content is placed after those that a writer placed, with an extension where one is wanted.
unfoldable pub did_place : Shelf → OpenWriter → Content → Did Place Refusal
did_place shelf w c = room_made (making_room shelf w.target w.puts (c ∷ [])) (place_on shelf w.target w.puts c)

-- What such a put answers, by the shelf and the writer: a content is put without an operation, or fits no track, or wants an extension; the writer stands as before where it isn't put.
abbrev pub DidPut : Shelf → OpenWriter → Content → OpenWriter → Result Place PutErr → Type 0
DidPut shelf w c w' (Ok place) = (did_place shelf w c ≡ answered (Ok place)) × (w' ≡ with_puts w (c ∷ []))
DidPut shelf w c w' (Err TooLong) = (did_place shelf w c ≡ answered (Err NoRoom)) × (w' ≡ w)
DidPut shelf w c w' (Err NeedExtent) = (room_for shelf w.target w.puts c ≡ Wanted) × (w' ≡ w)
DidPut shelf w c w' (Err Device) = Unit {0}

-- what a writer places first is what goes in front, if that is due
abbrev pub IsDue : Writer → Content → Type 0
IsDue w c = w.owes_end_of_file ≡ true → has_put w.inner ≡ false → c ≡ end_of_file
