-- What the closing of a writer on one of several packs leaves, by their shelf.
use Rattle.std.specs.Prelude.{◌≡◌, ◌⊎◌, true, ℕ, List, Option, Some, None, OnOk, Result, Ok, Err}
use Rattle.hall_core.specs.Facts.{Attached}
use Rattle.stop_model.specs.Files.{File}
use Rattle.stop_model.specs.Moments.{Elapses, IsDurable, Meaning}
use Rattle.stop_model.specs.Steps.{seen}
use Rattle.vol_model.specs.Calls.{Does, Keeps, sound_after}
use Rattle.vol_model.specs.Shelf.{step}
use Rattle.vol_model.specs.Writing.{did_commit, making_close}
use Rattle.vol_model.specs.declared.answers.MachErr.{MachErr}
use Rattle.vol_model.specs.declared.requests.Op.{Op}
use Rattle.vtoc_index.specs.declared.vol.Vol.{Vol}
use Rattle.shelf_machine.specs.Known.{AreHeld, KnowsBodies}
use Rattle.shelf_machine.specs.Machine.{AreKept, KeepsSafe, shelf_under, units_of, writer_in}
use Rattle.shelf_machine.specs.Opening.{names_of}
use Rattle.shelf_machine.specs.Pending.{IsPendingBy, closed}
use Rattle.shelf_machine.specs.PutBlocks.{shelf_on}
use Rattle.pack_machine.specs.declared.pack_cache.PackCache.{PackCache}
use Rattle.shelf_machine.specs.declared.writer.Writer.{Writer}

-- What a writer placed becomes its set's by one operation of the shelf; once it is done all that is kept is that of the images, durably.
pub record CommitsOn {E : Type 0} (op : Op) (names names' : List (List ℕ)) (attached : List Attached)
    (vols vols' : List Vol) (known : List PackCache) (m m' : Meaning (List File))
    (result : Result (Unit {0}) E) : Type 0 where
  pub stepped : OnOk result (step (shelf_under names m.state) op ≡ Ok (shelf_under names' m'.state))
  pub printed : m'.printed ≡ m.printed
  pub moments : Elapses (seen (shelf_under names) m) (seen (shelf_under names') m')
      (λ s p. ((s ≡ shelf_under names m.state) ⊎ (step (shelf_under names m.state) op ≡ Ok s))
      × (p ≡ m.printed))
  -- what was promised of stops is promised still
  pub safe : Keeps m.clock (KeepsSafe names vols m) (KeepsSafe names' vols' m')
  pub kept : OnOk result (AreKept m'.state attached vols')
  pub durable : OnOk result (IsDurable m')
  pub held : OnOk result (AreHeld m'.state attached vols' known)
  pub bodies : OnOk result (KnowsBodies (shelf_under names' m'.state) known)

-- the writer after its closing: none, or one that was abandoned, where its blocks aren't its set's
abbrev pub writer_after : Result (Unit {0}) MachErr → Writer → Option Writer
writer_after (Ok x) w = None
writer_after (Err e) w = closed (Some w)

-- A writer is closed as on the shelf: extensions where they are wanted, and then one operation.
pub record ClosesOn (attached attached' : List Attached) (vols vols' : List Vol)
    (w w' : Writer) (m m' : Meaning (List File)) (n n' : ℕ) (result : Result (Unit {0}) MachErr)
    : Type 0 where
  pub does : let writer = writer_in m.state attached vols (Some w) in
      Does (making_close (shelf_on m.state attached vols) writer).extends
      (did_commit (shelf_on m.state attached vols) writer)
      (seen (shelf_under (names_of attached (units_of vols))) m)
      (seen (shelf_under (names_of attached' (units_of vols'))) m') n n' result
  -- what was promised of stops is promised still
  pub safe : Keeps m.clock (KeepsSafe (names_of attached (units_of vols)) vols m)
      (KeepsSafe (names_of attached' (units_of vols')) vols' m')
  -- unless the device failed nothing is pending but what an abandoned writer put
  pub pending : sound_after result ≡ true → IsPendingBy m' attached' vols' (writer_after result w')
