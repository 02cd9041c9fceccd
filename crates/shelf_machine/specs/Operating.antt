-- What an operation on the volume of one of several images leaves, by their shelf.
use Rattle.std.specs.Prelude.{◌≡◌, true, ℕ, List, Result}
use Rattle.hall_core.specs.Facts.{Attached}
use Rattle.stop_model.specs.Files.{File}
use Rattle.stop_model.specs.Moments.{Meaning, IsDurable}
use Rattle.stop_model.specs.Steps.{seen}
use Rattle.vol_model.specs.Calls.{Applies, IsIdle, Keeps, sound_after}
use Rattle.vol_model.specs.Shelf.{step}
use Rattle.vol_model.specs.declared.answers.StoreErr.{StoreErr}
use Rattle.vol_model.specs.declared.requests.Op.{Op}
use Rattle.vtoc_index.specs.declared.vol.Vol.{Vol}
use Rattle.shelf_machine.specs.Machine.{AreKept, KeepsSafe, LeavesJust, shelf_under}
use Rattle.pack_machine.specs.Ready.{reported}

-- An operation on an image of a shelf, whose images have these names, is one of the shelf.
pub record OperatesOnShelf {T : Type 0} (op : Op) (names names' : List (List ℕ))
    (attached : List Attached) (vols vols' : List Vol) (m m' : Meaning (List File))
    (result : Result T StoreErr) : Type 0 where
  pub applies : Applies op (seen (shelf_under names) m) (seen (shelf_under names') m')
      (reported result)
  -- what was promised of stops is promised still
  pub safe : Keeps m.clock (KeepsSafe names vols m) (KeepsSafe names' vols' m')
  pub idle : IsIdle (step (shelf_under names m.state) op) (reported result)
      → Keeps m.clock (LeavesJust m) (LeavesJust m')
  -- unless the device failed the indexes are those of the images, durably
  pub kept : sound_after (reported result) ≡ true → AreKept m'.state attached vols'
  pub durable : sound_after (reported result) ≡ true → IsDurable m'
