-- Packs on which a writer is open, and what a put leaves of them, in this project's profile.
use Rattle.std.specs.Prelude.{◌≡◌, true, Bool, IsErrOf, IsTrue, List, Result, Some}
use Rattle.hall_core.specs.Facts.{Facts, ReportedCall}
use Rattle.stop_model.specs.Files.{File}
use Rattle.stop_model.specs.Moments.{Meaning}
use Rattle.vol_model.specs.Calls.{sound_after}
use Rattle.vol_model.specs.declared.answers.MachErr.{MachErr}
use Rattle.vol_model.specs.declared.answers.MachErr.TheVariants.{Device, Memory, Print, Refused}
use Rattle.vol_model.specs.declared.answers.StoreErr.{StoreErr}
use Rattle.vol_model.specs.declared.refusals.Refusal.{Refusal}
use Rattle.vol_model.specs.declared.refusals.Refusal.TheVariants.{NoRoom}
use Rattle.pack_machine.specs.Ready.{reported}
use Rattle.pack_machine.specs.declared.pack.Pack.{Pack}
use Rattle.shelf_machine.specs.Machine.{AreIndexes, base_of, placed_in}
use Rattle.shelf_machine.specs.Pending.{HasSlot, IsPendingBy}
use Rattle.shelf_machine.specs.ReadyPacks.{AreReady, vols_of}
use Rattle.shelf_machine.specs.declared.writer.Writer.{Writer}

-- Packs that are ready, with a writer on one of them.
pub record HasWriter (tells : Bool) (f : Facts) (m : Meaning (List File)) (packs : List Pack) (w : Writer) : Type 0 where
  pub ready : AreReady tells f m packs
  pub slot : HasSlot (vols_of packs) (Some w)
  -- nothing is pending but what the writer put
  pub pending : IsTrue tells → IsPendingBy m f.units (vols_of packs) (Some w)

-- What a put leaves in any case: the same packs and writer, ready unless the device failed. It is refused for want of room alone.
pub record KeepsWriter {T : Type 0} (tells : Bool) (f f' : Facts) (m' : Meaning (List File)) (packs packs' : List Pack)
    (w w' : Writer) (result : Result T MachErr) : Type 0 where
  pub indexes : AreIndexes f'.units (vols_of packs')
  pub base : base_of f' (vols_of packs') ≡ base_of f (vols_of packs)
  pub ready : sound_after result ≡ true → AreReady tells f' m' packs'
  pub slot : sound_after result ≡ true → HasSlot (vols_of packs') (Some w')
  pub same : w' ≡ record w { inner = w'.inner }
  pub refused : (r : Refusal) → IsErrOf result (Refused r) → r ≡ NoRoom
  pub memory : ¬ IsErrOf result Memory
  pub print : ¬ IsErrOf result Print
  pub faults : ReportedCall (IsErrOf result Device) f f'

-- After an extension of its set the writer stands after the same blocks, unless the device failed. No more of it changes than the slot of its set.
pub record KeepsPuts {T : Type 0} (tells : Bool) (f f' : Facts) (m m' : Meaning (List File)) (packs packs' : List Pack)
    (w w' : Writer) (result : Result T StoreErr) : Type 0 where
  pub slot : sound_after (reported result) ≡ true → HasSlot (vols_of packs') (Some w')
  pub pending : IsTrue tells → sound_after (reported result) ≡ true → IsPendingBy m' f'.units (vols_of packs') (Some w')
  pub puts : IsTrue tells → sound_after (reported result) ≡ true
      → placed_in m'.state f'.units (vols_of packs') w' ≡ placed_in m.state f.units (vols_of packs) w
  pub same : w' ≡ record w { inner = record (w.inner) { slot = w'.inner.slot } }
