-- What a run of events on any machine leaves, in this project's profile.
use Rattle.std.specs.Prelude.{◌≡◌, ℕ, ◌≤◌, Bool, true, false, List, ◌++◌, length, map, Result, Err, OnOk, IfOk, IsErrOf, IsTrue}
use Rattle.stop_model.specs.Counts.{Rose}
use Rattle.stop_model.specs.Moments.{Meaning, Elapses}
use Rattle.vol_model.specs.declared.answers.Stop.{Stop}
use Rattle.vol_model.specs.declared.answers.Stop.TheVariants.{Device, Print}
use Rattle.vol_model.specs.declared.contents.Shelf.{Shelf}
use Rattle.vol_model.specs.Calls.{Status, counted}
use Rattle.vol_model.specs.Did.{Did}
use Rattle.vol_model.specs.Events.{Event, Do, StopsIn, listing, operations_of, shelf_behind}

-- The events of a run, all of them done unless an error ended it, and what a stop in it leaves: the shelf and the text of one in these events. Of printed bytes it is said where the machine tells them.
pub record Runs {T E : Type 0} (tells : Bool) (es : List Event) (old new : Meaning Shelf) (result : Result T E) : Type 0 where
  pub shelf : OnOk result (new.state ≡ shelf_behind old.state es)
  pub printed : OnOk result (IsTrue tells → new.printed ≡ old.printed ++ listing es)
  pub moments : Elapses old new (λ shelf p. (q : List ℕ) × (IsTrue tells → p ≡ old.printed ++ q) × StopsIn old.state es shelf q)

-- after a fault that ended a run its machine isn't sound, and else it is
abbrev pub sound_behind : {T : Type 0} → Result T Stop → Bool
sound_behind (Err Device) = false
sound_behind (Err Print) = false
sound_behind _ = true

-- A run on a machine: its base stays; it is sound then, and no writer is open, but after a fault; each count rose where its fault ended the run, and else stands still.
pub record RunCall {T : Type 0} (opens : Bool) (old new : Status) (result : Result T Stop) : Type 0 where
  pub base : new.base ≡ old.base
  pub sound : new.is_sound ≡ sound_behind result
  pub opened : IsTrue (sound_behind result) → new.is_open ≡ opens
  pub devices : old.dev_faults ≤ new.dev_faults
  pub prints : old.print_faults ≤ new.print_faults
  pub device : IsErrOf result Device → Rose old.dev_faults new.dev_faults
  pub print : IsErrOf result Print → Rose old.print_faults new.print_faults
  pub no_device : ¬ IsErrOf result Device → new.dev_faults ≡ old.dev_faults
  pub no_print : ¬ IsErrOf result Print → new.print_faults ≡ old.print_faults

-- Steps of an item that are taken: unless an error ended them their operations are done and counted, and they answer what they come to; a stop leaves one in these operations.
pub record Works {X E : Type 0} (tells : Bool) (did : Did X E) (old new : Meaning Shelf) (n m : ℕ) (result : Result (Result X E) Stop) : Type 0 where
  pub runs : Runs tells (map Do did.operations) old new result
  pub answer : IfOk result (λ answer. answer ≡ did.answer)
  pub count : OnOk result (m ≡ counted n (length did.operations))

-- Events that are done and printed: where no error ended them, their operations are counted.
pub record Counts {T E : Type 0} (es : List Event) (n m : ℕ) (result : Result T E) : Type 0 where
  pub count : OnOk result (m ≡ counted n (length (operations_of es)))
