-- What parts that read and write records want of a machine, and what they leave of it, in one clause each.
use Rattle.std.specs.Prelude.{◌≡◌, ◌≤◌, true, false, Option, Result, IfOk, IsTrue}
use Rattle.vol_model.specs.declared.answers.Stop.{Stop}
use Rattle.vol_model.specs.declared.contents.Place.{Place}
use Rattle.vol_model.specs.declared.contents.Shelf.{Shelf}
use Rattle.vol_model.specs.declared.machine.Machine.{Ghosts}
use Rattle.vol_model.specs.Calls.{Keeps}
use Rattle.vol_model.specs.Did.{Did}
use Rattle.vol_model.specs.Runs.{RunCall, Works}
use Rattle.util_steps.specs.declared.calls.Fault.{Fault}
use Rattle.util_steps.specs.Steps.{RunsNothing}
use Rattle.record_files.specs.Advancing.{Advances}
use Rattle.record_files.specs.Writing.{Coming}

-- A machine is sound, and a writer is open on it.
pub record IsWriting {X : Type 0} (g : Ghosts X) (machine : X) : Type 0 where
  pub sound : IsTrue (g.status machine).is_sound
  pub opened : IsTrue (g.status machine).is_open

-- some of the blocks that were to come are put by the open writer, and these are still to come, with the place of the first before and after it
abbrev pub AdvancesOn : {X : Type 0} → Ghosts X → Coming → Coming → Option Place → Option Place → X → X → Result (Result (Unit {0}) Fault) Stop → Type 0
AdvancesOn g whole rest before after old new result = Advances g.tells_prints whole rest (g.writer old) (g.writer new) before after (g.meaning old) (g.meaning new) (g.status old).done (g.status new).done result

-- Blocks are put by the open writer: the promises are kept, and it is still open but after a fault.
pub record PutsCall {X T : Type 0} (g : Ghosts X) (old new : X) (result : Result T Stop) : Type 0 where
  pub later : IsTrue g.tells → (g.meaning old).clock ≤ (g.meaning new).clock
  pub promise : IsTrue g.tells → Keeps (g.meaning old).clock (g.promise old) (g.promise new)
  pub faults : RunCall true (g.status old) (g.status new) result

-- Something is read, of which this holds, whether a writer is open or not; nothing is done, and a writer stays as it is.
pub record ReadsBeside {X T : Type 0} (g : Ghosts X) (Holds : Shelf → T → Type 0) (old new : X) (result : Result T Stop) : Type 0 where
  pub value : IsTrue g.tells → IfOk result (Holds (g.meaning old).state)
  pub runs : IsTrue g.tells → RunsNothing g.tells_prints (g.meaning old) (g.meaning new) result
  pub writer : IsTrue g.tells → g.writer new ≡ g.writer old
  pub count : (g.status new).done ≡ (g.status old).done
  pub promise : IsTrue g.tells → Keeps (g.meaning old).clock (g.promise old) (g.promise new)
  pub faults : RunCall (g.status old).is_open (g.status old) (g.status new) result

-- Steps are taken, those for what is known of the shelf on which they begin; the promises are kept, and the machine is ready again but after a fault.
pub record TakesKnowing {X K A E : Type 0} (g : Ghosts X) (Holds : Shelf → K → Type 0) (did : Shelf → K → Did A E) (old new : X) (result : Result (Result A E) Stop) : Type 0 where
  pub works : IsTrue g.tells → (known : K) → Holds (g.meaning old).state known → Works g.tells_prints (did (g.meaning old).state known) (g.meaning old) (g.meaning new) (g.status old).done (g.status new).done result
  pub later : IsTrue g.tells → (g.meaning old).clock ≤ (g.meaning new).clock
  pub promise : IsTrue g.tells → Keeps (g.meaning old).clock (g.promise old) (g.promise new)
  pub faults : RunCall false (g.status old) (g.status new) result
