-- What a part of a utility wants of a machine, and what it leaves of it, in one clause each.
use Rattle.std.specs.Prelude.{◌≡◌, ℕ, ◌≤◌, false, List, map, Result, IfOk, IsTrue, IsFalse}
use Rattle.stop_model.specs.Moments.{Same}
use Rattle.vol_model.specs.declared.answers.Stop.{Stop}
use Rattle.vol_model.specs.declared.contents.Shelf.{Shelf}
use Rattle.vol_model.specs.declared.machine.Machine.{Ghosts}
use Rattle.vol_model.specs.Calls.{Keeps}
use Rattle.vol_model.specs.Did.{Did}
use Rattle.vol_model.specs.Events.{Item, Say, code_of, events_of}
use Rattle.vol_model.specs.Runs.{Counts, RunCall, Runs, Works}
use Rattle.util_steps.specs.Items.{DoesItem}

-- A machine is sound, and no writer is open on it.
pub record IsReady {X : Type 0} (g : Ghosts X) (machine : X) : Type 0 where
  pub sound : IsTrue (g.status machine).is_sound
  pub closed : IsFalse (g.status machine).is_open

-- Steps of an item are taken, those for the shelf on which they begin; the promises are kept, and the machine is ready again but after a fault.
pub record Takes {X A E : Type 0} (g : Ghosts X) (did : Shelf → Did A E) (old new : X) (result : Result (Result A E) Stop) : Type 0 where
  pub works : IsTrue g.tells → Works g.tells_prints (did (g.meaning old).state) (g.meaning old) (g.meaning new) (g.status old).done (g.status new).done result
  pub promise : IsTrue g.tells → Keeps (g.meaning old).clock (g.promise old) (g.promise new)
  pub faults : RunCall false (g.status old) (g.status new) result

-- So an item is done, and gives its code.
pub record TakesItem {X : Type 0} (g : Ghosts X) (item_of : Shelf → Item) (old new : X) (result : Result ℕ Stop) : Type 0 where
  pub item : IsTrue g.tells → DoesItem g.tells_prints (item_of (g.meaning old).state) (g.meaning old) (g.meaning new) (g.status old).done (g.status new).done result
  pub small : IfOk result (λ code. code ≤ 16)
  pub promise : IsTrue g.tells → Keeps (g.meaning old).clock (g.promise old) (g.promise new)
  pub faults : RunCall false (g.status old) (g.status new) result

-- So the items of a program are done one after another, and give the highest code.
pub record RunsItems {X : Type 0} (g : Ghosts X) (items : Shelf → List Item) (old new : X) (result : Result ℕ Stop) : Type 0 where
  pub runs : IsTrue g.tells → Runs g.tells_prints (events_of (items (g.meaning old).state)) (g.meaning old) (g.meaning new) result
  pub code : IsTrue g.tells → IfOk result (λ code. code ≡ code_of (items (g.meaning old).state))
  pub count : IsTrue g.tells → Counts (events_of (items (g.meaning old).state)) (g.status old).done (g.status new).done result
  pub small : IfOk result (λ code. code ≤ 16)
  pub promise : IsTrue g.tells → Keeps (g.meaning old).clock (g.promise old) (g.promise new)
  pub faults : RunCall false (g.status old) (g.status new) result

-- So lines are printed, and nothing is done.
pub record Says {X T : Type 0} (g : Ghosts X) (lines : Shelf → List (List ℕ)) (old new : X) (result : Result T Stop) : Type 0 where
  pub says : IsTrue g.tells → Runs g.tells_prints (map Say (lines (g.meaning old).state)) (g.meaning old) (g.meaning new) result
  pub count : (g.status new).done ≡ (g.status old).done
  pub promise : IsTrue g.tells → Keeps (g.meaning old).clock (g.promise old) (g.promise new)
  pub faults : RunCall false (g.status old) (g.status new) result

-- So something is read, of which this holds; nothing changes but the time.
pub record Reads {X T : Type 0} (g : Ghosts X) (Holds : Shelf → T → Type 0) (old new : X) (result : Result T Stop) : Type 0 where
  pub value : IsTrue g.tells → IfOk result (Holds (g.meaning old).state)
  pub same : IsTrue g.tells → Same (g.meaning old) (g.meaning new)
  pub count : (g.status new).done ≡ (g.status old).done
  pub promise : IsTrue g.tells → Keeps (g.meaning old).clock (g.promise old) (g.promise new)
  pub faults : RunCall false (g.status old) (g.status new) result
