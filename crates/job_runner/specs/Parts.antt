-- Parts of a run, one after another: their items, and how these are done on a machine, in this project's profile.
use Rattle.std.specs.Prelude.{◌≡◌, ℕ, Bool, false, List, [], ◌∷◌, ◌++◌, Result, IfOk, IsTrue}
use Rattle.stop_model.specs.Moments.{Meaning}
use Rattle.vol_model.specs.declared.answers.Stop.{Stop}
use Rattle.vol_model.specs.declared.contents.Shelf.{Shelf}
use Rattle.vol_model.specs.declared.machine.Machine.{Ghosts}
use Rattle.vol_model.specs.Calls.{Keeps}
use Rattle.vol_model.specs.Events.{Item, code_of, events_of, shelf_behind}
use Rattle.vol_model.specs.Runs.{Counts, RunCall, Runs}

-- the shelf after items
abbrev pub behind_items : Shelf → List Item → Shelf
behind_items shelf items = shelf_behind shelf (events_of items)

-- items, and then those of a part on the shelf after them
abbrev pub and_next : Shelf → List Item → (Shelf → List Item) → List Item
and_next shelf items next = items ++ next (behind_items shelf items)

-- one line, and nothing done
abbrev pub says : ℕ → List ℕ → Item
says code line = record { operations = []; lines = line ∷ []; code = code }

-- items between a first line and one that says their code
abbrev pub framed : List ℕ → (ℕ → List ℕ) → List Item → List Item
framed first last items = says 0 first ∷ items ++ says 0 (last (code_of items)) ∷ []

-- Items are done one after another; where they were stopped, a stop leaves one in their events.
pub record DoesItems {T : Type 0} (tells : Bool) (items : List Item) (old new : Meaning Shelf) (n m : ℕ) (result : Result T Stop) : Type 0 where
  pub runs : Runs tells (events_of items) old new result
  pub count : Counts (events_of items) n m result

-- A part of a run is done on a machine, which keeps its promises and is ready again but after a fault.
pub record Does {X T : Type 0} (g : Ghosts X) (Done : Meaning Shelf → Meaning Shelf → ℕ → ℕ → Result T Stop → Type 0) (old new : X) (result : Result T Stop) : Type 0 where
  pub works : IsTrue g.tells → Done (g.meaning old) (g.meaning new) (g.status old).done (g.status new).done result
  pub promise : IsTrue g.tells → Keeps (g.meaning old).clock (g.promise old) (g.promise new)
  pub faults : RunCall false (g.status old) (g.status new) result

-- Items are done, and the highest of their codes is answered.
pub record DoesCoded (tells : Bool) (items : List Item) (old new : Meaning Shelf) (n m : ℕ) (result : Result ℕ Stop) : Type 0 where
  pub does : DoesItems tells items old new n m result
  pub code : IfOk result (λ code. code ≡ code_of items)
