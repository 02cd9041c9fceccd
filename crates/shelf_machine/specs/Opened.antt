-- What the opening of a machine over several packs answers, and what its closing leaves.
use Rattle.std.specs.Prelude.{◌≡◌, ◌≢◌, ℕ, ◌≤◌, true, false, List, Result, Ok, Err}
use Rattle.hall_core.specs.Facts.{Facts}
use Rattle.hall_core.specs.declared.hall.Hall.{Ghosts}
use Rattle.stop_model.specs.Counts.{Rose}
use Rattle.stop_model.specs.Files.{File}
use Rattle.stop_model.specs.Moments.{Meaning, IsDurable, Same}
use Rattle.pack_spec.specs.Shelf.{shelf_of}
use Rattle.pack_spec.specs.declared.MountErr.{MountErr}
use Rattle.pack_spec.specs.declared.MountErr.TheVariants.{Memory, Device}
use Rattle.vol_model.specs.Calls.{Files}
use Rattle.vol_model.specs.declared.contents.Shelf.{Shelf}
use Rattle.shelf_machine.specs.Machine.{LeavesJust, base_of}
use Rattle.shelf_machine.specs.Opening.{AreSettledImages, images_named}
use Rattle.shelf_machine.specs.Parts.{PromisesSafety, hall_of, indexes_of, is_open, is_sound, meaning_of, status_of, units_in}
use Rattle.shelf_machine.specs.declared.machine.HallShelf.{HallShelf}
use Rattle.shelf_machine.specs.declared.open_err.OpenErr.{OpenErr}

-- the hall after an opening
abbrev pub hall_left : {X : Type 0} {g : Ghosts X} → Result (HallShelf X g) (OpenErr X) → X
hall_left (Ok machine) = hall_of machine
hall_left (Err e) = e.hall

-- why a machine wasn't opened
abbrev pub IsWhy : {X : Type 0} {g : Ghosts X} → MountErr → Result (HallShelf X g) (OpenErr X) → Type 0
IsWhy why (Ok machine) = ⊥
IsWhy why (Err e) = e.why ≡ why

-- A machine that was opened over these units, in their order: it is sound, did nothing yet, and has no writer open.
pub record IsOpened {X : Type 0} {g : Ghosts X} (units : List ℕ) (machine : HallShelf X g) : Type 0 where
  pub numbers : units_in machine ≡ units
  pub sound : is_sound machine ≡ true
  pub closed : is_open machine ≡ false
  pub done : (status_of machine).done ≡ 0
  pub base : (status_of machine).base ≡ base_of (g.facts (hall_of machine)) (indexes_of machine)

-- The shelf of the images is opened: they stand for it as before, durably, and are settled; and where stops left nothing else than was there, the images stayed safe.
pub record OpensShelf {X : Type 0} {g : Ghosts X} (names : List (List ℕ)) (old : Meaning (List File))
    (machine : HallShelf X g) : Type 0 where
  pub shelf : Shelf
  pub before : shelf_of (images_named old.state names) ≡ Ok shelf
  pub after : shelf_of (images_named (g.meaning (hall_of machine)).state names) ≡ Ok shelf
  pub state : (meaning_of machine).state ≡ shelf
  pub settled : AreSettledImages names (g.meaning (hall_of machine)).state
  pub durable : IsDurable (g.meaning (hall_of machine))
  pub promise : (t : ℕ) → t ≤ old.clock → LeavesJust old t old.state
      → PromisesSafety machine t (Files old.state)

-- It isn't opened: nothing changes but the time, and the images stand for no shelf for this reason at this unit, unless memory ran out or the device failed.
pub record RefusesShelf {X : Type 0} (meaning : X → Meaning (List File)) (names : List (List ℕ))
    (old : Meaning (List File)) (e : OpenErr X) : Type 0 where
  pub why : e.why ≢ Memory → e.why ≢ Device
      → shelf_of (images_named old.state names) ≡ Err (record { unit = e.unit; why = e.why })
  pub same : e.why ≢ Device → Same old (meaning e.hall)

-- The calls of an opening: the count of device faults rose where the device failed, and else stands still; the rest stays.
pub record OpenCall {X : Type 0} {g : Ghosts X} (old : Facts) (result : Result (HallShelf X g) (OpenErr X)) : Type 0 where
  pub units : (g.facts (hall_left result)).units ≡ old.units
  pub references : (g.facts (hall_left result)).references ≡ old.references
  pub prints : (g.facts (hall_left result)).print_faults ≡ old.print_faults
  pub later : old.dev_faults ≤ (g.facts (hall_left result)).dev_faults
  pub device : IsWhy Device result → Rose old.dev_faults (g.facts (hall_left result)).dev_faults
  pub others : ¬ IsWhy Device result → (g.facts (hall_left result)).dev_faults ≡ old.dev_faults

-- What a sound machine leaves of its images where it is closed: they are settled, and every stop leaves images of the shelf that it held.
pub record LeavesSettled {X : Type 0} {g : Ghosts X} (machine : HallShelf X g) (names : List (List ℕ)) : Type 0 where
  pub settled : AreSettledImages names (g.meaning (hall_of machine)).state
  pub durable : IsDurable (meaning_of machine)
