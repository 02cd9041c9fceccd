-- What a machine over several packs is made of, and what it means, tells and promises by that.
use Rattle.std.specs.Prelude.{Bool, ℕ, List}
use Rattle.hall_core.specs.declared.hall.Hall.{Ghosts}
use Rattle.stop_model.specs.Files.{File}
use Rattle.stop_model.specs.Moments.{Meaning}
use Rattle.stop_model.specs.Steps.{seen}
use Rattle.vol_model.specs.Calls.{Known, Status}
use Rattle.vol_model.specs.Writing.{OpenWriter}
use Rattle.vol_model.specs.declared.contents.Shelf.{Shelf}
use Rattle.vtoc_index.specs.declared.vol.Vol.{Vol}
use Rattle.shelf_machine.specs.Opening.{names_of}
use Rattle.shelf_machine.specs.Machine.{ByFiles, KeepsSafe, LeavesJust, is_open_in, shelf_under, status_with, units_of, writer_in}
use Rattle.shelf_machine.specs.ReadyPacks.{caches_of, vols_of}
use Rattle.pack_machine.specs.declared.pack_cache.PackCache.{PackCache}
use Rattle.shelf_machine.specs.declared.machine.HallShelf.{HallShelf}

-- the hall that it is on
abbrev pub hall_of : {X : Type 0} {g : Ghosts X} → HallShelf X g → X
hall_of machine = machine.hall

-- the indexes of its packs, in the order of its volumes
abbrev pub indexes_of : {X : Type 0} {g : Ghosts X} → HallShelf X g → List Vol
indexes_of machine = vols_of machine.packs.items

-- what it knows of the bodies on each
abbrev pub known_of : {X : Type 0} {g : Ghosts X} → HallShelf X g → List PackCache
known_of machine = caches_of machine.packs.items

-- whether no call of its hall failed
abbrev pub is_sound : {X : Type 0} {g : Ghosts X} → HallShelf X g → Bool
is_sound machine = machine.is_sound

-- whether a writer is open
abbrev pub is_open : {X : Type 0} {g : Ghosts X} → HallShelf X g → Bool
is_open machine = is_open_in machine.writer

-- the units that hold its packs
abbrev pub units_in : {X : Type 0} {g : Ghosts X} → HallShelf X g → List ℕ
units_in machine = units_of (vols_of machine.packs.items)

-- the names of their files
abbrev pub pack_names : {X : Type 0} {g : Ghosts X} → HallShelf X g → List (List ℕ)
pack_names {g = g} machine = names_of (g.facts machine.hall).units (units_of (vols_of machine.packs.items))

-- the shelf of its packs, as its hall holds it
abbrev pub meaning_of : {X : Type 0} {g : Ghosts X} → HallShelf X g → Meaning Shelf
meaning_of {g = g} machine = seen (shelf_under (pack_names machine)) (g.meaning machine.hall)

-- what it always tells
abbrev pub status_of : {X : Type 0} {g : Ghosts X} → HallShelf X g → Status
status_of {g = g} machine = status_with machine.is_sound machine.writer machine.done (g.facts machine.hall) (vols_of machine.packs.items)

-- its writer
abbrev pub writer_of : {X : Type 0} {g : Ghosts X} → HallShelf X g → OpenWriter
writer_of {g = g} machine = writer_in (g.meaning machine.hall).state (g.facts machine.hall).units (vols_of machine.packs.items) machine.writer

-- since that moment every stop leaves images that are safe
abbrev pub PromisesSafety : {X : Type 0} {g : Ghosts X} → HallShelf X g → ℕ → Known → Type 0
PromisesSafety {g = g} machine = ByFiles (KeepsSafe (pack_names machine) (vols_of machine.packs.items) (g.meaning machine.hall))

-- since that moment every stop leaves just these files
abbrev pub PromisesFiles : {X : Type 0} {g : Ghosts X} → HallShelf X g → ℕ → List File → Type 0
PromisesFiles {g = g} machine t files = LeavesJust (g.meaning machine.hall) t files
