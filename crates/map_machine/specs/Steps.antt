-- A step of one volume of a machine in memory.
use Rattle.std.specs.Prelude.{◌≡◌, ℕ, [], ◌∷◌, ◌++◌, Result, Ok, Err, Some, slice_get, slice_set}
use Rattle.map_machine.specs.declared.past.Done.TheVariants.{Changed}
use Rattle.map_machine.specs.Held.{Held}
use Rattle.vol_model.specs.declared.answers.MachErr.{MachErr}
use Rattle.vol_model.specs.declared.answers.MachErr.TheVariants.{Refused, Memory, Device, Print}
use Rattle.vol_model.specs.declared.contents.Shelf.{Shelf}
use Rattle.vol_model.specs.declared.contents.Volume.{Volume}
use Rattle.vol_model.specs.declared.requests.Op.{Op}
use Rattle.vol_model.specs.Calls.{counted}
use Rattle.vol_model.specs.Shelf.{step, volume_number}

-- a shelf with another volume of this number
abbrev pub with_changed : Shelf → ℕ → Volume → Shelf
with_changed shelf v volume = record { volumes = slice_set shelf.volumes v volume }

-- what an operation makes of its volume, by the step of the shelf
abbrev pub Steps : Shelf → Op → Result Volume MachErr → Type 0
Steps shelf op (Ok volume) = step shelf op ≡ Ok (with_changed shelf (volume_number op) volume)
Steps shelf op (Err (Refused r)) = step shelf op ≡ Err r
Steps shelf op (Err Memory) = Unit {0}
Steps shelf op (Err Device) = ⊥
Steps shelf op (Err Print) = ⊥

-- Another volume stands in the place of the one of this number, and that is on the record; where memory ran out, all is as it was.
abbrev pub Changes : ℕ → Volume → Held → Held → Result (Unit {0}) MachErr → Type 0
Changes v after old new (Ok x) = (before : Volume) × (slice_get old.now.shelf.volumes v ≡ Some before) × (new ≡ record old {
  now = record old.now { shelf = with_changed old.now.shelf v after };
  log = old.log ++ Changed v before ∷ [];
  done = counted old.done 1;
})
Changes v after old new (Err Memory) = new ≡ old
Changes v after old new (Err e) = ⊥
