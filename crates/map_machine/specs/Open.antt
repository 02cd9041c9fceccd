-- What is known of the open writer of a machine in memory.
use Rattle.std.specs.Prelude.{◌≡◌, false, Option, Some, None, is_some}
use Rattle.std.specs.List.{AllByRecursion-prop}
use Rattle.std.proofs.Props.{props}
use Rattle.map_machine.specs.declared.past.Writer.{Writer}
use Rattle.map_machine.specs.Rooms.{target_in}
use Rattle.shelf_laws.specs.Ready.{IsReady}
use Rattle.vol_model.specs.declared.contents.Shelf.{Shelf}
use Rattle.vol_model.specs.Writing.{OpenWriter, begin_refusal}

-- what a writer is for its machine
abbrev pub as_open : Writer → OpenWriter
as_open w = record { target = target_in w.target; puts = w.puts }

-- A writer can commit: it is ready, and its target can be written to.
pub record CanCommit (shelf : Shelf) (w : OpenWriter) : Type 0 where
  pub ready : IsReady shelf w
  pub target : is_some (begin_refusal shelf w.target) ≡ false

-- so can the writer that is open
abbrev pub OpenCanCommit : Shelf → Option Writer → Type 0
OpenCanCommit shelf (Some w) = CanCommit shelf (as_open w)
OpenCanCommit shelf None = Unit {0}

-- this has one proof, so that a machine may keep it
IsReady-prop : (shelf : Shelf) (w : OpenWriter) → IsProp (IsReady shelf w)
IsReady-prop shelf w = Prim.hlevel (props, AllByRecursion-prop)

CanCommit-prop : (shelf : Shelf) (w : OpenWriter) → IsProp (CanCommit shelf w)
CanCommit-prop shelf w = Prim.hlevel (props, IsReady-prop)

pub OpenCanCommit-prop : (shelf : Shelf) (o : Option Writer) → IsProp (OpenCanCommit shelf o)
OpenCanCommit-prop shelf (Some w) = CanCommit-prop shelf (as_open w)
OpenCanCommit-prop shelf None = Prim.hlevel props
