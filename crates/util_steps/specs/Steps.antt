-- What the parts of a copy leave.
use Rattle.std.specs.Prelude.{◌≡◌, ◌≢◌, ◌⊎◌, ◌≤◌, ℕ, Bool, true, false, List, Result, Ok, Err}
use Rattle.std.specs.Str.{bytes_eq}
use Rattle.stop_model.specs.Moments.{Meaning, Elapses}
use Rattle.vol_model.specs.declared.answers.Stop.{Stop}
use Rattle.vol_model.specs.declared.contents.Block.{Block}
use Rattle.vol_model.specs.declared.contents.Place.{Place}
use Rattle.vol_model.specs.declared.contents.Shelf.{Shelf}
use Rattle.vol_model.specs.Places.{is_before}
use Rattle.vol_model.specs.Reading.{FirstOf, blocks_from}
use Rattle.vol_model.specs.declared.refusals.Refusal.TheVariants.{Unreadable}
use Rattle.util_steps.specs.declared.calls.Fault.{Fault}
use Rattle.util_steps.specs.declared.calls.Fault.TheVariants.{Refused}
use Rattle.util_steps.specs.declared.calls.SetRef.{SetRef}

-- two data sets aren't one
abbrev pub AreApart : SetRef → SetRef → Type 0
AreApart a b = (a.v ≢ b.v) ⊎ (bytes_eq b.dsn.bytes a.dsn.bytes ≡ false)

-- the first block at or after a place, or none, or the fault that the set can't be read
abbrev pub Finds : Result Bool Fault → Result (List Block) ℕ → Place → Block → Type 0
Finds (Ok more) body place b = (bs : List Block) × (body ≡ Ok bs) × FirstOf more (blocks_from place bs) b
Finds (Err (Refused (Unreadable track))) body place b = body ≡ Err track
Finds (Err _) body place b = ⊥

-- it is done, and not refused
abbrev pub is_put : {X : Type 0} → Result (Result X Fault) Stop → Bool
is_put (Ok (Ok x)) = true
is_put (Ok (Err e)) = false
is_put (Err e) = false

-- Nothing is done: the shelf stays as it was, and so does what is printed; a stop leaves both.
pub record RunsNothing {T E : Type 0} (tells : Bool) (old new : Meaning Shelf) (result : Result T E) : Type 0 where
  pub state : new.state ≡ old.state
  pub printed : new.printed ≡ old.printed
  pub moments : Elapses old new (λ shelf p. (shelf ≡ old.state) × (p ≡ old.printed))

-- A place stands before another, which a TTR can say.
pub record IsOnward (p q : Place) : Type 0 where
  pub after : is_before p q ≡ true
  pub track : q.tt ≤ 65535
  pub record_number : q.r ≤ 255
