-- How items are done one after another.
use Rattle.std.specs.Prelude.{◌≡◌, ℕ, Bool, List, [], ◌∷◌, Option, Some, None, Result, Ok, Err, IfOk}
use Rattle.stop_model.specs.Moments.{Meaning}
use Rattle.vol_model.specs.declared.answers.Stop.{Stop}
use Rattle.vol_model.specs.declared.contents.Shelf.{Shelf}
use Rattle.vol_model.specs.Events.{Item, after_operations, events_in, events_of}
use Rattle.vol_model.specs.Runs.{Counts, Runs}

-- of the items to come the first is done, with its code, or there is none; where it was stopped, a stop leaves one in their events
abbrev pub DoesNext : Bool → List Item → List Item → Meaning Shelf → Meaning Shelf → ℕ → ℕ → Result (Option ℕ) Stop → Type 0
DoesNext tells before after old new n m (Ok None) = (before ≡ []) × Runs {T = Unit {0}} {E = Stop} tells [] old new (Ok tt) × (m ≡ n)
DoesNext tells before after old new n m (Ok (Some code)) =
    (item : Item) × (before ≡ item ∷ after) × (code ≡ item.code) × Runs {T = Unit {0}} {E = Stop} tells (events_in item) old new (Ok tt) × Counts {T = Unit {0}} {E = Stop} (events_in item) n m (Ok tt)
DoesNext tells before after old new n m (Err e) = Runs {T = Unit {0}} {E = Stop} tells (events_of before) old new (Err e)

-- An item is done, with its code; where it was stopped, a stop leaves one in its events.
pub record DoesItem (tells : Bool) (item : Item) (old new : Meaning Shelf) (n m : ℕ) (result : Result ℕ Stop) : Type 0 where
  pub runs : Runs tells (events_in item) old new result
  pub code : IfOk result (λ code. code ≡ item.code)
  pub count : Counts (events_in item) n m result

-- the items of tasks one after another, each on the shelf after the operations of those before it
abbrev pub items_along : {X : Type 0} → (Shelf → X → Item) → Shelf → List X → List Item
items_along item_of shelf [] = []
items_along item_of shelf (x ∷ xs) = let item = item_of shelf x in item ∷ items_along item_of (after_operations shelf item.operations) xs
