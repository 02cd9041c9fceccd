-- What became of statements, and the items that say it.
use Rattle.std.specs.Prelude.{ℕ, List, [], ◌∷◌, Result}
use Rattle.vol_model.specs.declared.contents.Shelf.{Shelf}
use Rattle.vol_model.specs.declared.requests.Op.{Op}
use Rattle.vol_model.specs.Did.{Did, with_reason}
use Rattle.vol_model.specs.Events.{Item}
use Rattle.vol_model.specs.Writing.{did_apply}
use Rattle.util_steps.specs.declared.calls.Fault.{Fault}
use Rattle.util_steps.specs.declared.calls.Fault.TheVariants as faults
use Rattle.util_steps.specs.Copying.{refusing}
use Rattle.util_syntax.specs.declared.listing.Object.{Object}
use Rattle.util_syntax.specs.declared.listing.Outcome.{Outcome}
use Rattle.util_syntax.specs.declared.listing.Outcome.TheVariants as outcome
use Rattle.util_syntax.specs.Listing.{item_line}
use Rattle.util_syntax.specs.Program.{outcome_code, outcome_of}

-- a fault of steps as the outcome of a statement
abbrev pub outcome_for : Fault → Outcome
outcome_for (faults.Refused refusal) = outcome.Refused refusal
outcome_for faults.BadRecord = outcome.BadRecord

-- one operation, whose refusal is the outcome
abbrev pub performed : Shelf → Op → Did (Unit {0}) Outcome
performed shelf op = with_reason outcome_for (refusing (did_apply shelf op))

-- the item of an outcome alone
abbrev pub outcome_item : ℕ → List ℕ → Object → Outcome → Item
outcome_item card operation object outcome = record { operations = []; lines = item_line card operation object outcome ∷ []; code = outcome_code outcome }

-- the item that says what steps came to
abbrev pub steps_item : ℕ → List ℕ → Object → Result (Unit {0}) Outcome → Item
steps_item card operation object answer = outcome_item card operation object (outcome_of answer)
