-- Statements that are done and answered, and the items of a step.
use Rattle.std.proofs.Common.{◌≡◌, ℕ, List, [], ◌∷◌, sym, ap}
use Rattle.std.specs.Map.{lookup}
use Rattle.std.specs.Prelude.{Some, None, Result, Ok, Err, IsErr, IsErrAnd}
use Rattle.vol_model.specs.declared.answers.Stop.{Stop}
use Rattle.vol_model.specs.declared.contents.Shelf.{Shelf}
use Rattle.vol_model.specs.declared.machine.Machine.{Ghosts}
use Rattle.vol_model.specs.Did.{Did}
use Rattle.vol_model.specs.Events.{Item}
use Rattle.util_steps.specs.Items.{items_along}
use Rattle.util_steps.specs.Taking.{Takes, TakesItem}
use Rattle.util_steps.proofs.Taking.{item_taken, item_untaken}
use Rattle.util_syntax.specs.declared.listing.Object.{Object}
use Rattle.util_syntax.specs.declared.listing.Outcome.{Outcome}
use Rattle.util_syntax.specs.declared.step.StepIn.{StepIn}
use Rattle.util_syntax.specs.Items.{ItemView, StatementView}
use Rattle.util_syntax.specs.Listing.{item_line}
use Rattle.util_syntax.specs.Program.{answered_item, no_dd_item, outcome_code, outcome_of, statements_in, sysin}
use Rattle.util_syntax.specs.Step.{same_name}
use Rattle.util_program.specs.Outcomes.{steps_item}
use Rattle.util_program.specs.Statements.{items_if, program_items, statement_item}

module _ {X : Type 0} (g : Ghosts X) (card : ℕ) (operation : List ℕ) (object : Object) (did : Shelf → Did (Unit {0}) Outcome) where
  abbrev lines : Result (Unit {0}) Outcome → List (List ℕ)
  lines answer = item_line card operation object (outcome_of answer) ∷ []

  abbrev code : Result (Unit {0}) Outcome → ℕ
  code answer = outcome_code (outcome_of answer)

  -- the steps of a statement are done, and then it is answered
  pub answered_then : {old mid new : X} {answer : Result (Unit {0}) Outcome} {r : Result ℕ Stop} → Takes g did old mid (Ok answer) → TakesItem g (λ shelf. steps_item card operation object answer) mid new r → TakesItem g (λ shelf. answered_item card operation object (did shelf)) old new r
  answered_then one two = item_taken g did lines code one two

  -- they are stopped
  pub answered_stops : {old new : X} {e : Stop} (q : Result ℕ Stop) → IsErr q × IsErrAnd q (λ f. f ≡ e) → Takes g did old new (Err e) → TakesItem g (λ shelf. answered_item card operation object (did shelf)) old new q
  answered_stops q same one = item_untaken g did lines code q same one

module _ (item_of : Shelf → StatementView → Item) (step : StepIn) where
  -- the items of a step that has statements
  pub items_some : (xs : List ItemView) → Some xs ≡ statements_in (lookup (same_name sysin) step.dds) → (shelf : Shelf) → program_items item_of step shelf ≡ items_along (statement_item item_of) shelf xs
  unfolding program_items
  items_some xs is shelf = sym (ap (items_if item_of step.card shelf) is)

  -- and of one that has no SYSIN
  pub items_none : None ≡ statements_in (lookup (same_name sysin) step.dds) → (shelf : Shelf) → program_items item_of step shelf ≡ no_dd_item step.card sysin ∷ []
  unfolding program_items
  items_none is shelf = sym (ap (items_if item_of step.card shelf) is)
