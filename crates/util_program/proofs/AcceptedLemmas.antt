-- What programs do is accepted, where each of their statements does only what is accepted.
use Rattle.std.proofs.Common.{ℕ, List}
use Rattle.std.specs.Prelude.{Option, Some, None}
use Rattle.std.specs.Map.{lookup}
use Rattle.vol_model.specs.declared.contents.Shelf.{Shelf}
use Rattle.vol_model.specs.declared.requests.Op.{Op}
use Rattle.vol_model.specs.Events.{Item}
use Rattle.vol_model.specs.Writing.{did_apply}
use Rattle.util_steps.specs.Accepted.{AllAccepted}
use Rattle.util_steps.specs.Copying.{refusing}
use Rattle.util_steps.proofs.AcceptedLemmas.{DidAccepted, ItemsAccepted, accepted_along, accepted_one, accepted_reason, accepted_refusing}
use Rattle.util_syntax.specs.declared.step.StepIn.{StepIn}
use Rattle.util_syntax.specs.Items.{ItemView, StatementView, fault, statement}
use Rattle.util_syntax.specs.Program.{no_dd_item, statements_in, sysin}
use Rattle.util_syntax.specs.Step.{same_name}
use Rattle.util_program.specs.Outcomes.{outcome_for, performed}
use Rattle.util_program.specs.Statements.{items_if, program_items, statement_item}

pub performed_accepted : (s : Shelf) (op : Op) → DidAccepted s (performed s op)
performed_accepted s op = accepted_reason s outcome_for (refusing (did_apply s op)) (accepted_refusing s op)

module _ (item_of : Shelf → StatementView → Item) (each : (s : Shelf) (x : StatementView) → AllAccepted s (item_of s x).operations) where
  one : (s : Shelf) (x : ItemView) → AllAccepted s (statement_item item_of s x).operations
  one s (fault card column kind) = tt
  one s (statement x) = each s x

  if_there : (card : ℕ) (s : Shelf) (statements : Option (List ItemView)) → ItemsAccepted s (items_if item_of card s statements)
  if_there card s None = accepted_one s (no_dd_item card sysin) tt
  if_there card s (Some statements) = accepted_along (statement_item item_of) one s statements

  -- the items of a step
  pub program_accepted : (step : StepIn) (s : Shelf) → ItemsAccepted s (program_items item_of step s)
  unfolding program_items
  program_accepted step s = if_there step.card s (statements_in (lookup (same_name sysin) step.dds))
