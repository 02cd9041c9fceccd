-- The items of a program that does the statements of SYSIN one after another.
use Rattle.std.specs.Prelude.{ℕ, List, [], ◌∷◌, Option, Some, None}
use Rattle.std.specs.Map.{lookup}
use Rattle.vol_model.specs.declared.contents.Shelf.{Shelf}
use Rattle.vol_model.specs.Events.{Item}
use Rattle.util_steps.specs.Items.{items_along}
use Rattle.util_syntax.specs.declared.step.StepIn.{StepIn}
use Rattle.util_syntax.specs.Items.{ItemView, StatementView, fault, statement}
use Rattle.util_syntax.specs.Program.{no_dd_item, statements_in, syntax_item, sysin}
use Rattle.util_syntax.specs.Step.{same_name}

-- the item of a statement, or of the fault of one
abbrev pub statement_item : (Shelf → StatementView → Item) → Shelf → ItemView → Item
statement_item item_of shelf (fault card column kind) = syntax_item card kind
statement_item item_of shelf (statement s) = item_of shelf s

-- the items of statements, one after another, or that SYSIN isn't there
abbrev pub items_if : (Shelf → StatementView → Item) → ℕ → Shelf → Option (List ItemView) → List Item
items_if item_of card shelf None = no_dd_item card sysin ∷ []
items_if item_of card shelf (Some statements) = items_along (statement_item item_of) shelf statements

-- the items of a step
unfoldable pub program_items : (Shelf → StatementView → Item) → StepIn → Shelf → List Item
program_items item_of step shelf = items_if item_of step.card shelf (statements_in (lookup (same_name sysin) step.dds))
