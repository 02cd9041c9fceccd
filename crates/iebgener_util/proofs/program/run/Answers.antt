use Rattle.std.proofs.Common.{List, [], map, Some, None, refl, sym, ◌∙◌, ap}
use Rattle.util_steps.proofs.Taking.{runs_as}
use Rattle.util_syntax.specs.Items.{item_view}
use Rattle.util_syntax.specs.declared.items.Item.{Item as Read}
use Rattle.record_files.specs.Inputs.{input_view}
use Rattle.output_files.specs.Outputs.{set_in}
use Rattle.iebgener_util.specs.Items.{input_in, order_items}
use Rattle.iebgener_util.specs.declared.orders.State.TheVariants.{Begun}
use Rattle.iebgener_util.specs.Orders.{orders_of}
use Rattle.iebgener_util.proofs.StepLemmas.{all_there, no_input, no_output, no_sysin}
use Rattle.iebgener_util.proofs.program.run.Goals as goal

pub returns-in_default : goal.returns-in_default
returns-in_default g c = runs_as g.M.Machine (λ shelf. sym (no_sysin c.args.step.now shelf None (rw c.in_default.is at c.in_ok-statements.ensures) refl)) c.end_without_dd.ensures

pub returns-in_default-input_in : goal.returns-in_default-input_in
returns-in_default-input_in g c =
    let xs = map item_view c.in-Some.statements.items in
    runs_as g.M.Machine (λ shelf. sym (no_input c.args.step.now shelf (Some xs) (rw c.in-Some.is at c.in_ok-statements.ensures) xs refl (c.in_default-input_in.ensures ∙ ap input_in c.get.ensures))) c.end_without_dd-in_default-input_in.ensures

pub returns-in_default-set_in : goal.returns-in_default-set_in
returns-in_default-set_in g c =
    let xs = map item_view c.in-Some.statements.items in
    runs_as g.M.Machine
    (λ shelf. sym (no_output c.args.step.now shelf (Some xs) (rw c.in-Some.is at c.in_ok-statements.ensures) xs refl (input_view c.in-Some-input_in.input) (c.in-Some-input_in.ensures ∙ ap input_in c.get.ensures) (c.in_default-set_in.ensures ∙ ap set_in c.get-2.ensures)))
    c.end_without_dd-in_default-set_in.ensures

pub returns : goal.returns
returns g c =
    let xs = map item_view c.in-Some.statements.items in
    let input = input_view c.in-Some-input_in.input in
    let output = c.in-Some-set_in.output in
    runs_as g.M.Machine
    (λ shelf.
    sym (ap (λ (l : List Read). order_items input output [] shelf (orders_of c.args.step.now.card (Begun None) (map item_view l))) c.deref.ensures.value
    ∙ all_there c.args.step.now shelf (Some xs) (rw c.in-Some.is at c.in_ok-statements.ensures) xs refl input output (c.in-Some-input_in.ensures ∙ ap input_in c.get.ensures) (c.in-Some-set_in.ensures ∙ ap set_in c.get-2.ensures)))
    c.run_statements.ensures
