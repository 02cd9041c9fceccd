use Rattle.std.proofs.Common.{Bool, sym, ◌∙◌, ap}
use Rattle.util_steps.proofs.Taking.{runs_as}
use Rattle.output_files.specs.Outputs.{set_in}
use Rattle.iebupdte_util.specs.Items.{cards_in, is_new, old_in}
use Rattle.iebupdte_util.proofs.RunLemmas.{all_there, no_old, no_output, no_sysin}
use Rattle.iebupdte_util.proofs.program.run.Goals as goal

pub returns-in_default : goal.returns-in_default
returns-in_default g c = runs_as g.M.Machine (λ shelf. sym (no_sysin c.args.step.now shelf (c.in_default.ensures ∙ ap cards_in c.get.ensures))) c.end_without_dd.ensures

pub returns-in_default-set_in : goal.returns-in_default-set_in
returns-in_default-set_in g c =
    runs_as g.M.Machine (λ shelf. sym (no_output c.args.step.now shelf c.in-Some.cards.now (c.in-Some.ensures ∙ ap cards_in c.get.ensures) (c.in_default-set_in.ensures ∙ ap set_in c.get-2.ensures)))
    c.end_without_dd-in_default-set_in.ensures

pub returns-in_default-old_in : goal.returns-in_default-old_in
returns-in_default-old_in g c =
    runs_as g.M.Machine
    (λ shelf.
    sym (no_old c.args.step.now shelf c.in-Some.cards.now (c.in-Some.ensures ∙ ap cards_in c.get.ensures) c.in-Some-set_in.out (c.in-Some-set_in.ensures ∙ ap set_in c.get-2.ensures)
    (c.in_default-old_in.ensures ∙ ap (λ (b : Bool). old_in b c.set_in-dd.result) c.is_new-fresh.ensures ∙ ap (old_in (is_new c.args.step.now)) (c.set_in-dd.ensures ∙ ap set_in c.get-3.ensures))))
    c.end_without_dd-in_default-old_in.ensures

pub returns : goal.returns
returns g c =
    runs_as g.M.Machine
    (λ shelf.
    sym (all_there c.args.step.now shelf c.in-Some.cards.now (c.in-Some.ensures ∙ ap cards_in c.get.ensures) c.in-Some-set_in.out (c.in-Some-set_in.ensures ∙ ap set_in c.get-2.ensures) c.in-Some-old_in.old
    (c.in-Some-old_in.ensures ∙ ap (λ (b : Bool). old_in b c.set_in-dd.result) c.is_new-fresh.ensures ∙ ap (old_in (is_new c.args.step.now)) (c.set_in-dd.ensures ∙ ap set_in c.get-3.ensures))))
    c.run_cards.ensures
