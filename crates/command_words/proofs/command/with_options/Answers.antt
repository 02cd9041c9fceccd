use Rattle.std.proofs.Common.{ap₂, ◌∙◌}
use Rattle.std.proofs.lemmas.Result.{IfOk-weaker}
use Rattle.clap.specs.Words.{with_rule}
use Rattle.command_words.proofs.command.with_options.Goals as goal

pub returns : goal.returns
returns c = IfOk-weaker c.arg-7.result _ _ (λ r adds. adds.shape c.option-6.ensures.plain ∙ ap₂ with_rule (
    c.in_ok-command-6.ensures.shape c.option-5.ensures.plain ∙ ap₂ with_rule (
    c.in_ok-command-5.ensures.shape c.option-4.ensures.plain ∙ ap₂ with_rule (
    c.in_ok-command-4.ensures.shape c.option-3.ensures.plain ∙ ap₂ with_rule (
    c.in_ok-command-3.ensures.shape c.option-2.ensures.plain ∙ ap₂ with_rule (
    c.in_ok-command-2.ensures.shape c.option.ensures.plain ∙ ap₂ with_rule (
    c.in_ok-command.ensures.shape c.action.ensures.plain ∙ ap₂ with_rule c.bare_command.ensures c.action.ensures.rule) c.option.ensures.rule) c.option-2.ensures.rule) c.option-3.ensures.rule) c.option-4.ensures.rule) c.option-5.ensures.rule) c.option-6.ensures.rule) c.arg-7.ensures
