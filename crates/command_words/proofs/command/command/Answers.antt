use Rattle.std.proofs.Common.{ap₂, ◌∙◌}
use Rattle.std.proofs.lemmas.Result.{IfOk-weaker}
use Rattle.clap.specs.Words.{with_rule}
use Rattle.command_words.proofs.command.command.Goals as goal

pub returns : goal.returns
returns c = IfOk-weaker c.arg.result _ _ (λ r adds. adds.shape c.file.ensures.plain ∙ ap₂ with_rule c.in_ok-with_options.ensures c.file.ensures.rule) c.arg.ensures
