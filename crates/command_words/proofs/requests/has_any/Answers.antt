use Rattle.std.proofs.Common.{◌∙◌}
use Rattle.command_words.proofs.OptionLemmas.{any_given}
use Rattle.command_words.proofs.requests.has_any.Goals as goal

pub returns : goal.returns
returns c = c.holds_some.ensures ∙ any_given c.args.options.now
