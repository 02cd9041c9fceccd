use Rattle.std.proofs.Common.{◌∙◌, ap, List, ℕ, ◌++◌}
use Rattle.job_runner.proofs.LineLemmas.{hyphen_for, none_of, on_ok, shown_for, some_of}
use Rattle.ebcdic_names.specs.Names.{without_blanks}
use Rattle.job_runner.proofs.lines.push_shown.Goals as goal

pub returns-then-is_empty : goal.returns-then-is_empty
returns-then-is_empty c =
    on_ok c.push_hyphen.result (λ added. added ∙ ap (λ (l : List ℕ). c.args.line.now.items ++ l) (hyphen_for c.args.name.now (none_of c.without_blanks.result.now (without_blanks c.args.name.now.bytes) c.is_empty.result c.is_empty.ensures c.without_blanks.ensures.name c.if-is_empty.true))) c.push_hyphen.ensures

pub returns-else-is_empty : goal.returns-else-is_empty
returns-else-is_empty c =
    on_ok c.push_name_in_ascii.result (λ added. added ∙ ap (λ (l : List ℕ). c.args.line.now.items ++ l) (shown_for c.args.name.now (some_of c.without_blanks.result.now (without_blanks c.args.name.now.bytes) c.is_empty.result c.is_empty.ensures c.without_blanks.ensures.name c.if-is_empty.false))) c.push_name_in_ascii.ensures.added
