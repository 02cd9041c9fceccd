use Rattle.std.proofs.Common.{◌∙◌, ap, List, ℕ, ◌++◌}
use Rattle.job_runner.specs.Lines.{code_digits}
use Rattle.job_runner.proofs.LineLemmas.{code_parts, extended}
use Rattle.job_runner.proofs.lines.push_code.Goals as goal

pub returns : goal.returns
returns c =
    let line = c.args.line.now.items in
    let front = c.extend_from_slice.new.self.items in
    extended c.extend_from_slice-2.result c.extend_from_slice-2.new.self.items front c.as_bytes.result.now (line ++ code_digits c.args.code) c.extend_from_slice-2.ensures.items
    (ap (λ (l : List ℕ). front ++ l) c.as_bytes.ensures.value ∙ code_parts line front c.format-digits.result.now c.args.code c.saturating_sub.result c.format-digits.ensures.text c.saturating_sub.ensures c.in_ok-extend_from_slice.ensures.items)
