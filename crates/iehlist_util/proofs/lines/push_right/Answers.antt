use Rattle.std.proofs.Common.{◌≡◌, ◌≤◌, ◌∙◌, ℕ, ◌-◌, List, ◌++◌, length, replicate, ap, append_assoc, arith}
use Rattle.std.specs.Fmt.{decimal}
use Rattle.std.proofs.lemmas.Grind.{common_steps}
use Rattle.std.proofs.lemmas.List.{take-replicate}
use Rattle.iehlist_util.specs.Lines.{padded_number}
use Rattle.iehlist_util.proofs.lines.push_right.Goals as goal

pub returns : goal.returns
unfolding padded_number
returns c =
    let text = c.format-digits.ensures.text in
    let count : c.saturating_sub.result ≡ c.args.columns - length (decimal c.args.number) = c.saturating_sub.ensures ∙ ap (λ (l : List ℕ). c.args.columns - length l) text in
    let low : c.saturating_sub.result ≤ 44 = omega (arith, c.requires, count) in
    let front : c.extend_from_slice.new.self.items ≡ c.args.line.now.items ++ replicate {A = ℕ} (c.args.columns - length (decimal c.args.number)) 32 =
    c.in_ok-extend_from_slice.ensures.items ∙ ap (λ (l : List ℕ). c.args.line.now.items ++ l) (take-replicate c.saturating_sub.result 44 32 low ∙ ap (λ (n : ℕ). replicate {A = ℕ} n 32) count) in
    grind (arith, common_steps, append_assoc)
