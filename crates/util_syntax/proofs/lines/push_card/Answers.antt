use Rattle.std.proofs.Common.{◌≡◌, ◌∙◌, ℕ, ◌-◌, List, ◌++◌, length, replicate, ap, append_assoc, arith}
use Rattle.std.specs.Fmt.{decimal}
use Rattle.std.proofs.lemmas.Grind.{common_steps}
use Rattle.std.proofs.lemmas.List.{take-replicate}
use Rattle.util_syntax.specs.Lines.{card_number}
use Rattle.util_syntax.proofs.lines.push_card.Goals as goal

pub returns : goal.returns
unfolding card_number
returns c =
    let text = c.format-digits.ensures.text in
    let count : c.saturating_sub.result ≡ 5 - length (decimal c.args.card) = c.saturating_sub.ensures ∙ ap (λ (l : List ℕ). 5 - length l) text in
    let front : c.extend_from_slice.new.self.items ≡ c.args.line.now.items ++ replicate {A = ℕ} (5 - length (decimal c.args.card)) 48 =
    c.in_ok-extend_from_slice.ensures.items ∙ ap (λ (l : List ℕ). c.args.line.now.items ++ l) (take-replicate c.saturating_sub.result 5 48 (omega arith) ∙ ap (λ (n : ℕ). replicate {A = ℕ} n 48) count) in
    grind (arith, common_steps, append_assoc)
