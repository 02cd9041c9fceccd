use Rattle.std.proofs.Common.{◌≡◌, ◌≤◌, ◌∙◌, ℕ, ◌-◌, length, replicate, take, ap, append_assoc, arith}
use Rattle.std.proofs.lemmas.Grind.{common_steps}
use Rattle.std.proofs.lemmas.List.{take-replicate}
use Rattle.iehlist_util.specs.Lines.{left_in}
use Rattle.iehlist_util.proofs.lines.push_left.Goals as goal

pub returns : goal.returns
unfolding left_in
returns c =
    let low : c.saturating_sub.result ≤ 44 = omega (arith, c.requires, c.saturating_sub.ensures) in
    let blanks : take c.saturating_sub.result (replicate {A = ℕ} 44 32) ≡ replicate {A = ℕ} (c.args.columns - length c.args.text.now) 32 =
    take-replicate c.saturating_sub.result 44 32 low ∙ ap (λ (n : ℕ). replicate {A = ℕ} n 32) c.saturating_sub.ensures in
    grind (arith, common_steps, append_assoc)
