-- The text of what is printed for a line.
use Rattle.std.proofs.Common.{◌≡◌, ℕ, ◌-◌, List, [], ◌∷◌, length, take, arith, length-append, ◌∙◌, ap}
use Rattle.std.proofs.Math.Seq.{take-append_seam}
use Rattle.vol_model.specs.Printed.{printed_line, text_of}

pub text_of_printed : (text : List ℕ) → text_of (printed_line text) ≡ text
unfolding printed_line
text_of_printed text =
    let long : length (printed_line text) - 1 ≡ length text = omega (arith, length-append text (10 ∷ [])) in
    ap (λ (n : ℕ). take n (printed_line text)) long ∙ take-append_seam text (10 ∷ [])
