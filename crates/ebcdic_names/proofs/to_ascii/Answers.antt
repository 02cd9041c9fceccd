-- The table holds at each byte what the code page says, by computation over all 256.
use Rattle.std.proofs.Common.{◌≡◌, ℕ, ◌<◌, List, get_or, refl, ap, ◌∙◌, arith}
use Rattle.std.specs.Prelude.{map}
use Rattle.std.specs.List.{range_with_len}
use Rattle.std.proofs.lemmas.List.FromFn.{get_or-map-range_with_len}
use Rattle.ebcdic_names.specs.CodePage.{ascii_of, code_page}
use Rattle.ebcdic_names.proofs.to_ascii.Goals as goal

read : (xs : List ℕ) (e : ℕ) → xs ≡ map ascii_of (range_with_len 0 256) → e < 256 → get_or xs e 0 ≡ ascii_of e
read xs e table low = ap (λ (l : List ℕ). get_or l e 0) table ∙ get_or-map-range_with_len ascii_of 0 256 e e 0 low (omega arith)

pub returns : goal.returns
unfolding ascii_of code_page
returns c = read _ c.args.e refl (omega arith)
