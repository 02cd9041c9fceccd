-- The table is the code page's.
use Rattle.std.proofs.Common.{◌≡◌, ◌-◌, get_or, sym, ap, ◌∙◌, arith}
use Rattle.std.specs.Prelude.{Some}
use Rattle.ebcdic_names.specs.CodePage.{code_page}
use Rattle.ebcdic_names.proofs.CodeLemmas.{none_low, none_high, some_byte}
use Rattle.ebcdic_names.proofs.to_ebcdic.Goals as goal

pub returns-then-c-lt32 : goal.returns-then-c-lt32
returns-then-c-lt32 c = sym (none_low c.args.c (omega arith))

pub returns-then-c-gt126 : goal.returns-then-c-gt126
returns-then-c-gt126 c = sym (none_high c.args.c (omega arith))

pub returns : goal.returns
unfolding code_page
returns c =
    let k : c.from.result ≡ c.args.c - 32 = omega (arith, c.from.ensures) in
    ap (λ i. Some (get_or code_page i 0)) k ∙ sym (some_byte c.args.c (omega arith) (omega arith))
