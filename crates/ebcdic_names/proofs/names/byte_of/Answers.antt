use Rattle.std.proofs.Common.{sym, ap, ◌∙◌, arith}
use Rattle.std.specs.Prelude.{unwrap_or}
use Rattle.ebcdic_names.specs.Names.{byte_of}
use Rattle.ebcdic_names.proofs.CodeLemmas.{none_high}
use Rattle.ebcdic_names.proofs.names.byte_of.Goals as goal

pub returns-then-c-gt126 : goal.returns-then-c-gt126
unfolding byte_of
returns-then-c-gt126 c = sym (ap (λ o. unwrap_or o 64) (none_high c.args.c (omega arith)))

pub returns : goal.returns
unfolding byte_of
returns c = c.unwrap_or.ensures ∙ ap (λ o. unwrap_or o 64) c.to_ebcdic.ensures
