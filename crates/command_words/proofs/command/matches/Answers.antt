use Rattle.std.proofs.Common.{◌≡◌, true, false, ap, sym, ◌∙◌, List, inl, inr, refl, map, string_bytes}
use Rattle.clap.specs.Words.{App, fault_of, is_simple, is_simple_and_free, matches_of}
use Rattle.clap.specs.declared.error.ErrorKind.{ErrorKind}
use Rattle.clap.specs.declared.error.ErrorKind.TheVariants.{OutOfMemory}
use Rattle.clap.proofs.OnLiterals.{clap_on_literals}
use Rattle.command_words.specs.Command.{are_taken, command, is_faultless, rows_given}
use Rattle.command_words.proofs.KindLemmas.{some_kinds}
use Rattle.command_words.proofs.command.matches.Goals as goal

simple : is_simple command ≡ true
unfolding clap_on_literals
simple = refl

free : is_simple_and_free command ≡ true
unfolding clap_on_literals
free = refl

pub returns-in-Ok-try_get_matches_from-clause-rows : goal.returns-in-Ok-try_get_matches_from-clause-rows
unfolding rows_given
returns-in-Ok-try_get_matches_from-clause-rows c =
    (c.in-Ok-try_get_matches_from.ensures.matches (ap (λ (a : App). is_simple a) c.in-Ok.ensures ∙ simple)).0 ∙ ap (λ (a : App). matches_of a (map string_bytes c.args.words.now)) c.in-Ok.ensures

pub returns-in-Ok-try_get_matches_from-clause-taken : goal.returns-in-Ok-try_get_matches_from-clause-taken
unfolding are_taken
returns-in-Ok-try_get_matches_from-clause-taken c =
    ap (λ (a : App). is_faultless (fault_of a (map string_bytes c.args.words.now))) (sym c.in-Ok.ensures)
    ∙ ap (λ (ks : List ErrorKind). is_faultless ks) (c.in-Ok-try_get_matches_from.ensures.kinds (ap (λ (a : App). is_simple_and_free a) c.in-Ok.ensures ∙ free))

pub returns-clause-refused : goal.returns-clause-refused
unfolding are_taken
returns-clause-refused c is =
    ap (λ (a : App). is_faultless (fault_of a (map string_bytes c.args.words.now))) (sym c.in-Ok.ensures)
    ∙ elim (c.in-Err.ensures.kinds (ap (λ (a : App). is_simple_and_free a) c.in-Ok.ensures ∙ free)) [
      | inl memory ↦ absurd (c.in_default-cause.not-OutOfMemory (c.kind-cause.ensures ∙ memory))
      | inr among ↦ some_kinds _ _ among
    ]
