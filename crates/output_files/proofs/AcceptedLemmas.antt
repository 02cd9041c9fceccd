-- What is written is accepted.
use Rattle.std.proofs.Common.{Bool, true, false, List, [], ◌∷◌}
use Rattle.std.specs.Prelude.{Option, Some, None, if◌then◌else◌}
use Rattle.ebcdic_names.specs.declared.names.Name8.{Name8}
use Rattle.vol_model.specs.declared.answers.Mode.TheVariants as modes
use Rattle.vol_model.specs.declared.contents.Attr.{Attr}
use Rattle.vol_model.specs.declared.contents.Place.{Place}
use Rattle.vol_model.specs.declared.contents.Shelf.{Shelf}
use Rattle.vol_model.specs.Writing.{did_apply}
use Rattle.util_steps.specs.declared.calls.SetRef.{SetRef}
use Rattle.util_steps.specs.Copying.{refusing}
use Rattle.util_steps.proofs.AcceptedLemmas.{DidAccepted, accepted_refusing, accepted_then}
use Rattle.record_files.specs.Members.{member_start, name_entry}
use Rattle.record_files.specs.Writing.{Coming, appended, rewritten}
use Rattle.record_files.proofs.AcceptedLemmas.{appended_accepted, rewritten_accepted}
use Rattle.output_files.specs.declared.outputs.Output.{Output}
use Rattle.output_files.specs.Members.{MemberNames, did_aliases, did_enter, other_name, own_name, stored}
use Rattle.output_files.specs.Outputs.{write_output}

enter_aliases : (s : Shelf) (to : SetRef) (place : Place) (r : Bool) (names : List Name8) → DidAccepted s (did_aliases s to place r names)
unfolding did_aliases
enter_aliases s to place r [] = tt
enter_aliases s to place r (a ∷ others) = accepted_then s (refusing (did_apply s (name_entry to place (other_name r a)))) (λ x u. did_aliases u to place r others) (accepted_refusing s (name_entry to place (other_name r a))) (λ x u. enter_aliases u to place r others)

enter : (s : Shelf) (to : SetRef) (place : Place) (n : MemberNames) → DidAccepted s (did_enter s to place n)
unfolding did_enter
enter s to place n = accepted_then s (refusing (did_apply s (name_entry to place (own_name n)))) (λ x u. did_aliases u to place n.aliases_replace n.aliases) (accepted_refusing s (name_entry to place (own_name n))) (λ x u. enter_aliases u to place n.aliases_replace n.aliases)

store : (s : Shelf) (to : SetRef) (n : MemberNames) (c : Coming) → DidAccepted s (stored s to n c)
unfolding stored
store s to n c = accepted_then s (appended s to modes.Area c) (λ x u. did_enter u to (member_start s u to c.blocks) n) (appended_accepted s to modes.Area c) (λ x u. enter u to (member_start s u to c.blocks) n)

-- records are written to an output
pub put : (s : Shelf) (out : Output) (names : Option MemberNames) (attr : Attr) (c : Coming) → DidAccepted s (write_output s out names attr c)
put s out (Some n) attr c = store s out.to n c
put s out None attr c = by_disposition out.append
  where
    by_disposition : (b : Bool) → DidAccepted s (if b then appended s out.to modes.Fill c else rewritten s out.to attr c)
    by_disposition true = appended_accepted s out.to modes.Fill c
    by_disposition false = rewritten_accepted s out.to attr c
