-- The steps of a job, read one after another.
use Rattle.std.proofs.Common.{◌≡◌, ◌∙◌, ℕ, List, [], ◌∷◌, ◌++◌, map, Result, Ok, Err, refl, ap, sym, append_assoc, append-nil}
use Rattle.job_deck.specs.Faults.{and_then}
use Rattle.job_deck.specs.Jobs.{in_front, all_steps, step_of}
use Rattle.job_deck.specs.declared.deck.DeckCard.{DeckCard}
use Rattle.job_deck.specs.declared.faults.JclErr.{JclErr}
use Rattle.job_deck.specs.declared.job.Step.{Step}

-- steps with those of further cards, or the first fault
unfoldable pub with_steps : List ℕ → List Step → List (DeckCard × List DeckCard) → Result (List Step) JclErr
with_steps date steps [] = Ok steps
with_steps date steps (s ∷ others) = and_then (λ step. with_steps date (steps ++ step ∷ []) others) (step_of date s.0 s.1)

abbrev steps_and : List Step → Result (List Step) JclErr → Result (List Step) JclErr
steps_and steps (Err fault) = Err fault
steps_and steps (Ok more) = Ok (steps ++ more)

and_next : (steps : List Step) (step : Step) (read : Result (List Step) JclErr)
    → steps_and (steps ++ step ∷ []) read ≡ steps_and steps (in_front step read)
and_next steps step (Err fault) = refl
and_next steps step (Ok more) = ap Ok (append_assoc steps (step ∷ []) more)

none_and : (read : Result (List Step) JclErr) → steps_and [] read ≡ read
none_and (Err fault) = refl
none_and (Ok more) = refl

with_steps_and : (date : List ℕ) (steps : List Step) (groups : List (DeckCard × List DeckCard))
    → with_steps date steps groups ≡ steps_and steps (all_steps (map (λ s. step_of date s.0 s.1) groups))
unfolding with_steps
with_steps_and date steps [] = ap Ok (sym (append-nil steps))
with_steps_and date steps (s ∷ others) =
    let rest = all_steps (map (λ (s : DeckCard × List DeckCard). step_of date s.0 s.1) others) in
    elim (step_of date s.0 s.1)
    as (λ read. and_then (λ step. with_steps date (steps ++ step ∷ []) others) read ≡ steps_and steps (and_then (λ step. in_front step rest) read))
    [ Err fault ↦ refl | Ok step ↦ with_steps_and date (steps ++ step ∷ []) others ∙ and_next steps step rest ]

pub with_steps-none : (date : List ℕ) (groups : List (DeckCard × List DeckCard))
    → with_steps date [] groups ≡ all_steps (map (λ s. step_of date s.0 s.1) groups)
with_steps-none date groups = with_steps_and date [] groups ∙ none_and (all_steps (map (λ s. step_of date s.0 s.1) groups))

pub ruleset steps_read = (with_steps-none)
