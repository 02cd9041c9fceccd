-- The jobs of a deck (this project's profile).
use Rattle.std.specs.Prelude.{ℕ, nat_eq, Bool, true, false, not, if◌then◌else◌, List, [], ◌∷◌, ◌++◌, map, flat_map, find, Option, Some, None, Result, Ok, Err}
use Rattle.std.specs.List.{list_any, before_first}
use Rattle.std.specs.Option.{option_map_or, option_or}
use Rattle.std.specs.Cmp.Lexicographic.{pointwise}
use Rattle.ebcdic_names.specs.declared.names.Name8.{Name8}
use Rattle.card_text.specs.declared.cards.Card.{Card}
use Rattle.card_text.specs.Names.{name_of}
use Rattle.job_deck.specs.Deck.{cards_of, begins_job, divides, begins_step, begins_statement, groups, continuation, cards_behind, is_comment_card, data_of, behind_data}
use Rattle.job_deck.specs.Faults.{fault_at, earliest, first_some, unless, and_then, with_first_fault}
use Rattle.job_deck.specs.Statements.{statement, name_on, blank_name, name_or_blank, column_of, name_faults, operation_fault}
use Rattle.job_deck.specs.Pieces.{balance_fault, pieces, continuation_faults}
use Rattle.job_deck.specs.ExecOperands.{program_of}
use Rattle.job_deck.specs.DdOperands.{dd_form_of, set_of}
use Rattle.job_deck.specs.Taken.{new_catalog_faults}
use Rattle.job_deck.specs.declared.deck.DeckCard.{DeckCard}
use Rattle.job_deck.specs.declared.deck.Role.{Role}
use Rattle.job_deck.specs.declared.deck.Role.TheVariants as role
use Rattle.job_deck.specs.declared.faults.JclErr.{JclErr}
use Rattle.job_deck.specs.declared.faults.JclKind.TheVariants.{NoJob, Stray, DuplicateDd}
use Rattle.job_deck.specs.declared.job.Job.{Job}
use Rattle.job_deck.specs.declared.job.Step.{Step}
use Rattle.job_deck.specs.declared.job.Dd.{Dd}
use Rattle.job_deck.specs.declared.job.DdWhat.{DdWhat}
use Rattle.job_deck.specs.declared.job.DdWhat.TheVariants as what
use Rattle.job_deck.specs.declared.statements.Operation.TheVariants as operation
use Rattle.job_deck.specs.declared.statements.Statement.{Statement}
use Rattle.job_deck.specs.declared.exec_operands.Program.{Program}
use Rattle.job_deck.specs.declared.dd_operands.DdForm.{DdForm}
use Rattle.job_deck.specs.declared.dd_operands.DdForm.TheVariants as form
use Rattle.job_deck.specs.declared.dd_operands.DdOperands.{DdOperands}

-- the fault of cards that are no JCL and that no DD takes
abbrev pub stray_fault : List DeckCard → Option JclErr
stray_fault [] = None
stray_fault (card ∷ cards) = Some (fault_at (column_of card.card 1) Stray)

-- what is read of a statement with such cards after it
abbrev pub without_stray : {X : Type 0} → List DeckCard → Result X JclErr → Result X JclErr
without_stray cards read = and_then (λ value. unless (stray_fault cards) (Ok value)) read

-- the statement that begins on a card, with those of the cards after it that continue it
abbrev pub statement_on : DeckCard → List DeckCard → Statement
statement_on first others = statement first.card (continuation others)

-- the first fault of a statement that has no operation, or none that is taken
unfoldable pub wrong_operation : Statement → Option JclErr
wrong_operation s = earliest None (name_faults false s ++ operation_fault s ∷ [])

-- the first fault of a JOB, whose operands are read for their balance and their continuation alone
unfoldable pub job_fault : Statement → Option JclErr
job_fault s =
    earliest None (name_faults true s ++ option_map_or (λ fault. fault ∷ []) (balance_fault (pieces s.operands)) [] ++ continuation_faults s.operands)

-- the first fault of a statement in front of the first EXEC, which is a comment or a fault
abbrev pub early_fault : DeckCard → List DeckCard → Role → Option JclErr
early_fault first others role.Comment = stray_fault others
early_fault first others (role.Statement operation.Dd) = Some (fault_at (column_of first.card 1) Stray)
early_fault first others _ = wrong_operation (statement_on first others)

-- the first fault in front of the first EXEC
unfoldable pub head_fault : DeckCard → List DeckCard → Option JclErr
head_fault job others =
    let own = before_first begins_statement others in
    option_or (job_fault (statement_on job own))
    (option_or (stray_fault (cards_behind own))
    (first_some (map (λ s. early_fault s.0 s.1 s.0.role) (groups begins_statement others))))

abbrev pub step_with : Statement → Result Program JclErr → Result Step JclErr
step_with s (Err fault) = Err fault
step_with s (Ok program) = Ok (record { name = name_of s.name; card = s.card.0; pgm = program.pgm; parm = program.parm; dds = [] })

-- the step of an EXEC, without its DDs
unfoldable pub exec : Statement → Result Step JclErr
exec s = step_with s (with_first_fault (earliest None (name_faults false s)) (program_of s.operands))

abbrev pub same_name : Name8 → Name8 → Bool
same_name name other = pointwise nat_eq name.bytes other.bytes

-- whether one of these DDs has the name
abbrev pub has_dd : List Dd → Name8 → Bool
has_dd dds name = list_any (λ dd. same_name dd.name name) dds

-- the fault of a DD whose name an earlier DD of the step has
abbrev pub duplicate_faults : List Dd → Statement → Option Name8 → List JclErr
duplicate_faults earlier s None = []
duplicate_faults earlier s (Some name) = if has_dd earlier name then fault_at (column_of s.card 3) DuplicateDd ∷ [] else []

abbrev pub what_of_operands : DdOperands → DdWhat
what_of_operands operands = option_map_or (λ named. what.Set (set_of operands named)) operands.dsn what.Dummy

-- what a form defines: the data of a DD * are cards after the statement
abbrev pub what_of : DdForm → List DeckCard → DdWhat
what_of form.Cards behind = what.Cards (map (λ card. card.card) (data_of behind))
what_of form.Sysout behind = what.Sysout
what_of (form.Keyed operands) behind = what_of_operands operands
what_of form.Dummy behind = what.Dummy
what_of form.Empty behind = what.Dummy

-- the cards after a DD that it doesn't take
abbrev pub left_by : DdForm → List DeckCard → List DeckCard
left_by form.Cards behind = behind_data behind
left_by form.Sysout behind = behind
left_by (form.Keyed operands) behind = behind
left_by form.Dummy behind = behind
left_by form.Empty behind = behind

abbrev pub dd_with : Statement → List DeckCard → Result DdForm JclErr → Result Dd JclErr
dd_with s behind (Err fault) = Err fault
dd_with s behind (Ok form) =
    without_stray (left_by form behind) (Ok (record { name = name_or_blank s.name; card = s.card.0; what = what_of form behind }))

-- a DD, after the earlier ones of its step
unfoldable pub dd_of : List ℕ → List Dd → DeckCard → List DeckCard → Result Dd JclErr
dd_of date earlier first others =
    let s = statement_on first others in
    dd_with s (cards_behind others)
    (with_first_fault (earliest None (duplicate_faults earlier s (name_of s.name) ++ name_faults true s ++ new_catalog_faults (pieces s.operands))) (dd_form_of date s.operands))

-- the DDs of a step with what a further statement adds
abbrev pub with_statement : List ℕ → List Dd → DeckCard → List DeckCard → Role → Result (List Dd) JclErr
with_statement date dds first others role.Comment = without_stray others (Ok dds)
with_statement date dds first others (role.Statement operation.Dd) = and_then (λ dd. Ok (dds ++ dd ∷ [])) (dd_of date dds first others)
with_statement date dds first others _ = unless (wrong_operation (statement_on first others)) (Ok dds)

-- the DDs of a step with those of further statements, or the first fault
unfoldable pub with_statements : List ℕ → List Dd → List (DeckCard × List DeckCard) → Result (List Dd) JclErr
with_statements date dds [] = Ok dds
with_statements date dds (s ∷ others) = and_then (λ more. with_statements date more others) (with_statement date dds s.0 s.1 s.0.role)

-- a step: its EXEC and the statements after it
unfoldable pub step_of : List ℕ → DeckCard → List DeckCard → Result Step JclErr
step_of date first others =
    let own = before_first begins_statement others in
    and_then (λ step. and_then (λ dds. Ok (record step { dds = dds })) (with_statements date [] (groups begins_statement others)))
    (without_stray (cards_behind own) (exec (statement_on first own)))

abbrev pub in_front : Step → Result (List Step) JclErr → Result (List Step) JclErr
in_front step (Err fault) = Err fault
in_front step (Ok others) = Ok (step ∷ others)

-- the steps, of which each is read, or the first fault
abbrev pub all_steps : List (Result Step JclErr) → Result (List Step) JclErr
all_steps [] = Ok []
all_steps (step ∷ others) = and_then (λ s. in_front s (all_steps others)) step

-- the steps of a job, or its first fault
unfoldable pub steps_of : List ℕ → DeckCard → List DeckCard → Result (List Step) JclErr
steps_of date job others =
    unless (head_fault job (before_first begins_step others))
    (all_steps (map (λ s. step_of date s.0 s.1) (groups begins_step others)))

-- a job: its JOB and the cards up to the next JOB or null statement
unfoldable pub job_of : List ℕ → DeckCard → List DeckCard → Job
job_of date job others =
    record { name = name_or_blank (name_on job.card); card = job.card.0; steps = steps_of date job others }

-- the first of cards in no job that is no comment makes a refused job of a blank name
unfoldable pub outside : List DeckCard → List Job
outside cards =
    option_map_or (λ card. record { name = blank_name; card = card.card.0; steps = Err (fault_at (column_of card.card 1) NoJob) } ∷ [])
    (find (λ card. not (is_comment_card card)) cards) []

-- what a JOB or a null statement begins: a job, or cards in no job
abbrev pub jobs_behind : List ℕ → DeckCard → List DeckCard → List Job
jobs_behind date first others = if begins_job first then job_of date first others ∷ [] else outside others

-- the jobs of cards, which JOB and null statements divide
abbrev pub divided : List ℕ → List DeckCard → List Job
divided date cards = outside (before_first divides cards) ++ flat_map (λ part. jobs_behind date part.0 part.1) (groups divides cards)

-- the jobs of a deck on a date
unfoldable pub jobs_of : List ℕ → List Card → List Job
jobs_of date deck = divided date (cards_of 1 [] deck)
