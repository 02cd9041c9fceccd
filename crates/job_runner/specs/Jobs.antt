-- Jobs and their steps, in this project's profile.
use Rattle.std.specs.Prelude.{ℕ, ◌+◌, Bool, true, false, List, [], ◌∷◌, ◌++◌, codes, Option, Some, None, Result, Ok, Err, if◌then◌else◌}
use Rattle.job_deck.specs.declared.faults.JclErr.{JclErr}
use Rattle.job_deck.specs.declared.job.Dd.{Dd}
use Rattle.job_deck.specs.declared.job.Job.{Job}
use Rattle.job_deck.specs.declared.job.Step.{Step}
use Rattle.util_syntax.specs.declared.step.DdIn.{DdIn}
use Rattle.util_syntax.specs.declared.step.StepIn.{StepIn}
use Rattle.util_syntax.specs.Listing.{jcl_line, named_line}
use Rattle.vol_model.specs.declared.contents.Shelf.{Shelf}
use Rattle.vol_model.specs.Events.{Item}
use Rattle.job_runner.specs.declared.programs.Program.{Program}
use Rattle.job_runner.specs.DataSets.{Definitions, definitions, table_of}
use Rattle.job_runner.specs.Dispositions.{dispositions}
use Rattle.job_runner.specs.Lines.{code_line, job_line, kind_words, step_line}
use Rattle.job_runner.specs.Parts.{and_next, behind_items, framed, says}
use Rattle.job_runner.specs.Programs.{program_items, program_named}

-- the step that a program runs in, with the DDs that aren't refused
unfoldable pub step_in : List ℕ → Step → List (Dd × DdIn) → StepIn
step_in date step dds = record { pgm = step.pgm; parm = step.parm; card = step.card; date = date; dds = table_of dds }

-- the program of a step, unless a DD is refused
abbrev pub program_unless : Bool → Program → StepIn → Shelf → List Item
program_unless true program step shelf = []
program_unless false program step shelf = program_items program step shelf

-- what stands after the DDs of a step: its program and its dispositions
unfoldable pub behind_definitions : List ℕ → Program → Step → Definitions → Shelf → List Item
behind_definitions date program step defs shelf =
    and_next shelf (program_unless defs.is_refused program (step_in date step defs.dds) shelf) (dispositions date defs.dds)

-- a step of a program: its DDs, the program, unless a DD is refused, and the dispositions
unfoldable pub program_step : List ℕ → Program → Step → Shelf → List Item
program_step date program step shelf =
    let defs = definitions date step.dds shelf in
    and_next shelf defs.items (behind_definitions date program step defs)

abbrev pub step_body_of : List ℕ → Step → Shelf → Option Program → List Item
step_body_of date step shelf None = says 16 (named_line step.card (codes "NO-PROGRAM") step.pgm) ∷ []
step_body_of date step shelf (Some program) = program_step date program step shelf

-- what stands between the lines of a step; of a program that isn't known no DD is looked at
unfoldable pub step_body : List ℕ → Step → Shelf → List Item
step_body date step shelf = step_body_of date step shelf (program_named step.pgm)

-- a step with its lines
unfoldable pub step_items : List ℕ → Step → Shelf → List Item
step_items date step shelf = framed (step_line step.name step.pgm) (code_line (codes "STEP") step.name) (step_body date step shelf)

abbrev pub has_refused : List ℕ → Step → Shelf → Option Program → Bool
has_refused date step shelf None = false
has_refused date step shelf (Some program) = (definitions date step.dds shelf).is_refused

-- a DD of the step is refused, which ends its job
unfoldable pub ends_job : List ℕ → Step → Shelf → Bool
ends_job date step shelf = has_refused date step shelf (program_named step.pgm)

-- What steps or jobs come to: their items, and how many steps begin.
pub record Work : Type 0 where
  pub items : List Item
  pub steps : ℕ

abbrev pub no_work : Work
no_work = record { items = []; steps = 0 }

-- some work, and then more on the shelf after it
abbrev pub work_then : Shelf → Work → (Shelf → Work) → Work
work_then shelf first next =
    let rest = next (behind_items shelf first.items) in
    record { items = first.items ++ rest.items; steps = first.steps + rest.steps }

-- a step as work
abbrev pub step_work : List ℕ → Step → Shelf → Work
step_work date step shelf = record { items = step_items date step shelf; steps = 1 }

-- steps in order, up to one with a refused DD
unfoldable pub steps_work : List ℕ → List Step → Shelf → Work
steps_work date [] shelf = no_work
steps_work date (step ∷ steps) shelf =
    work_then shelf (step_work date step shelf) (λ s. if ends_job date step shelf then no_work else steps_work date steps s)

-- what stands between the lines of a job: its steps, or its fault
abbrev pub body_work : List ℕ → Result (List Step) JclErr → Shelf → Work
body_work date (Ok steps) shelf = steps_work date steps shelf
body_work date (Err e) shelf = record { items = says 16 (jcl_line e.card e.column (kind_words e.kind)) ∷ []; steps = 0 }

-- a job with its lines
unfoldable pub job_work : List ℕ → Job → Shelf → Work
job_work date job shelf =
    let body = body_work date job.steps shelf in
    record { items = framed (job_line job.name) (code_line (codes "JOB") (Some job.name)) body.items; steps = body.steps }

-- Jobs in order, on the date of the run.
unfoldable pub jobs_work : List ℕ → List Job → Shelf → Work
jobs_work date [] shelf = no_work
jobs_work date (job ∷ jobs) shelf = work_then shelf (job_work date job shelf) (jobs_work date jobs)
