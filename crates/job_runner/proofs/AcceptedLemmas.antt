-- All operations of jobs are accepted, each on the shelf on which it stands.
use Rattle.std.proofs.Common.{ℕ, ◌++◌, Bool, true, false, List, [], ◌∷◌}
use Rattle.std.specs.Prelude.{codes, is_some, Option, Some, None, Result, Ok, Err, if◌then◌else◌}
use Rattle.std.specs.List.{filter_map}
use Rattle.std.specs.Option.{option_map_or}
use Rattle.ebcdic_names.specs.declared.names.Dsn.{Dsn}
use Rattle.jcl_forms.specs.declared.disposition.DdStatus.{DdStatus}
use Rattle.jcl_forms.specs.declared.disposition.DdStatus.TheVariants as status
use Rattle.job_deck.specs.declared.faults.JclErr.{JclErr}
use Rattle.job_deck.specs.declared.job.Dd.{Dd}
use Rattle.job_deck.specs.declared.job.DdSet.{DdSet}
use Rattle.job_deck.specs.declared.job.DdWhat.{DdWhat}
use Rattle.job_deck.specs.declared.job.DdWhat.TheVariants as what
use Rattle.job_deck.specs.declared.job.Job.{Job}
use Rattle.job_deck.specs.declared.job.Step.{Step}
use Rattle.vol_model.specs.declared.contents.Shelf.{Shelf}
use Rattle.vol_model.specs.declared.refusals.Refusal.{Refusal}
use Rattle.vol_model.specs.declared.refusals.Refusal.TheVariants.{NoSet}
use Rattle.vol_model.specs.declared.requests.Op.TheVariants.{Scratch}
use Rattle.vol_model.specs.Did.{answered}
use Rattle.vol_model.specs.Events.{Item, code_of}
use Rattle.vol_model.specs.Writing.{did_apply, set_on}
use Rattle.util_steps.specs.Accepted.{AllAccepted}
use Rattle.util_steps.specs.Expiry.{is_unexpired}
use Rattle.util_steps.proofs.AcceptedLemmas.{ItemsAccepted, accepted_along, accepted_append, accepted_apply, accepted_cons, accepted_one}
use Rattle.util_syntax.specs.declared.listing.Object.TheVariants.{Name}
use Rattle.util_syntax.specs.declared.listing.Outcome.TheVariants.{Expires}
use Rattle.util_syntax.specs.declared.step.DdIn.{DdIn}
use Rattle.util_syntax.specs.declared.step.StepIn.{StepIn}
use Rattle.util_syntax.specs.Listing.{item_line, jcl_line, named_line}
use Rattle.job_runner.specs.declared.dispositions.Deletion.{Deletion}
use Rattle.job_runner.specs.declared.new_sets.NewSet.{NewSet}
use Rattle.job_runner.specs.declared.programs.Program.{Program}
use Rattle.job_runner.specs.DataSets.{Definitions, allocation, definitions, found_on, gives, is_mod, looked_for, new_set, new_with, not_there, old_set, operation_item, refuses, resolved, resolved_as, set_by, set_given, wanted, with_first}
use Rattle.job_runner.specs.Dispositions.{deleted, deletion_for, dispositions}
use Rattle.job_runner.specs.Jobs.{behind_definitions, body_work, ends_job, job_work, jobs_work, no_work, program_step, program_unless, step_body, step_body_of, step_in, step_items, steps_work}
use Rattle.job_runner.specs.Lines.{code_line, job_line, kind_words, step_line}
use Rattle.job_runner.specs.Parts.{and_next, behind_items, framed, says}
use Rattle.job_runner.specs.Programs.{program_named}
use Rattle.job_runner.proofs.ProgramLemmas.{program_accepted}

-- items, and then those of a part on the shelf after them
next_accepted : (s : Shelf) (items : List Item) (next : Shelf → List Item) → ItemsAccepted s items → ((u : Shelf) → ItemsAccepted u (next u)) → ItemsAccepted s (and_next s items next)
next_accepted s items next first others = accepted_append s items (next (behind_items s items)) first (others (behind_items s items))

-- items between two lines
framed_accepted : (s : Shelf) (first : List ℕ) (last : ℕ → List ℕ) (items : List Item) → ItemsAccepted s items → ItemsAccepted s (framed first last items)
framed_accepted s first last items all =
    let end = says 0 (last (code_of items)) in
    accepted_cons s (says 0 first) (items ++ end ∷ []) tt (accepted_append s items (end ∷ []) all (accepted_one (behind_items s items) end tt))

-- ---- DDs

refused : (s : Shelf) (word : List ℕ) (card : ℕ) (dsn : Dsn) (r : Refusal) → ItemsAccepted s (refuses word card dsn r).items
refused s word card dsn r = accepted_one s (operation_item card word dsn 12 (answered (Err r))) tt

new_by : (date : List ℕ) (card : ℕ) (set : DdSet) (s : Shelf) (r : Result NewSet Refusal) → ItemsAccepted s (new_with date card set s r).items
new_by date card set s (Err r) = refused s (codes "ALLOCATE") card set.dsn r
new_by date card set s (Ok w) =
    let op = allocation date set w in
    accepted_one s (operation_item card (codes "ALLOCATE") set.dsn 12 (did_apply s op)) (accepted_apply s op)

new : (date : List ℕ) (card : ℕ) (set : DdSet) (s : Shelf) → ItemsAccepted s (new_set date card set s).items
unfolding new_set
new date card set s = new_by date card set s (wanted set s)

missing : (date : List ℕ) (card : ℕ) (set : DdSet) (s : Shelf) → ItemsAccepted s (not_there date card set s).items
missing date card set s = by_status (is_mod set.status)
  where
    by_status : (b : Bool) → ItemsAccepted s (if b then new_set date card set s else refuses (codes "FIND") card set.dsn NoSet).items
    by_status true = new date card set s
    by_status false = refused s (codes "FIND") card set.dsn NoSet

found : (date : List ℕ) (card : ℕ) (set : DdSet) (s : Shelf) (r : Result ℕ Refusal) → ItemsAccepted s (found_on date card set s r).items
found date card set s (Err r) = refused s (codes "FIND") card set.dsn r
found date card set s (Ok v) = by_set (is_some (set_on s v set.dsn.bytes))
  where
    by_set : (b : Bool) → ItemsAccepted s (if b then gives (set_given set v) else not_there date card set s).items
    by_set true = tt
    by_set false = missing date card set s

old : (date : List ℕ) (card : ℕ) (set : DdSet) (s : Shelf) → ItemsAccepted s (old_set date card set s).items
unfolding old_set
old date card set s = found date card set s (looked_for set s)

by_status : (date : List ℕ) (card : ℕ) (set : DdSet) (s : Shelf) (st : DdStatus) → ItemsAccepted s (set_by date card set s st).items
by_status date card set s status.New = new date card set s
by_status date card set s status.Old = old date card set s
by_status date card set s status.Shr = old date card set s
by_status date card set s status.Mod = old date card set s

by_what : (date : List ℕ) (card : ℕ) (s : Shelf) (w : DdWhat) → ItemsAccepted s (resolved_as date card s w).items
by_what date card s what.Dummy = tt
by_what date card s what.Sysout = tt
by_what date card s (what.Cards cards) = tt
by_what date card s (what.Set set) = by_status date card set s set.status

one_dd : (date : List ℕ) (dd : Dd) (s : Shelf) → ItemsAccepted s (resolved date dd s).items
unfolding resolved
one_dd date dd s = by_what date dd.card s dd.what

first_and : (s : Shelf) (dd : Dd) (items : List Item) (o : Option DdIn) (rest : Definitions) → ItemsAccepted s items → ItemsAccepted (behind_items s items) rest.items → ItemsAccepted s (with_first dd items o rest).items
first_and s dd items None rest first others = first
first_and s dd items (Some given) rest first others = accepted_append s items rest.items first others

all_dds : (date : List ℕ) (dds : List Dd) (s : Shelf) → ItemsAccepted s (definitions date dds s).items
unfolding definitions
all_dds date [] s = tt
all_dds date (dd ∷ dds) s =
    let first = resolved date dd s in
    let after = behind_items s first.items in
    first_and s dd first.items first.dd (definitions date dds after) (one_dd date dd s) (all_dds date dds after)

-- ---- steps

one_deletion : (date : List ℕ) (s : Shelf) (d : Deletion) → AllAccepted s (deleted date s d).operations
unfolding deleted
one_deletion date s d = by_date (option_map_or (is_unexpired date) (set_on s d.v d.dsn.bytes) false)
  where
    by_date : (b : Bool) → AllAccepted s (if b then says 8 (item_line d.card (codes "DELETE") (Name d.dsn) Expires) else operation_item d.card (codes "DELETE") d.dsn 8 (did_apply s (Scratch d.v d.dsn))).operations
    by_date true = tt
    by_date false = accepted_apply s (Scratch d.v d.dsn)

all_deletions : (date : List ℕ) (dds : List (Dd × DdIn)) (s : Shelf) → ItemsAccepted s (dispositions date dds s)
unfolding dispositions
all_deletions date dds s = accepted_along (deleted date) (one_deletion date) s (filter_map deletion_for dds)

unless : (b : Bool) (p : Program) (step : StepIn) (s : Shelf) → ItemsAccepted s (program_unless b p step s)
unless true p step s = tt
unless false p step s = program_accepted p step s

after_dds : (date : List ℕ) (p : Program) (step : Step) (defs : Definitions) (s : Shelf) → ItemsAccepted s (behind_definitions date p step defs s)
unfolding behind_definitions
after_dds date p step defs s =
    let inner = step_in date step defs.dds in
    next_accepted s (program_unless defs.is_refused p inner s) (dispositions date defs.dds) (unless defs.is_refused p inner s) (all_deletions date defs.dds)

of_program : (date : List ℕ) (p : Program) (step : Step) (s : Shelf) → ItemsAccepted s (program_step date p step s)
unfolding program_step
of_program date p step s =
    let defs = definitions date step.dds s in
    next_accepted s defs.items (behind_definitions date p step defs) (all_dds date step.dds s) (after_dds date p step defs)

by_name : (date : List ℕ) (step : Step) (s : Shelf) (o : Option Program) → ItemsAccepted s (step_body_of date step s o)
by_name date step s None = accepted_one s (says 16 (named_line step.card (codes "NO-PROGRAM") step.pgm)) tt
by_name date step s (Some p) = of_program date p step s

one_step : (date : List ℕ) (step : Step) (s : Shelf) → ItemsAccepted s (step_items date step s)
unfolding step_items step_body
one_step date step s = framed_accepted s (step_line step.name step.pgm) (code_line (codes "STEP") step.name) (step_body date step s) (by_name date step s (program_named step.pgm))

all_steps : (date : List ℕ) (steps : List Step) (s : Shelf) → ItemsAccepted s (steps_work date steps s).items
unfolding steps_work
all_steps date [] s = tt
all_steps date (step ∷ steps) s =
    let items = step_items date step s in
    let after = behind_items s items in
    accepted_append s items (if ends_job date step s then no_work else steps_work date steps after).items (one_step date step s) (by_end after (all_steps date steps after) (ends_job date step s))
  where
    by_end : (after : Shelf) → ItemsAccepted after (steps_work date steps after).items → (b : Bool) → ItemsAccepted after (if b then no_work else steps_work date steps after).items
    by_end after all true = tt
    by_end after all false = all

-- ---- jobs

one_body : (date : List ℕ) (steps : Result (List Step) JclErr) (s : Shelf) → ItemsAccepted s (body_work date steps s).items
one_body date (Ok steps) s = all_steps date steps s
one_body date (Err e) s = accepted_one s (says 16 (jcl_line e.card e.column (kind_words e.kind))) tt

one_job : (date : List ℕ) (job : Job) (s : Shelf) → ItemsAccepted s (job_work date job s).items
unfolding job_work
one_job date job s = framed_accepted s (job_line job.name) (code_line (codes "JOB") (Some job.name)) (body_work date job.steps s).items (one_body date job.steps s)

pub jobs_accepted : (date : List ℕ) (jobs : List Job) (s : Shelf) → ItemsAccepted s (jobs_work date jobs s).items
unfolding jobs_work
jobs_accepted date [] s = tt
jobs_accepted date (job ∷ jobs) s =
    let items = (job_work date job s).items in
    let after = behind_items s items in
    accepted_append s items (jobs_work date jobs after).items (one_job date job s) (jobs_accepted date jobs after)
