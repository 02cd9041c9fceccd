-- How the DDs of a step, and steps and jobs, are done on a machine, in this project's profile.
use Rattle.std.specs.Prelude.{◌≡◌, ℕ, ◌-◌, ◌^◌, min, Bool, List, Option, Result, IfOk}
use Rattle.std.specs.List.{filter_map}
use Rattle.stop_model.specs.Moments.{Meaning}
use Rattle.util_syntax.specs.declared.step.DdIn.{DdIn}
use Rattle.vol_model.specs.declared.answers.Stop.{Stop}
use Rattle.vol_model.specs.declared.contents.Shelf.{Shelf}
use Rattle.vol_model.specs.Events.{Item, code_of}
use Rattle.job_runner.specs.declared.definitions.Defined.{Defined}
use Rattle.job_runner.specs.declared.jobs.Ran.{Ran}
use Rattle.job_runner.specs.declared.steps.StepEnd.{StepEnd}
use Rattle.job_runner.specs.DataSets.{Definitions, Resolved, table_of}
use Rattle.job_runner.specs.Dispositions.{deletion_for}
use Rattle.job_runner.specs.Jobs.{Work}
use Rattle.job_runner.specs.Parts.{DoesItems}

-- A DD is resolved, and answered with what it gives, unless it is refused.
pub record Resolves (tells : Bool) (r : Resolved) (old new : Meaning Shelf) (n m : ℕ) (result : Result (Option DdIn) Stop) : Type 0 where
  pub does : DoesItems tells r.items old new n m result
  pub given : IfOk result (λ dd. dd ≡ r.dd)

-- What DDs give: their table, the sets that they delete after the step, and whether one is refused.
pub record IsDefined (d : Definitions) (defined : Defined) : Type 0 where
  pub table : defined.table ≡ table_of d.dds
  pub deletions : defined.deletions.items ≡ filter_map deletion_for d.dds
  pub is_refused : defined.is_refused ≡ d.is_refused

-- The DDs of a step are resolved, and what they give is answered.
pub record Defines (tells : Bool) (d : Definitions) (old new : Meaning Shelf) (n m : ℕ) (result : Result Defined Stop) : Type 0 where
  pub does : DoesItems tells d.items old new n m result
  pub defined : IfOk result (IsDefined d)

-- A step has this code, and ends its job or not.
pub record IsEnd (items : List Item) (is_last : Bool) (end : StepEnd) : Type 0 where
  pub code : end.code ≡ code_of items
  pub ends : end.ends_job ≡ is_last

-- A step is done, and its end is answered.
pub record DoesStep (tells : Bool) (items : List Item) (is_last : Bool) (old new : Meaning Shelf) (n m : ℕ) (result : Result StepEnd Stop) : Type 0 where
  pub does : DoesItems tells items old new n m result
  pub end : IfOk result (IsEnd items is_last)

-- a number of steps, which stays at its type's end
abbrev pub steps_counted : ℕ → ℕ
steps_counted n = min n (2 ^ 32 - 1)

-- What was run had this code, and so many steps began.
pub record IsTotal (work : Work) (ran : Ran) : Type 0 where
  pub code : ran.code ≡ code_of work.items
  pub steps : ran.steps ≡ steps_counted work.steps

-- Steps or jobs are done, and their code and the number of steps are answered.
pub record DoesWork (tells : Bool) (work : Work) (old new : Meaning Shelf) (n m : ℕ) (result : Result Ran Stop) : Type 0 where
  pub does : DoesItems tells work.items old new n m result
  pub ran : IfOk result (IsTotal work)
