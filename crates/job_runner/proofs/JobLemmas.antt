-- Steps and jobs, one after another.
use Rattle.std.proofs.Common.{◌≡◌, ◌≤◌, ℕ, ◌+◌, ◌-◌, ◌^◌, min, Bool, true, false, cond, max, List, [], ◌∷◌, ◌++◌, codes, length, refl, sym, ◌∙◌, ap, subst, arith}
use Rattle.std.specs.Prelude.{Some, Result, Ok, Err, IsErr, if◌then◌else◌}
use Rattle.stop_model.specs.Moments.{Meaning}
use Rattle.job_deck.specs.declared.job.Job.{Job}
use Rattle.job_deck.specs.declared.job.Step.{Step}
use Rattle.std.specs.List.{filter_map}
use Rattle.ebcdic_names.specs.declared.names.Name8.{Name8}
use Rattle.job_deck.specs.declared.job.Dd.{Dd}
use Rattle.util_steps.specs.Items.{DoesItem, items_along}
use Rattle.util_syntax.specs.declared.step.DdIn.{DdIn}
use Rattle.util_syntax.specs.declared.step.StepIn.{StepIn}
use Rattle.vol_model.specs.declared.answers.Stop.{Stop}
use Rattle.vol_model.specs.declared.contents.Shelf.{Shelf}
use Rattle.vol_model.specs.Events.{Item, code_of}
use Rattle.job_runner.specs.declared.definitions.Defined.{Defined}
use Rattle.job_runner.specs.declared.jobs.Ran.{Ran}
use Rattle.job_runner.specs.declared.programs.Program.{Program}
use Rattle.job_runner.specs.declared.steps.StepEnd.{StepEnd}
use Rattle.job_runner.specs.DataSets.{Definitions, definitions, table_of}
use Rattle.job_runner.specs.declared.dispositions.Deletion.{Deletion}
use Rattle.job_runner.specs.Dispositions.{deleted, deletion_for, dispositions}
use Rattle.job_runner.specs.Jobs.{Work, behind_definitions, body_work, ends_job, job_work, jobs_work, no_work, program_step, program_unless, step_body, step_in, step_items, step_work, steps_work, work_then}
use Rattle.job_runner.specs.Lines.{code_line, job_line, step_line}
use Rattle.job_runner.specs.Parts.{DoesCoded, DoesItems, and_next, behind_items, says}
use Rattle.job_runner.specs.Resolving.{Defines, DoesStep, DoesWork, steps_counted}
use Rattle.job_runner.proofs.DefinitionLemmas.{definitions_code}
use Rattle.job_runner.proofs.PartLemmas.{SoFar, code_append, code_framed, does_broken, does_next, does_nothing, does_one, does_state, does_stopped, does_with, frame_done, frame_stopped, frame_unsaid, so_begins, so_ends, so_further, so_stops}

-- ---- a step

module _ {tells : Bool} {items : List Item} {ends : Bool} where
  pub step_broken : {T : Type 0} {old new : Meaning Shelf} {n m k : ℕ} {q : Result T Stop} (r : Result StepEnd Stop) → IsErr r → DoesItems tells items old new n m q → DoesStep tells items ends old new n k r
  step_broken (Ok x) failed does = let no : ⊥ = cc in absurd no
  step_broken (Err e) failed does = record { does = does_broken (Err e) refl does; end = tt }

-- a program's items, and then others, with the higher of their codes
pub coded_then : {tells : Bool} (xs : List Item) (next : Shelf → List Item) {old mid new : Meaning Shelf} {n k m : ℕ} (a b c : ℕ) → DoesCoded tells xs old mid n k (Ok a) → DoesCoded tells (next mid.state) mid new k m (Ok b) → c ≡ max a b → DoesCoded tells (and_next old.state xs next) old new n m (Ok c)
coded_then xs next {old = old} {mid = mid} a b c first second is =
    let at : mid.state ≡ behind_items old.state xs = does_state first.does in
    record {
      does = does_with c (does_next next (Ok b) first.does second.does);
      code = is ∙ ap (λ (i : ℕ). max i b) first.code ∙ ap (max (code_of xs)) (second.code ∙ ap (λ (s : Shelf). code_of (next s)) at) ∙ sym (code_append xs (next (behind_items old.state xs)));
    }

pub coded_broken : {tells : Bool} {items : List Item} {T : Type 0} {old new : Meaning Shelf} {n m k : ℕ} {q : Result T Stop} (r : Result ℕ Stop) → IsErr r → DoesItems tells items old new n m q → DoesCoded tells items old new n k r
coded_broken (Ok x) failed does = let no : ⊥ = cc in absurd no
coded_broken (Err e) failed does = record { does = does_broken (Err e) refl does; code = tt }

pub coded_stopped : {tells : Bool} (xs : List Item) (next : Shelf → List Item) {old new : Meaning Shelf} {n m k : ℕ} {q : Result ℕ Stop} (r : Result ℕ Stop) → IsErr r → DoesCoded tells xs old new n m q → DoesCoded tells (and_next old.state xs next) old new n k r
coded_stopped xs next {old = old} {m = m} (Ok x) failed does = let no : ⊥ = cc in absurd no
coded_stopped xs next {old = old} {new = new} {n = n} {m = m} {k = k} {q = q} (Err e) failed does = record { does = does_stopped (next (behind_items old.state xs)) (Err e) refl does.does; code = tt }

pub coded_unfinished : {tells : Bool} (xs : List Item) (next : Shelf → List Item) {old mid new : Meaning Shelf} {n k m c : ℕ} {a : ℕ} {q : Result ℕ Stop} (r : Result ℕ Stop) → IsErr r → DoesCoded tells xs old mid n k (Ok a) → DoesCoded tells (next mid.state) mid new k m q → DoesCoded tells (and_next old.state xs next) old new n c r
coded_unfinished xs next {q = q} r failed first second = coded_broken r failed (does_next next q first.does second.does)

module _ (date : List ℕ) (program : Program) (step : Step) {tells : Bool} where
  -- its DDs are stopped
  pub known_undefined : {old new : Meaning Shelf} {n m k : ℕ} {q : Result Defined Stop} (r : Result StepEnd Stop) → IsErr r → Defines tells (definitions date step.dds old.state) old new n m q → DoesStep tells (program_step date program step old.state) ((definitions date step.dds old.state).is_refused) old new n k r
  unfolding program_step
  known_undefined {old = old} {m = m} (Ok x) failed defines = let no : ⊥ = cc in absurd no
  known_undefined {old = old} {m = m} (Err e) failed defines =
      let d = definitions date step.dds old.state in
      record { does = does_stopped (behind_definitions date program step d (behind_items old.state d.items)) (Err e) refl defines.does; end = tt }

  -- what stands after its DDs is stopped
  pub known_unfinished : {old mid new : Meaning Shelf} {n k m c : ℕ} {x : Defined} {q : Result ℕ Stop} (r : Result StepEnd Stop) → IsErr r → Defines tells (definitions date step.dds old.state) old mid n k (Ok x) → DoesCoded tells (behind_definitions date program step (definitions date step.dds old.state) mid.state) mid new k m q → DoesStep tells (program_step date program step old.state) ((definitions date step.dds old.state).is_refused) old new n c r
  unfolding program_step
  known_unfinished {old = old} {q = q} r failed defines coded =
      step_broken r failed (does_next (behind_definitions date program step (definitions date step.dds old.state)) q defines.does coded.does)

  -- it is done
  pub known_done : {old mid new : Meaning Shelf} {n k m : ℕ} {x : Defined} (code first : ℕ) (end : StepEnd) → Defines tells (definitions date step.dds old.state) old mid n k (Ok x) → DoesCoded tells (behind_definitions date program step (definitions date step.dds old.state) mid.state) mid new k m (Ok code)
      → first ≡ (if (definitions date step.dds old.state).is_refused then 12 else 0) → end.code ≡ max first code → end.ends_job ≡ (definitions date step.dds old.state).is_refused → DoesStep tells (program_step date program step old.state) ((definitions date step.dds old.state).is_refused) old new n m (Ok end)
  unfolding program_step
  known_done {old = old} {mid = mid} code first end defines coded first_is code_is ends =
      let d = definitions date step.dds old.state in
      let next = behind_definitions date program step d in
      let at : mid.state ≡ behind_items old.state d.items = does_state defines.does in
      record {
        does = does_with end (does_next next (Ok code) defines.does coded.does);
        end = record {
          code = code_is ∙ ap (λ (i : ℕ). max i code) (first_is ∙ sym (definitions_code date step.dds old.state)) ∙ ap (max (code_of d.items)) (coded.code ∙ ap (λ (s : Shelf). code_of (next s)) at) ∙ sym (code_append d.items (next (behind_items old.state d.items)));
          ends = ends;
        };
      }

module _ (date : List ℕ) (step : Step) {tells : Bool} where
  -- its first line isn't printed
  pub step_unsaid : {old new : Meaning Shelf} {n m k : ℕ} {q : Result ℕ Stop} (r : Result StepEnd Stop) → IsErr r → DoesItem tells (says 0 (step_line step.name step.pgm)) old new n m q → DoesStep tells (step_items date step old.state) (ends_job date step old.state) old new n k r
  unfolding step_items
  step_unsaid {old = old} {m = m} {k = k} {q = q} r failed does = step_broken r failed (frame_unsaid (step_line step.name step.pgm) (code_line (codes "STEP") step.name) (step_body date step old.state) {k = k} r failed (does_one q does))

  module _ {a : ℕ} {old one : Meaning Shelf} {n b : ℕ} (begins : DoesItem tells (says 0 (step_line step.name step.pgm)) old one n b (Ok a)) where
    at_one : one.state ≡ old.state
    at_one = does_state (does_one (Ok a) begins)

    -- what it does is stopped
    pub step_stopped : {two : Meaning Shelf} {m k : ℕ} {q : Result StepEnd Stop} (r : Result StepEnd Stop) → IsErr r → DoesStep tells (step_body date step one.state) (ends_job date step one.state) one two b m q → DoesStep tells (step_items date step old.state) (ends_job date step old.state) old two n k r
    unfolding step_items
    step_stopped {m = m} {k = k} r failed body = step_broken r failed (frame_stopped (step_line step.name step.pgm) (code_line (codes "STEP") step.name) (step_body date step) (does_one (Ok a) begins) {c = k} r failed body.does)

    module _ {two new : Meaning Shelf} {c m : ℕ} (end : StepEnd) (body : DoesStep tells (step_body date step one.state) (ends_job date step one.state) one two b c (Ok end)) where
      -- its last line isn't printed
      pub step_uncoded : {k : ℕ} {q : Result ℕ Stop} (r : Result StepEnd Stop) → IsErr r → DoesItem tells (says 0 (code_line (codes "STEP") step.name end.code)) two new c m q → DoesStep tells (step_items date step old.state) (ends_job date step old.state) old new n k r
      unfolding step_items
      step_uncoded {q = q} r failed last = step_broken r failed (frame_done (step_line step.name step.pgm) (code_line (codes "STEP") step.name) (step_body date step) (does_one (Ok a) begins) end.code q body.does body.end.code (does_one q last))

      -- it is done
      pub step_done : {z : ℕ} → DoesItem tells (says 0 (code_line (codes "STEP") step.name end.code)) two new c m (Ok z) → DoesStep tells (step_items date step old.state) (ends_job date step old.state) old new n m (Ok end)
      unfolding step_items
      step_done {z = z} last = record {
        does = does_with end (frame_done (step_line step.name step.pgm) (code_line (codes "STEP") step.name) (step_body date step) (does_one (Ok a) begins) end.code (Ok z) body.does body.end.code (does_one (Ok z) last));
        end = record {
          code = body.end.code ∙ ap (λ (s : Shelf). code_of (step_body date step s)) at_one ∙ sym (code_framed (step_line step.name step.pgm) (code_line (codes "STEP") step.name) (step_body date step old.state));
          ends = body.end.ends ∙ ap (ends_job date step) at_one;
        };
      }

-- ---- a job

pub work_broken : {tells : Bool} {work : Work} {T : Type 0} {old new : Meaning Shelf} {n m k : ℕ} {q : Result T Stop} (r : Result Ran Stop) → IsErr r → DoesItems tells work.items old new n m q → DoesWork tells work old new n k r
work_broken (Ok x) failed does = let no : ⊥ = cc in absurd no
work_broken (Err e) failed does = record { does = does_broken (Err e) refl does; ran = tt }

module _ (date : List ℕ) (job : Job) {tells : Bool} where
  -- its first line isn't printed
  pub job_unsaid : {old new : Meaning Shelf} {n m k : ℕ} {q : Result ℕ Stop} (r : Result Ran Stop) → IsErr r → DoesItem tells (says 0 (job_line job.name)) old new n m q → DoesWork tells (job_work date job old.state) old new n k r
  unfolding job_work
  job_unsaid {old = old} {k = k} {q = q} r failed does = work_broken r failed (frame_unsaid (job_line job.name) (code_line (codes "JOB") (Some job.name)) ((body_work date job.steps old.state).items) {k = k} r failed (does_one q does))

  module _ {a : ℕ} {old one : Meaning Shelf} {n b : ℕ} (begins : DoesItem tells (says 0 (job_line job.name)) old one n b (Ok a)) where
    job_at_one : one.state ≡ old.state
    job_at_one = does_state (does_one (Ok a) begins)

    -- what it does is stopped
    pub job_stopped : {two : Meaning Shelf} {m k : ℕ} {q : Result Ran Stop} (r : Result Ran Stop) → IsErr r → DoesWork tells (body_work date job.steps one.state) one two b m q → DoesWork tells (job_work date job old.state) old two n k r
    unfolding job_work
    job_stopped {m = m} {k = k} r failed body = work_broken r failed (frame_stopped (job_line job.name) (code_line (codes "JOB") (Some job.name)) (λ s. (body_work date job.steps s).items) (does_one (Ok a) begins) {c = k} r failed body.does)

    module _ {two new : Meaning Shelf} {c m : ℕ} (ran : Ran) (body : DoesWork tells (body_work date job.steps one.state) one two b c (Ok ran)) where
      -- its last line isn't printed
      pub job_uncoded : {k : ℕ} {q : Result ℕ Stop} (r : Result Ran Stop) → IsErr r → DoesItem tells (says 0 (code_line (codes "JOB") (Some job.name) ran.code)) two new c m q → DoesWork tells (job_work date job old.state) old new n k r
      unfolding job_work
      job_uncoded {q = q} r failed last = work_broken r failed (frame_done (job_line job.name) (code_line (codes "JOB") (Some job.name)) (λ s. (body_work date job.steps s).items) (does_one (Ok a) begins) ran.code q body.does body.ran.code (does_one q last))

      -- it is done
      pub job_done : {z : ℕ} → DoesItem tells (says 0 (code_line (codes "JOB") (Some job.name) ran.code)) two new c m (Ok z) → DoesWork tells (job_work date job old.state) old new n m (Ok ran)
      unfolding job_work
      job_done {z = z} last = record {
        does = does_with ran (frame_done (job_line job.name) (code_line (codes "JOB") (Some job.name)) (λ s. (body_work date job.steps s).items) (does_one (Ok a) begins) ran.code (Ok z) body.does body.ran.code (does_one (Ok z) last));
        ran = record {
          code = body.ran.code ∙ ap (λ (s : Shelf). code_of (body_work date job.steps s).items) job_at_one ∙ sym (code_framed (job_line job.name) (code_line (codes "JOB") (Some job.name)) (body_work date job.steps old.state).items);
          steps = body.ran.steps ∙ ap (λ (s : Shelf). steps_counted (body_work date job.steps s).steps) job_at_one;
        };
      }

-- ---- loops

-- Some steps or jobs were done, which came to this, and these are left.
pub record WorkSoFar (tells : Bool) (all left : Work) (ran : Ran) (old now : Meaning Shelf) (n m : ℕ) : Type 0 where
  pub items : SoFar tells all.items left.items old now n m
  pub code : max ran.code (code_of left.items) ≡ code_of all.items
  pub steps : steps_counted (ran.steps + left.steps) ≡ steps_counted all.steps
  pub counted : ran.steps ≤ 2 ^ 32 - 1

pub work_begins : (tells : Bool) (all : Work) (ran : Ran) (old : Meaning Shelf) (n : ℕ) → ran.code ≡ 0 → ran.steps ≡ 0 → WorkSoFar tells all all ran old old n n
work_begins tells all ran old n code steps = record {
  items = so_begins tells all.items old n;
  code = omega (arith, code);
  steps = ap (λ (k : ℕ). steps_counted (k + all.steps)) steps ∙ ap steps_counted (let e : 0 + all.steps ≡ all.steps = omega arith in e);
  counted = omega (arith, steps);
}

max_three : (a b c d e : ℕ) → a ≡ max b c → max b (max c d) ≡ e → max a d ≡ e
max_three a b c d e is all = omega (arith, is, all)

counted_three : (a b c d f : ℕ) → a ≡ min (b + min c (2 ^ 32 - 1)) (2 ^ 32 - 1) → min (a + d) (2 ^ 32 - 1) ≡ min (b + (c + d)) (2 ^ 32 - 1)
counted_three a b c d f is = omega (arith, is)

module _ {tells : Bool} {all left : Work} {ran : Ran} {old now : Meaning Shelf} {n m : ℕ} (so : WorkSoFar tells all left ran old now n m) (first : Work) (next : Shelf → Work) (is : left ≡ work_then now.state first next) where
  pub work_further : {T : Type 0} {new : Meaning Shelf} {k : ℕ} {x : T} (code steps : ℕ) (grown : Ran) → DoesItems tells first.items now new m k (Ok x) → code ≡ code_of first.items → steps ≡ steps_counted first.steps → grown.code ≡ max ran.code code → grown.steps ≡ steps_counted (ran.steps + steps) → WorkSoFar tells all (next new.state) grown old new n k
  work_further {new = new} code steps grown does code_is steps_is grown_code grown_steps =
      let at : new.state ≡ behind_items now.state first.items = does_state does in
      let rest = next new.state in
      let left_items : left.items ≡ first.items ++ rest.items = ap (λ (w : Work). w.items) is ∙ ap (λ (s : Shelf). first.items ++ (next s).items) (sym at) in
      let left_steps : left.steps ≡ first.steps + rest.steps = ap (λ (w : Work). w.steps) is ∙ ap (λ (s : Shelf). first.steps + (next s).steps) (sym at) in
      let whole : max ran.code (max (code_of first.items) (code_of rest.items)) ≡ code_of all.items = ap (max ran.code) (sym (code_append first.items rest.items) ∙ ap code_of (sym left_items)) ∙ so.code in
      record {
        items = so_further so.items first.items rest.items left_items does;
        code = max_three grown.code ran.code (code_of first.items) (code_of rest.items) (code_of all.items) (grown_code ∙ ap (max ran.code) code_is) whole;
        steps = counted_three grown.steps ran.steps first.steps rest.steps 0 (grown_steps ∙ ap (λ (k : ℕ). steps_counted (ran.steps + k)) steps_is) ∙ ap (λ (k : ℕ). steps_counted (ran.steps + k)) (sym left_steps) ∙ so.steps;
        counted = omega (arith, grown_steps);
      }

  pub work_stops : {T : Type 0} {new : Meaning Shelf} {k c : ℕ} {q : Result T Stop} (r : Result Ran Stop) → IsErr r → DoesItems tells first.items now new m k q → DoesWork tells all old new n c r
  work_stops {k = k} (Ok x) failed does = let no : ⊥ = cc in absurd no
  work_stops {k = k} (Err e) failed does =
      record { does = so_stops so.items first.items (next (behind_items now.state first.items)).items (Err e) refl (ap (λ (w : Work). w.items) is) does; ran = tt }

pub work_ends : {tells : Bool} {all left : Work} {ran : Ran} {old now : Meaning Shelf} {n m : ℕ} → left ≡ no_work → WorkSoFar tells all left ran old now n m → DoesWork tells all old now n m (Ok ran)
work_ends {all = all} {left = left} {ran = ran} none so =
    record {
      does = so_ends so.items ran (ap (λ (w : Work). w.items) none);
      ran = record {
        code = last_code (code_of left.items) (ap (λ (w : Work). code_of w.items) none) so.code;
        steps = last_steps left.steps (ap (λ (w : Work). w.steps) none) so.steps;
      };
    }
  where
    last_code : (c : ℕ) → c ≡ 0 → max ran.code c ≡ code_of all.items → ran.code ≡ code_of all.items
    last_code c zero whole = omega (arith, zero, whole)

    last_steps : (k : ℕ) → k ≡ 0 → steps_counted (ran.steps + k) ≡ steps_counted all.steps → ran.steps ≡ steps_counted all.steps
    last_steps k zero whole = omega (arith, zero, whole, so.counted)

-- ---- the first of steps, and of jobs

pub steps_first : (date : List ℕ) (step : Step) (steps : List Step) (s : Shelf) → steps_work date (step ∷ steps) s ≡ work_then s (step_work date step s) (λ t. if ends_job date step s then no_work else steps_work date steps t)
unfolding steps_work
steps_first date step steps s = refl

pub steps_none : (date : List ℕ) (l : List Step) (s : Shelf) → l ≡ [] → steps_work date l s ≡ no_work
unfolding steps_work
steps_none date l s none = ap (λ (k : List Step). steps_work date k s) none

pub jobs_first : (date : List ℕ) (job : Job) (jobs : List Job) (s : Shelf) → jobs_work date (job ∷ jobs) s ≡ work_then s (job_work date job s) (jobs_work date jobs)
unfolding jobs_work
jobs_first date job jobs s = refl

pub jobs_none : (date : List ℕ) (l : List Job) (s : Shelf) → l ≡ [] → jobs_work date l s ≡ no_work
unfolding jobs_work
jobs_none date l s none = ap (λ (k : List Job). jobs_work date k s) none

-- the job goes on, or ends, as the step says
pub goes_on : (date : List ℕ) (step : Step) (steps : List Step) (s t : Shelf) (b : Bool) → b ≡ ends_job date step s → b ≡ false → (if ends_job date step s then no_work else steps_work date steps t) ≡ steps_work date steps t
goes_on date step steps s t b is no_end = ap (λ (k : Bool). cond k no_work (steps_work date steps t)) (sym is ∙ no_end)

pub ends_here : (date : List ℕ) (step : Step) (steps : List Step) (s t : Shelf) (b : Bool) → b ≡ ends_job date step s → b ≡ true → (if ends_job date step s then no_work else steps_work date steps t) ≡ no_work
ends_here date step steps s t b is ends = ap (λ (k : Bool). cond k no_work (steps_work date steps t)) (sym is ∙ ends)

empty : {X : Type 0} (l : List X) → length l ≡ 0 → l ≡ []
empty [] e = refl
empty (x ∷ l) e = absurd (omega (arith, e))

-- ---- the loop over jobs

module _ {tells : Bool} (date : List ℕ) {all : Work} {ran : Ran} (rest : List Job) {old now : Meaning Shelf} {n m : ℕ} (so : WorkSoFar tells all (jobs_work date rest now.state) ran old now n m) where
  pub jobs_end : length rest ≡ 0 → DoesWork tells all old now n m (Ok ran)
  jobs_end none = work_ends (jobs_none date rest now.state (empty rest none)) so

  module _ (job : Job) (behind : List Job) (is : rest ≡ job ∷ behind) where
    first_is : jobs_work date rest now.state ≡ work_then now.state (job_work date job now.state) (jobs_work date behind)
    first_is = ap (λ (l : List Job). jobs_work date l now.state) is ∙ jobs_first date job behind now.state

    pub jobs_further : {new : Meaning Shelf} {k : ℕ} (one grown : Ran) → DoesWork tells (job_work date job now.state) now new m k (Ok one) → grown.code ≡ max ran.code one.code → grown.steps ≡ steps_counted (ran.steps + one.steps) → WorkSoFar tells all (jobs_work date behind new.state) grown old new n k
    jobs_further one grown does code steps = work_further so (job_work date job now.state) (jobs_work date behind) first_is one.code one.steps grown does.does does.ran.code does.ran.steps code steps

    pub jobs_stop : {new : Meaning Shelf} {k c : ℕ} {q : Result Ran Stop} (r : Result Ran Stop) → IsErr r → DoesWork tells (job_work date job now.state) now new m k q → DoesWork tells all old new n c r
    jobs_stop r failed does = work_stops so (job_work date job now.state) (jobs_work date behind) first_is r failed does.does

-- ---- the loop over steps

module _ {tells : Bool} (date : List ℕ) {all : Work} {ran : Ran} (rest : List Step) {old now : Meaning Shelf} {n m : ℕ} (so : WorkSoFar tells all (steps_work date rest now.state) ran old now n m) where
  pub steps_end : length rest ≡ 0 → DoesWork tells all old now n m (Ok ran)
  steps_end none = work_ends (steps_none date rest now.state (empty rest none)) so

  module _ (step : Step) (behind : List Step) (is : rest ≡ step ∷ behind) where
    abbrev later_work : Shelf → Work
    later_work t = if ends_job date step now.state then no_work else steps_work date behind t

    step_is : steps_work date rest now.state ≡ work_then now.state (step_work date step now.state) later_work
    step_is = ap (λ (l : List Step). steps_work date l now.state) is ∙ steps_first date step behind now.state

    grows : {new : Meaning Shelf} {k : ℕ} (end : StepEnd) (grown : Ran) → DoesStep tells (step_items date step now.state) (ends_job date step now.state) now new m k (Ok end) → grown.code ≡ max ran.code end.code → grown.steps ≡ steps_counted (ran.steps + 1) → WorkSoFar tells all (later_work new.state) grown old new n k
    grows end grown does code steps = work_further so (step_work date step now.state) later_work step_is end.code 1 grown does.does does.end.code refl code steps

    pub steps_further : {new : Meaning Shelf} {k : ℕ} (end : StepEnd) (grown : Ran) → DoesStep tells (step_items date step now.state) (ends_job date step now.state) now new m k (Ok end) → end.ends_job ≡ false → grown.code ≡ max ran.code end.code → grown.steps ≡ steps_counted (ran.steps + 1) → WorkSoFar tells all (steps_work date behind new.state) grown old new n k
    steps_further {new = new} {k = k} end grown does ends code steps =
        subst (λ (w : Work). WorkSoFar tells all w grown old new n k) (goes_on date step behind now.state new.state end.ends_job does.end.ends ends) (grows end grown does code steps)

    pub steps_last : {new : Meaning Shelf} {k : ℕ} (end : StepEnd) (grown : Ran) → DoesStep tells (step_items date step now.state) (ends_job date step now.state) now new m k (Ok end) → end.ends_job ≡ true → grown.code ≡ max ran.code end.code → grown.steps ≡ steps_counted (ran.steps + 1) → DoesWork tells all old new n k (Ok grown)
    steps_last {new = new} end grown does ends code steps =
        work_ends (ends_here date step behind now.state new.state end.ends_job does.end.ends ends) (grows end grown does code steps)

    pub steps_stop : {new : Meaning Shelf} {k c : ℕ} {q : Result StepEnd Stop} (r : Result Ran Stop) → IsErr r → DoesStep tells (step_items date step now.state) (ends_job date step now.state) now new m k q → DoesWork tells all old new n c r
    steps_stop r failed does = work_stops so (step_work date step now.state) later_work step_is r failed does.does

-- ---- what stands after the DDs of a step

pub coded_nothing : {tells : Bool} (items : List Item) (m : Meaning Shelf) {n k : ℕ} (r : Result ℕ Stop) → IsErr r → DoesCoded tells items m m n k r
coded_nothing items m (Ok x) failed = let no : ⊥ = cc in absurd no
coded_nothing items m (Err e) failed = record { does = does_nothing items m e; code = tt }

pub step_in_is : (date : List ℕ) (step : Step) (dds : List (Dd × DdIn)) (table : List (Name8 × DdIn)) (parm : List ℕ) → table ≡ table_of dds → parm ≡ step.parm → (let s : StepIn = record { pgm = step.pgm; parm = parm; card = step.card; date = date; dds = table } in s) ≡ step_in date step dds
unfolding step_in
step_in_is date step dds table parm table_is parm_is =
    ap (λ (t : List (Name8 × DdIn)). let s : StepIn = record { pgm = step.pgm; parm = parm; card = step.card; date = date; dds = t } in s) table_is
    ∙ ap (λ (p : List ℕ). let s : StepIn = record { pgm = step.pgm; parm = p; card = step.card; date = date; dds = table_of dds } in s) parm_is

pub behind_is : (date : List ℕ) (program : Program) (step : Step) (d : Definitions) (refused : Bool) (deletions : List Deletion) {s : StepIn} → s ≡ step_in date step d.dds → refused ≡ d.is_refused → deletions ≡ filter_map deletion_for d.dds → (shelf : Shelf)
    → and_next shelf (program_unless refused program s shelf) (λ t. items_along (deleted date) t deletions) ≡ behind_definitions date program step d shelf
unfolding behind_definitions dispositions
behind_is date program step d refused deletions {s = s} s_is refused_is deletions_is shelf =
    ap (λ (x : StepIn). and_next shelf (program_unless refused program x shelf) (λ t. items_along (deleted date) t deletions)) s_is
    ∙ ap (λ (b : Bool). and_next shelf (program_unless b program (step_in date step d.dds) shelf) (λ t. items_along (deleted date) t deletions)) refused_is
    ∙ ap (λ (l : List Deletion). and_next shelf (program_unless d.is_refused program (step_in date step d.dds) shelf) (λ t. items_along (deleted date) t l)) deletions_is

-- a step of one item
pub step_single : {tells : Bool} {item : Item} {ends : Bool} {old new : Meaning Shelf} {n m : ℕ} (end : StepEnd) → DoesItem tells item old new n m (Ok end.code) → end.ends_job ≡ ends → DoesStep tells (item ∷ []) ends old new n m (Ok end)
step_single {item = item} end does ends = record { does = does_with end (does_one (Ok end.code) does); end = record { code = does.code ∙ alone item.code; ends = ends } }
  where
    alone : (c : ℕ) → c ≡ max c 0
    alone c = omega arith

-- a refused job
pub work_single : {tells : Bool} {item : Item} {old new : Meaning Shelf} {n m : ℕ} (ran : Ran) → DoesItem tells item old new n m (Ok ran.code) → ran.steps ≡ 0 → DoesWork tells (record { items = item ∷ []; steps = 0 }) old new n m (Ok ran)
work_single {item = item} ran does steps = record { does = does_with ran (does_one (Ok ran.code) does); ran = record { code = does.code ∙ alone item.code; steps = steps } }
  where
    alone : (c : ℕ) → c ≡ max c 0
    alone c = omega arith
