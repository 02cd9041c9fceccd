-- The programs: how their table is searched, and what they do is accepted, program by program.
use Rattle.std.proofs.Common.{◌≡◌, ◌<◌, ◌+◌, ℕ, Bool, cond, List, drop, length, get_or, ap, ◌∙◌}
use Rattle.std.proofs.lemmas.List.{at_drop_more}
use Rattle.std.specs.Prelude.{Some}
use Rattle.std.specs.Map.{lookup}
use Rattle.iebcopy_util.proofs.AcceptedLemmas.{iebcopy_accepted}
use Rattle.iebgener_util.proofs.AcceptedLemmas.{iebgener_accepted}
use Rattle.iebupdte_util.proofs.AcceptedLemmas.{iebupdte_accepted}
use Rattle.iehlist_util.proofs.AcceptedLemmas.{iehlist_accepted}
use Rattle.iehprogm_util.proofs.AcceptedLemmas.{iehprogm_accepted}
use Rattle.util_steps.proofs.AcceptedLemmas.{ItemsAccepted}
use Rattle.util_syntax.specs.declared.step.StepIn.{StepIn}
use Rattle.vol_model.specs.declared.contents.Shelf.{Shelf}
use Rattle.job_runner.specs.declared.programs.Program.{Program}
use Rattle.job_runner.specs.declared.programs.Program.TheVariants.{Iefbr14, Iehprogm, Iehlist, Iebgener, Iebcopy, Iebupdte}
use Rattle.job_runner.specs.Programs.{program_items}

-- the row at an index is the one looked for, or not
pub row_at : {K X : Type 0} (test : K → Bool) (rows : List (K × X)) (i : ℕ) (d : K × X) (b : Bool) → i < length rows → b ≡ test (get_or rows i d).0 → lookup test (drop i rows) ≡ cond b (Some (get_or rows i d).1) (lookup test (drop (i + 1) rows))
row_at test rows i d b below is = at_drop_more (lookup test) rows i d below ∙ ap (λ (t : Bool). cond t (Some (get_or rows i d).1) (lookup test (drop (i + 1) rows))) (let e : test (get_or rows i d).0 ≡ b = cc in e)

-- none of the operations of a program is refused
pub program_accepted : (p : Program) (step : StepIn) (s : Shelf) → ItemsAccepted s (program_items p step s)
program_accepted Iefbr14 step s = tt
program_accepted Iehprogm step s = iehprogm_accepted step s
program_accepted Iehlist step s = iehlist_accepted step s
program_accepted Iebgener step s = iebgener_accepted step s
program_accepted Iebcopy step s = iebcopy_accepted step s
program_accepted Iebupdte step s = iebupdte_accepted step s
