-- Records are written to an output, case by case.
use Rattle.std.proofs.Common.{◌≡◌, ℕ, Bool, true, false, sym, subst}
use Rattle.std.specs.Prelude.{Option, Some, None, Result, if◌then◌else◌}
use Rattle.stop_model.specs.Moments.{Meaning}
use Rattle.vol_model.specs.declared.answers.Mode.TheVariants as modes
use Rattle.vol_model.specs.declared.answers.Stop.{Stop}
use Rattle.vol_model.specs.declared.contents.Attr.{Attr}
use Rattle.vol_model.specs.declared.contents.Shelf.{Shelf}
use Rattle.vol_model.specs.Runs.{Works}
use Rattle.util_steps.specs.declared.calls.Fault.{Fault}
use Rattle.record_files.specs.Writing.{Coming, appended, rewritten}
use Rattle.output_files.specs.declared.outputs.Output.{Output}
use Rattle.output_files.specs.Outputs.{write_output}
use Rattle.output_files.specs.Members.{MemberNames, stored}

module _ (out : Output) (names : Option MemberNames) (attr : Attr) (c : Coming) {tells : Bool} {old new : Meaning Shelf} {n m : ℕ} (r : Result (Result (Unit {0}) Fault) Stop) where
  -- to a member
  pub output_stored : (own : MemberNames) → names ≡ Some own → Works tells (stored old.state out.to own c) old new n m r → Works tells (write_output old.state out names attr c) old new n m r
  output_stored own is works = subst (λ (o : Option MemberNames). Works tells (write_output old.state out o attr c) old new n m r) (sym is) works

  -- after the records of a sequential set
  pub output_appended : names ≡ None → out.append ≡ true → Works tells (appended old.state out.to modes.Fill c) old new n m r → Works tells (write_output old.state out names attr c) old new n m r
  output_appended is append works =
      subst (λ (o : Option MemberNames). Works tells (write_output old.state out o attr c) old new n m r) (sym is)
      (subst (λ (t : Bool). Works tells (if t then appended old.state out.to modes.Fill c else rewritten old.state out.to attr c) old new n m r) (sym append) works)

  -- in their place
  pub output_rewritten : names ≡ None → out.append ≡ false → Works tells (rewritten old.state out.to attr c) old new n m r → Works tells (write_output old.state out names attr c) old new n m r
  output_rewritten is append works =
      subst (λ (o : Option MemberNames). Works tells (write_output old.state out o attr c) old new n m r) (sym is)
      (subst (λ (t : Bool). Works tells (if t then appended old.state out.to modes.Fill c else rewritten old.state out.to attr c) old new n m r) (sym append) works)
