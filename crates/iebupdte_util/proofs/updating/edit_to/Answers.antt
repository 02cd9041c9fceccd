use Rattle.std.proofs.Common.{◌≡◌, sym, ◌∙◌, ap, subst, arith, rules}
use Rattle.std.specs.Prelude.{Ok, Err}
use Rattle.vol_model.specs.declared.contents.Shelf.{Shelf}
use Rattle.vol_model.specs.Did.{Did, with_reason}
use Rattle.vol_model.specs.Runs.{Works}
use Rattle.vol_model.proofs.Working.{works_none}
use Rattle.util_steps.proofs.Following.{after_nothing, nothing_broken}
use Rattle.util_program.specs.Outcomes.{outcome_for}
use Rattle.util_syntax.specs.declared.listing.Outcome.{Outcome}
use Rattle.record_files.specs.Attributes.{format_in}
use Rattle.record_files.specs.Inputs.{IsThere, ReadsAs, input_view, records_of}
use Rattle.record_files.specs.Streams.{Stream}
use Rattle.record_files.specs.Writing.{packed}
use Rattle.output_files.specs.Outputs.{write_output}
use Rattle.iebupdte_util.specs.Checking.{checked, edits}
use Rattle.iebupdte_util.specs.Items.{edited_to, names_of, source_of}
use Rattle.iebupdte_util.proofs.CheckLemmas.{made_edits}
use Rattle.iebupdte_util.proofs.UpdateLemmas.{edited_refused, edited_written, no_olds}
use Rattle.iebupdte_util.proofs.updating.edit_to.Goals as goal

pub returns-in_err-check_function : goal.returns-in_err-check_function
returns-in_err-check_function g c = record {
  works = λ told found know.
      let shelf = (g.M.Machine.meaning c.args.machine.now).state in
      nothing_broken (c.check_function.ensures.runs told) (edited_to shelf c.args.sets.now.out c.args.function.now c.args.attr.now (records_of found)) c.from_residual.result c.from_residual.ensures.0;
  later = λ told. (c.check_function.ensures.runs told).moments.later;
  promise = c.check_function.ensures.promise;
  faults = search rules;
}

pub returns-in-Ok : goal.returns-in-Ok
returns-in-Ok g c = record {
  works = λ told found know.
      let m = g.M.Machine.meaning in
      let s = g.M.Machine.status in
      let sets = c.args.sets.now in
      let f = c.args.function.now in
      let attr = c.args.attr.now in
      let shelf = (m c.args.machine.now).state in
      let st = records_of found in
      let nothing = c.check_function.ensures.runs told in
      let here : ReadsAs shelf (input_view c.source_of-input.result) found = rw c.source_of-input.ensures know.reads in
      let good : checked f st ≡ Ok tt = sym (rw c.in-Ok.is at (c.in_ok-check_function.ensures.checked told found here know.known_so)) in
      let made = made_edits f st (no_olds shelf sets f found know.reads) good in
      let still : ReadsAs (m c.check_function.new.machine).state (source_of sets f.heading) found = rw nothing.state know.reads in
      let is_there : IsThere (m c.check_function.new.machine).state sets.out.to = rw nothing.state know.output in
      let works = c.write_edited.ensures.works told found (record { reads = still; known_so = know.known_so; output = is_there }) in
      subst (λ (d : Did (Unit {0}) Outcome). Works g.M.Machine.tells_prints d (m c.args.machine.now) (m c.write_edited.new.machine) (s c.args.machine.now).done (s c.write_edited.new.machine).done c.write_edited.result)
      (ap (λ (x : Stream). with_reason outcome_for (write_output shelf sets.out (names_of f) attr (packed (format_in attr) x))) made.2 ∙ sym (edited_written shelf sets.out f attr st (edits f st).records made.0 made.1))
      (subst (λ (x : Shelf). Works g.M.Machine.tells_prints (with_reason outcome_for (write_output x sets.out (names_of f) attr (packed (format_in attr) (edits f st)))) (m c.args.machine.now) (m c.write_edited.new.machine) (s c.args.machine.now).done (s c.write_edited.new.machine).done c.write_edited.result) nothing.state
      (after_nothing nothing c.write_edited.result c.check_function.ensures.count works));
  later = λ told. omega (arith, (c.check_function.ensures.runs told).moments.later, c.write_edited.ensures.later told);
  promise = λ told t known early kept. c.write_edited.ensures.promise told t known (omega (arith, early, (c.check_function.ensures.runs told).moments.later)) (c.check_function.ensures.promise told t known early kept);
  faults = search rules;
}

pub returns-in-Err : goal.returns-in-Err
returns-in-Err g c = record {
  works = λ told found know.
      let m = g.M.Machine.meaning in
      let s = g.M.Machine.status in
      let sets = c.args.sets.now in
      let f = c.args.function.now in
      let shelf = (m c.args.machine.now).state in
      let st = records_of found in
      let o = c.in-Err.outcome in
      let nothing = c.check_function.ensures.runs told in
      let here : ReadsAs shelf (input_view c.source_of-input.result) found = rw c.source_of-input.ensures know.reads in
      let bad : checked f st ≡ Err o = sym (rw c.in-Err.is at (c.in_ok-check_function.ensures.checked told found here know.known_so)) in
      let new = c.check_function.new.machine in
      subst (λ (d : Did (Unit {0}) Outcome). Works g.M.Machine.tells_prints d (m c.args.machine.now) (m new) (s c.args.machine.now).done (s new).done (Ok (Err o)))
      (sym (edited_refused shelf sets.out f c.args.attr.now st o (no_olds shelf sets f found know.reads) bad))
      (after_nothing nothing (Ok (Err o)) c.check_function.ensures.count (works_none g.M.Machine.tells_prints (m new) (s new).done (Err o)));
  later = λ told. (c.check_function.ensures.runs told).moments.later;
  promise = c.check_function.ensures.promise;
  faults = search rules;
}
