use Rattle.std.proofs.Common.{rules}
use Rattle.std.specs.Prelude.{Ok, Err}
use Rattle.util_steps.proofs.Taking.{takes_because, takes_because_stops}
use Rattle.util_program.specs.Outcomes.{outcome_for}
use Rattle.record_files.specs.Attributes.{format_in}
use Rattle.record_files.specs.Inputs.{records_of}
use Rattle.record_files.specs.Writing.{packed}
use Rattle.record_files.proofs.CallLemmas.{takes_at}
use Rattle.output_files.specs.Outputs.{write_output}
use Rattle.iebupdte_util.specs.Checking.{edits}
use Rattle.iebupdte_util.specs.Items.{names_of}
use Rattle.iebupdte_util.proofs.UpdateLemmas.{gives_edits}
use Rattle.iebupdte_util.proofs.updating.write_edited.Goals as goal

pub returns-in_err-write_output : goal.returns-in_err-write_output
returns-in_err-write_output g c = record {
  works = λ told found know.
      let sets = c.args.sets.now in
      let f = c.args.function.now in
      let attr = c.args.attr.now in
      let gives = gives_edits sets f c.args.known.now c.in_ok-records.records (g.M.Machine.meaning c.args.machine.now).state found know c.requires.apart (rw c.source_of-input.ensures at c.in_ok-records.ensures) in
      (takes_because_stops g.M.Machine outcome_for (λ s. write_output s sets.out (names_of f) attr (packed (format_in attr) (edits f (records_of found)))) c.from_residual-in_err-write_output.result c.from_residual-in_err-write_output.ensures
      (takes_at g.M.Machine (rw (c.in_err-write_output.was, c.names_of-names.ensures) at c.write_output.ensures) told (edits f (records_of found)) gives)).works told;
  later = c.write_output.ensures.later;
  promise = c.write_output.ensures.promise;
  faults = search rules;
}

pub returns-in-Ok : goal.returns-in-Ok
returns-in-Ok g c = record {
  works = λ told found know.
      let sets = c.args.sets.now in
      let f = c.args.function.now in
      let attr = c.args.attr.now in
      let gives = gives_edits sets f c.args.known.now c.in_ok-records.records (g.M.Machine.meaning c.args.machine.now).state found know c.requires.apart (rw c.source_of-input.ensures at c.in_ok-records.ensures) in
      (takes_because g.M.Machine outcome_for (λ s. write_output s sets.out (names_of f) attr (packed (format_in attr) (edits f (records_of found)))) (Ok tt)
      (takes_at g.M.Machine (rw (c.in-Ok.is, c.names_of-names.ensures) at c.in_ok-write_output.ensures) told (edits f (records_of found)) gives)).works told;
  later = c.write_output.ensures.later;
  promise = c.write_output.ensures.promise;
  faults = search rules;
}

pub returns : goal.returns
returns g c = record {
  works = λ told found know.
      let sets = c.args.sets.now in
      let f = c.args.function.now in
      let attr = c.args.attr.now in
      let gives = gives_edits sets f c.args.known.now c.in_ok-records.records (g.M.Machine.meaning c.args.machine.now).state found know c.requires.apart (rw c.source_of-input.ensures at c.in_ok-records.ensures) in
      rw c.outcome_for.ensures
      ((takes_because g.M.Machine outcome_for (λ s. write_output s sets.out (names_of f) attr (packed (format_in attr) (edits f (records_of found)))) (Err c.in-Err.fault)
      (takes_at g.M.Machine (rw (c.in-Err.is, c.names_of-names.ensures) at c.in_ok-write_output.ensures) told (edits f (records_of found)) gives)).works told);
  later = c.write_output.ensures.later;
  promise = c.write_output.ensures.promise;
  faults = search rules;
}
