use Rattle.std.proofs.Common.{ap, subst, ◌∙◌, arith, rules}
use Rattle.record_blocks.specs.declared.formats.Format.{Format}
use Rattle.vol_model.specs.declared.requests.Op.TheVariants.{Empty}
use Rattle.vol_model.specs.Runs.{Works}
use Rattle.vol_model.specs.declared.answers.Mode.TheVariants as modes
use Rattle.util_steps.proofs.Ending.{apply_state, source_kept}
use Rattle.record_files.specs.Attributes.{format_in}
use Rattle.record_files.specs.Writing.{Coming, appended, packed}
use Rattle.record_files.proofs.WrittenLemmas.{rewritten_all, rewritten_fault, rewritten_stopped}
use Rattle.record_files.proofs.writing.rewrite_set.Goals as goal

pub returns-in_err-fault : goal.returns-in_err-fault
returns-in_err-fault g c = record {
  works = λ told st same.
      rewritten_stopped c.args.to.now c.args.attr.now (packed (format_in c.args.attr.now) st) c.empty.result c.from_residual.result c.from_residual.ensures.0 (c.empty.ensures.takes.works told);
  later = λ told. (c.empty.ensures.takes.works told).runs.moments.later;
  promise = search rules;
  faults = search rules;
}

pub returns-in-Err : goal.returns-in-Err
returns-in-Err g c = record {
  works = λ told st same.
      rewritten_fault c.args.to.now c.args.attr.now (packed (format_in c.args.attr.now) st) c.in-Err.fault (rw c.in-Err.is at (c.in_ok-fault.ensures.takes.works told));
  later = λ told. (c.empty.ensures.takes.works told).runs.moments.later;
  promise = search rules;
  faults = search rules;
}

pub returns : goal.returns
returns g c = record {
  works = λ told st same.
      let m = g.M.Machine.meaning in
      let s = g.M.Machine.status in
      let to = c.args.to.now in
      let attr = c.args.attr.now in
      let works = rw c.in_default.is at (c.in_ok-fault.ensures.takes.works told) in
      let done = apply_state (Empty to.v to.dsn attr) c.in_default.field-0 works in
      let still = same (m c.empty.new.machine).state (λ from apart. source_kept (m c.args.machine.now).state (m c.empty.new.machine).state from to attr apart done) in
      rewritten_all to attr _ c.in_default.field-0 c.add_records.result works
      (subst (λ (x : Coming). Works g.M.Machine.tells_prints (appended (m c.empty.new.machine).state to modes.Fill x) (m c.empty.new.machine) (m c.add_records.new.machine) (s c.empty.new.machine).done (s c.add_records.new.machine).done c.add_records.result)
      (ap (λ (f : Format). packed f (g.R.RecordSource.stream c.args.records.now (m c.empty.new.machine).state)) c.format_in.ensures ∙ ap (packed _) still)
      (c.add_records.ensures.works told));
  later = λ told. let one = (c.empty.ensures.takes.works told).runs.moments.later in let two = (c.add_records.ensures.works told).runs.moments.later in omega (arith, one, two);
  promise = search rules;
  faults = search rules;
}
