use Rattle.std.proofs.Common.{Err, Ok, refl, ap, rules}
use Rattle.vol_model.specs.Calls.{Status}
use Rattle.vol_model.specs.declared.answers.Stop.TheVariants.{Memory, Device, Print}
use Rattle.vol_model.proofs.Working.{works_abandoned}
use Rattle.record_files.specs.Advancing.{forgetting}
use Rattle.record_files.specs.Writing.{packed}
use Rattle.record_files.proofs.AdvanceLemmas.{all_start}
use Rattle.record_files.proofs.WrittenLemmas.{forgets_failed, stops_as, written_all, written_fault, written_stopped}
use Rattle.record_files.proofs.writing.fill.Goals as goal

pub returns-in_err-commit-in-Ok-Ok-clause-takes : goal.returns-in_err-commit-in-Ok-Ok-clause-takes
returns-in_err-commit-in-Ok-Ok-clause-takes g c = record {
  works = λ told.
      let w = g.M.Machine.writer c.args.machine.now in
      let blocks = packed c.args.format (g.R.RecordSource.stream c.args.records.now (g.M.Machine.meaning c.args.machine.now).state) in
      written_all w.target blocks w (g.M.Machine.writer c.put_records.new.machine) (forgetting c.from_residual.result) (c.requires.begins told)
      (rw c.in-Ok-Ok.field-0-is at (c.in-Ok-Ok.ensures.advances told)).step (stops_as c.commit.result (forgetting c.from_residual.result) (forgets_failed c.from_residual.result c.from_residual.ensures.0) (c.commit.ensures.works told));
  promise = search rules;
  faults = search rules;
}

pub returns-in-Ok-clause-takes : goal.returns-in-Ok-clause-takes
returns-in-Ok-clause-takes g c = record {
  works = λ told.
      let w = g.M.Machine.writer c.args.machine.now in
      let blocks = packed c.args.format (g.R.RecordSource.stream c.args.records.now (g.M.Machine.meaning c.args.machine.now).state) in
      written_all w.target blocks w (g.M.Machine.writer c.put_records.new.machine) (Ok (Ok tt)) (c.requires.begins told)
      (rw c.in-Ok-Ok.field-0-is at (c.in-Ok-Ok.ensures.advances told)).step (rw c.in-Ok.is at (c.in_ok-commit-in-Ok-Ok.ensures.works told));
  promise = search rules;
  faults = search rules;
}

pub returns-in-Ok-clause-start : goal.returns-in-Ok-clause-start
returns-in-Ok-clause-start g c told =
    let w = g.M.Machine.writer c.args.machine.now in
    all_start (rw c.in-Ok-Ok.field-0-is at (c.in-Ok-Ok.ensures.advances told)).step w.target (c.requires.begins told) refl

pub returns-in-Err-clause-takes : goal.returns-in-Err-clause-takes
returns-in-Err-clause-takes g c = record {
  works = λ told.
      let w = g.M.Machine.writer c.args.machine.now in
      let blocks = packed c.args.format (g.R.RecordSource.stream c.args.records.now (g.M.Machine.meaning c.args.machine.now).state) in
      written_all w.target blocks w (g.M.Machine.writer c.put_records.new.machine) (Ok (Err c.in-Err.fault)) (c.requires.begins told)
      (rw c.in-Ok-Ok.field-0-is at (c.in-Ok-Ok.ensures.advances told)).step (rw c.in-Err.is at (c.in_ok-commit-in-Ok-Ok.ensures.works told));
  promise = search rules;
  faults = search rules;
}

pub returns-in-Ok-Err-clause-takes : goal.returns-in-Ok-Err-clause-takes
returns-in-Ok-Err-clause-takes g c = record {
  works = λ told.
      let w = g.M.Machine.writer c.args.machine.now in
      let blocks = packed c.args.format (g.R.RecordSource.stream c.args.records.now (g.M.Machine.meaning c.args.machine.now).state) in
      written_fault w.target blocks w c.in-Ok-Err.fault (c.requires.begins told) (rw c.in-Ok-Err.field-0-is at (c.in-Ok-Err.ensures.advances told)).step
      (c.abandon.ensures.same told) (g.met.M.Machine.durable c.put_records.new.machine told c.in-Ok-Err.ensures.call.faults.sound) (ap (λ (s : Status). s.done) c.abandon.ensures.status);
  promise = search rules;
  faults = search rules;
}

pub returns-in-Err-Memory-clause-takes : goal.returns-in-Err-Memory-clause-takes
returns-in-Err-Memory-clause-takes g c = record {
  works = λ told.
      let w = g.M.Machine.writer c.args.machine.now in
      let law = g.met.M.Machine in
      let blocks = packed c.args.format (g.R.RecordSource.stream c.args.records.now (g.M.Machine.meaning c.args.machine.now).state) in
      works_abandoned (Err Memory) refl (law.only_now c.args.machine.now) (law.counts_now c.put_records.new.machine) (law.durable c.args.machine.now told c.requires.writing.sound)
      (written_stopped w.target blocks w (Err Memory) (Err Memory) refl (c.requires.begins told) (rw c.in-Err-Memory.field-0-is at (c.in-Err-Memory.ensures.advances told)).step) (c.abandon-in-Err-Memory.ensures.same told);
  promise = search rules;
  faults = search rules;
}

pub returns-in-Err-Device-clause-takes : goal.returns-in-Err-Device-clause-takes
returns-in-Err-Device-clause-takes g c = record {
  works = λ told.
      let w = g.M.Machine.writer c.args.machine.now in
      let blocks = packed c.args.format (g.R.RecordSource.stream c.args.records.now (g.M.Machine.meaning c.args.machine.now).state) in
      written_stopped w.target blocks w (Err Device) (Err Device) refl (c.requires.begins told) (rw c.in-Err-Device.field-0-is at (c.in-Err-Device.ensures.advances told)).step;
  promise = search rules;
  faults = search rules;
}

pub returns-in-Err-Print-clause-takes : goal.returns-in-Err-Print-clause-takes
returns-in-Err-Print-clause-takes g c = record {
  works = λ told.
      let w = g.M.Machine.writer c.args.machine.now in
      let blocks = packed c.args.format (g.R.RecordSource.stream c.args.records.now (g.M.Machine.meaning c.args.machine.now).state) in
      written_stopped w.target blocks w (Err Print) (Err Print) refl (c.requires.begins told) (rw c.in-Err-Print.field-0-is at (c.in-Err-Print.ensures.advances told)).step;
  promise = search rules;
  faults = search rules;
}
