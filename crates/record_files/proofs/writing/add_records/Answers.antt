use Rattle.std.proofs.Common.{rules}
use Rattle.record_files.proofs.WrittenLemmas.{forgotten}
use Rattle.record_files.proofs.writing.add_records.Goals as goal

pub returns-in_err-write_records : goal.returns-in_err-write_records
returns-in_err-write_records g c = record {
  works = λ told. forgotten c.write_records.result c.from_residual.result c.from_residual.ensures.0 (c.write_records.ensures.takes.works told);
  promise = search rules;
  faults = search rules;
}

pub returns-in-Ok : goal.returns-in-Ok
returns-in-Ok g c = record {
  works = λ told. rw c.in-Ok.is at (c.in_ok-write_records.ensures.takes.works told);
  promise = search rules;
  faults = search rules;
}

pub returns-in-Err : goal.returns-in-Err
returns-in-Err g c = record {
  works = λ told. rw c.in-Err.is at (c.in_ok-write_records.ensures.takes.works told);
  promise = search rules;
  faults = search rules;
}
