use Rattle.std.proofs.Common.{arith, rules}
use Rattle.record_files.specs.Advancing.{forgetting}
use Rattle.record_files.specs.Attributes.{format_in}
use Rattle.record_files.specs.Writing.{packed}
use Rattle.output_files.specs.Members.{names_view}
use Rattle.output_files.proofs.StoreLemmas.{stored_all, stored_fault, stored_stopped}
use Rattle.output_files.proofs.outputs.write_named.Goals as goal

pub returns-in_err-place : goal.returns-in_err-place
returns-in_err-place g c = record {
  works = λ told bs there.
      let blocks = packed (format_in c.args.attr.now) (g.R.RecordSource.stream c.args.records.now (g.M.Machine.meaning c.args.machine.now).state) in
      stored_stopped c.args.to.now (names_view c.args.names.now) blocks (forgetting c.write_member.result) c.from_residual.result c.from_residual.ensures.0 (rw c.format_in.ensures at (c.write_member.ensures.takes.works told bs there));
  later = λ told. c.write_member.ensures.takes.later told;
  promise = search rules;
  faults = search rules;
}

pub returns-in-Err : goal.returns-in-Err
returns-in-Err g c = record {
  works = λ told bs there.
      let blocks = packed (format_in c.args.attr.now) (g.R.RecordSource.stream c.args.records.now (g.M.Machine.meaning c.args.machine.now).state) in
      stored_fault c.args.to.now (names_view c.args.names.now) blocks c.in-Err.fault (rw (c.in-Err.is, c.format_in.ensures) at (c.in_ok-place.ensures.takes.works told bs there));
  later = λ told. c.write_member.ensures.takes.later told;
  promise = search rules;
  faults = search rules;
}

pub returns : goal.returns
returns g c = record {
  works = λ told bs there.
      let blocks = packed (format_in c.args.attr.now) (g.R.RecordSource.stream c.args.records.now (g.M.Machine.meaning c.args.machine.now).state) in
      stored_all c.args.to.now (names_view c.args.names.now) blocks tt (rw (c.in-Ok.is, c.format_in.ensures) at (c.in_ok-place.ensures.takes.works told bs there)) c.in-Ok.place c.enter.result
      (rw (c.in-Ok.is, c.format_in.ensures) at (c.in_ok-place.ensures.start told bs there)) (c.enter.ensures.works told);
  later = λ told. let two = (c.enter.ensures.works told).runs.moments.later in omega (arith, c.write_member.ensures.takes.later told, two);
  promise = λ told t known early kept. c.enter.ensures.promise told t known (omega (arith, early, c.write_member.ensures.takes.later told)) (c.write_member.ensures.takes.promise told t known early kept);
  faults = search rules;
}
