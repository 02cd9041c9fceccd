use Rattle.std.proofs.Common.{arith, rules}
use Rattle.std.proofs.lemmas.List.{nil_from_length}
use Rattle.record_files.specs.Members.{ends_directory}
use Rattle.output_files.specs.Members.{did_aliases}
use Rattle.output_files.proofs.EnterLemmas.{aliases_done, alias_fault, alias_further, alias_stopped, entered_none}
use Rattle.output_files.proofs.MemberLemmas.{none_first}
use Rattle.output_files.proofs.members.enter_aliases.Goals as goal

pub loop-parts-init : goal.loop-parts-init
loop-parts-init g c = record {
  so_far = λ told. entered_none g.M.Machine.tells_prints (did_aliases (g.M.Machine.meaning c.args.machine.now).state c.args.to.now c.args.place c.args.replaces c.args.aliases.now) (g.M.Machine.meaning c.args.machine.now) (g.M.Machine.status c.args.machine.now).done;
  lawful = c.requires.lawful;
  later = λ told. omega arith;
  promise = λ told t known early kept. kept;
  call = search rules;
}

pub returns-in-None : goal.returns-in-None
returns-in-None g c = record {
  works = λ told. aliases_done c.args.to.now c.args.place c.args.replaces c.loop-parts.rest.now (nil_from_length c.loop-parts.rest.now c.in-None.ensures.cases) (c.loop-parts.invariant.so_far told);
  promise = search rules;
  faults = search rules;
}

pub enter_name-requires-clause-lawful : goal.enter_name-requires-clause-lawful
enter_name-requires-clause-lawful g c = rw c.other_name.ensures (none_first ends_directory c.in-Some.parts.0.now c.in-Some.parts.1.now c.loop-parts.rest.now c.in-Some.ensures.cases.0 c.loop-parts.invariant.lawful).0

pub returns-in_err-enter_name : goal.returns-in_err-enter_name
returns-in_err-enter_name g c = record {
  works = λ told. alias_stopped c.args.to.now c.args.place c.args.replaces c.in-Some.parts.0.now c.in-Some.parts.1.now c.loop-parts.rest.now c.in-Some.ensures.cases.0 (c.loop-parts.invariant.so_far told) c.enter_name.result c.from_residual.result c.from_residual.ensures.0 (rw c.other_name.ensures at (c.enter_name.ensures.works told));
  promise = search rules;
  faults = search rules;
}

pub returns-in-Err : goal.returns-in-Err
returns-in-Err g c = record {
  works = λ told. alias_fault c.args.to.now c.args.place c.args.replaces c.in-Some.parts.0.now c.in-Some.parts.1.now c.loop-parts.rest.now c.in-Some.ensures.cases.0 (c.loop-parts.invariant.so_far told) c.in-Err.fault (rw (c.in-Err.is, c.other_name.ensures) at (c.in_ok-enter_name.ensures.works told));
  promise = search rules;
  faults = search rules;
}

pub loop-parts-preserved : goal.loop-parts-preserved
loop-parts-preserved g c =
    let inv = c.loop-parts.invariant in
    let others = c.in-Some.parts.1.now in
    record {
      so_far = λ told. alias_further c.args.to.now c.args.place c.args.replaces c.in-Some.parts.0.now others c.loop-parts.rest.now c.in-Some.ensures.cases.0 (inv.so_far told) tt (rw (c.in-Ok.is, c.other_name.ensures) at (c.in_ok-enter_name.ensures.works told));
      lawful = (none_first ends_directory c.in-Some.parts.0.now others c.loop-parts.rest.now c.in-Some.ensures.cases.0 inv.lawful).1;
      later = λ told. omega (arith, inv.later told, (rw c.other_name.ensures at (c.enter_name.ensures.works told)).runs.moments.later);
      promise = λ told t known early kept. c.enter_name.ensures.promise told t known (omega (arith, early, inv.later told)) (inv.promise told t known early kept);
      call = search rules;
    }
