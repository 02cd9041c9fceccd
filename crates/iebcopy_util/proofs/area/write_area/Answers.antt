use Rattle.std.proofs.Common.{rules, arith, sym, ap, subst}
use Rattle.vol_model.specs.declared.answers.Mode.TheVariants as modes
use Rattle.vol_model.specs.declared.contents.Shelf.{Shelf}
use Rattle.util_steps.specs.Copying.{source}
use Rattle.util_steps.proofs.Ending.{filled_all, filled_fault, filled_stopped}
use Rattle.record_files.proofs.WrittenLemmas.{begins}
use Rattle.iebcopy_util.specs.Steps.{HasBlocks, blocks_at}
use Rattle.iebcopy_util.proofs.area.write_area.Goals as goal

pub returns-in_err-fault-clause-takes : goal.returns-in_err-fault-clause-takes
returns-in_err-fault-clause-takes g c = record {
  works = λ told. filled_stopped c.args.out.now modes.Area _ c.begin.result c.from_residual.result c.from_residual.ensures.0 (c.begin.ensures.works told);
  promise = search rules;
  faults = search rules;
}

pub returns-in-Err-clause-takes : goal.returns-in-Err-clause-takes
returns-in-Err-clause-takes g c = record {
  works = λ told. filled_fault c.args.out.now modes.Area _ c.in-Err.fault (rw c.in-Err.is at (c.in_ok-fault.ensures.works told));
  promise = search rules;
  faults = search rules;
}

pub write_copies-requires-clause-begins : goal.write_copies-requires-clause-begins
write_copies-requires-clause-begins g c told = begins (rw c.in_default.is at (c.in_ok-fault.ensures.writer told))

pub write_copies-requires-clause-found : goal.write_copies-requires-clause-found
write_copies-requires-clause-found g c told = subst (λ (s : Shelf). HasBlocks (source s c.args.from.now) c.args.at.now) (sym (c.begin.ensures.state told)) (c.requires.found told)

pub returns-clause-takes : goal.returns-clause-takes
returns-clause-takes g c = record {
  works = λ told.
      filled_all c.args.out.now modes.Area _ (g.M.Machine.writer c.begin.new.machine) c.in_default.field-0 c.write_copies.result (rw c.in_default.is at (c.in_ok-fault.ensures.writer told)) (rw c.in_default.is at (c.in_ok-fault.ensures.works told))
      (rw (ap (λ (s : Shelf). blocks_at (source s c.args.from.now) c.args.at.now) (c.begin.ensures.state told)) at (c.write_copies.ensures.takes.works told));
  promise = λ told t known early kept. c.write_copies.ensures.takes.promise told t known (let begun = c.begin.ensures.works told in omega (arith, early, begun.runs.moments.later)) (c.begin.ensures.promise told t known early kept);
  faults = search rules;
}
