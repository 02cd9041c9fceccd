use Rattle.std.proofs.Common.{ap, ◌∙◌, subst, rules}
use Rattle.vol_model.specs.declared.contents.Shelf.{Shelf}
use Rattle.vol_model.specs.Runs.{Works}
use Rattle.vol_model.specs.Writing.{OpenWriter}
use Rattle.util_steps.specs.Copying.{target}
use Rattle.record_files.specs.Advancing.{first_place_put, forgetting}
use Rattle.record_files.specs.Writing.{packed, written}
use Rattle.record_files.proofs.WrittenLemmas.{appended_all, appended_fault, appended_stopped, begins, first_behind, forgets_failed}
use Rattle.record_files.proofs.writing.write_records.Goals as goal

pub returns-in_err-fault-clause-takes : goal.returns-in_err-fault-clause-takes
returns-in_err-fault-clause-takes g c = record {
  works = λ told.
      let blocks = packed c.args.format (g.R.RecordSource.stream c.args.records.now (g.M.Machine.meaning c.args.machine.now).state) in
      appended_stopped c.args.to.now c.args.mode blocks c.begin.result (forgetting c.from_residual.result) (forgets_failed c.from_residual.result c.from_residual.ensures.0) (c.begin.ensures.works told);
  promise = search rules;
  faults = search rules;
}

pub returns-in-Err-clause-takes : goal.returns-in-Err-clause-takes
returns-in-Err-clause-takes g c = record {
  works = λ told.
      let blocks = packed c.args.format (g.R.RecordSource.stream c.args.records.now (g.M.Machine.meaning c.args.machine.now).state) in
      appended_fault c.args.to.now c.args.mode blocks c.in-Err.fault (rw c.in-Err.is at (c.in_ok-fault.ensures.works told));
  promise = search rules;
  faults = search rules;
}

pub returns-clause-takes : goal.returns-clause-takes
returns-clause-takes g c = record {
  works = λ told.
      let m = g.M.Machine.meaning in
      let s = g.M.Machine.status in
      let w = g.M.Machine.writer c.begin.new.machine in
      let stream = g.R.RecordSource.stream c.args.records.now in
      let works = rw c.in_default.is at (c.in_ok-fault.ensures.works told) in
      let writer = rw c.in_default.is at (c.in_ok-fault.ensures.writer told) in
      let state = c.begin.ensures.state told in
      appended_all c.args.to.now c.args.mode (packed c.args.format (stream (m c.args.machine.now).state)) w c.in_default.field-0 (forgetting c.fill.result) writer works
      (subst (λ (x : Shelf). Works g.M.Machine.tells_prints (written (m c.begin.new.machine).state w.target (packed c.args.format (stream x))) (m c.begin.new.machine) (m c.fill.new.machine) (s c.begin.new.machine).done (s c.fill.new.machine).done (forgetting c.fill.result)) state
      (c.fill.ensures.takes.works told));
  promise = search rules;
  faults = search rules;
}

pub returns-clause-start : goal.returns-clause-start
returns-clause-start g c told =
    let m = g.M.Machine.meaning in
    let w = g.M.Machine.writer c.begin.new.machine in
    let stream = g.R.RecordSource.stream c.args.records.now in
    let writer = rw c.in_default.is at (c.in_ok-fault.ensures.writer told) in
    let state = c.begin.ensures.state told in
    first_behind c.fill.result (c.fill.ensures.start told)
    (ap (λ (x : OpenWriter). first_place_put (m c.begin.new.machine).state x.target (packed c.args.format (stream (m c.begin.new.machine).state)).blocks) writer
    ∙ ap (λ (x : Shelf). first_place_put x (target c.args.to.now c.args.mode) (packed c.args.format (stream x)).blocks) state)

pub fill-requires-clause-begins : goal.fill-requires-clause-begins
fill-requires-clause-begins g c told = begins (rw c.in_default.is at (c.in_ok-fault.ensures.writer told))
