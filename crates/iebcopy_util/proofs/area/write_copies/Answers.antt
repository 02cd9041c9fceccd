use Rattle.std.proofs.Common.{Err, refl, ap, rules}
use Rattle.vol_model.specs.Calls.{Status}
use Rattle.vol_model.specs.declared.answers.Stop.TheVariants.{Memory, Device, Print}
use Rattle.vol_model.proofs.Working.{works_abandoned}
use Rattle.util_steps.specs.Copying.{source}
use Rattle.util_steps.proofs.Ending.{written_all, written_fault, written_stopped}
use Rattle.iebcopy_util.specs.Steps.{blocks_at}
use Rattle.iebcopy_util.proofs.area.write_copies.Goals as goal

pub returns-in-Ok-Ok-clause-takes : goal.returns-in-Ok-Ok-clause-takes
returns-in-Ok-Ok-clause-takes g c = record {
  works = λ told.
      let w = g.M.Machine.writer c.args.machine.now in
      let bs = blocks_at (source (g.M.Machine.meaning c.args.machine.now).state c.args.from.now) c.args.at.now in
      written_all w.target bs w (g.M.Machine.writer c.put_copies.new.machine) c.in-Ok-Ok.field-0-0 c.commit.result (c.requires.begins told)
      (rw c.in-Ok-Ok.field-0-is at (c.in-Ok-Ok.ensures.writer told)) (rw c.in-Ok-Ok.field-0-is at (c.in-Ok-Ok.ensures.works told)) (c.commit.ensures.works told);
  promise = search rules;
  faults = search rules;
}

pub returns-in-Ok-Err-clause-takes : goal.returns-in-Ok-Err-clause-takes
returns-in-Ok-Err-clause-takes g c = record {
  works = λ told.
      let w = g.M.Machine.writer c.args.machine.now in
      let bs = blocks_at (source (g.M.Machine.meaning c.args.machine.now).state c.args.from.now) c.args.at.now in
      written_fault w.target bs w c.in-Ok-Err.fault (c.requires.begins told) (rw c.in-Ok-Err.field-0-is at (c.in-Ok-Err.ensures.works told)) (c.abandon.ensures.same told) (g.met.M.Machine.durable c.put_copies.new.machine told c.in-Ok-Err.ensures.call.faults.sound) (ap (λ (s : Status). s.done) c.abandon.ensures.status);
  promise = search rules;
  faults = search rules;
}

pub returns-in-Err-Memory-clause-takes : goal.returns-in-Err-Memory-clause-takes
returns-in-Err-Memory-clause-takes g c = record {
  works = λ told.
      let w = g.M.Machine.writer c.args.machine.now in
      let bs = blocks_at (source (g.M.Machine.meaning c.args.machine.now).state c.args.from.now) c.args.at.now in
      let law = g.met.M.Machine in
      works_abandoned (Err Memory) refl (law.only_now c.args.machine.now) (law.counts_now c.put_copies.new.machine) (law.durable c.args.machine.now told c.requires.writing.sound)
      (written_stopped w.target bs w c.put_copies.result (Err Memory) refl (c.requires.begins told) (c.put_copies.ensures.works told)) (c.abandon-in-Err-Memory.ensures.same told);
  promise = search rules;
  faults = search rules;
}

pub returns-in-Err-Device-clause-takes : goal.returns-in-Err-Device-clause-takes
returns-in-Err-Device-clause-takes g c = record {
  works = λ told.
      let w = g.M.Machine.writer c.args.machine.now in
      written_stopped w.target (blocks_at (source (g.M.Machine.meaning c.args.machine.now).state c.args.from.now) c.args.at.now) w c.put_copies.result (Err Device) refl (c.requires.begins told) (c.put_copies.ensures.works told);
  promise = search rules;
  faults = search rules;
}

pub returns-in-Err-Print-clause-takes : goal.returns-in-Err-Print-clause-takes
returns-in-Err-Print-clause-takes g c = record {
  works = λ told.
      let w = g.M.Machine.writer c.args.machine.now in
      written_stopped w.target (blocks_at (source (g.M.Machine.meaning c.args.machine.now).state c.args.from.now) c.args.at.now) w c.put_copies.result (Err Print) refl (c.requires.begins told) (c.put_copies.ensures.works told);
  promise = search rules;
  faults = search rules;
}
