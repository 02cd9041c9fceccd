use Rattle.std.proofs.Common.{sym, rules}
use Rattle.record_files.proofs.block_reading.step.Goals as goal

pub returns-in-None-clause-reads : goal.returns-in-None-clause-reads
returns-in-None-clause-reads g c = record {
  value = λ told. let taken = rw c.in-None.is at c.in_ok-step.ensures in rw (sym (taken.1 (g.M.Machine.meaning c.args.machine.now).state)) at (c.read_next.ensures.reads.value told);
  runs = search rules;
  writer = search rules;
  count = search rules;
  promise = search rules;
  faults = search rules;
}

pub returns-in-None-clause-fewer : goal.returns-in-None-clause-fewer
returns-in-None-clause-fewer g c = let taken = rw c.in-None.is at c.in_ok-step.ensures in rw taken.2 at c.read_next.ensures.fewer
