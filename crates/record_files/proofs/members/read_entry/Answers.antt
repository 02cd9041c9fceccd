use Rattle.std.proofs.Common.{sym, ap, rules, Ok}
use Rattle.vol_model.specs.Reading.{entries_in}
use Rattle.vol_model.specs.Writing.{body_on}
use Rattle.record_files.proofs.MemberLemmas.{entry_picked, entry_refused}
use Rattle.record_files.proofs.members.read_entry.Goals as goal

pub returns-in-Ok : goal.returns-in-Ok
returns-in-Ok g c = record {
  value = λ told es is. ap Ok (sym (entry_picked c.args.name.now (entries_in (body_on (g.M.Machine.meaning c.args.machine.now).state c.args.set.now.v c.args.set.now.dsn.bytes)) es c.in-Ok.found is (c.in-Ok.ensures.value told)));
  same = search rules;
  count = search rules;
  promise = search rules;
  faults = search rules;
}

pub returns-in-Err-Unreadable : goal.returns-in-Err-Unreadable
returns-in-Err-Unreadable g c = record {
  value = λ told es is. absurd (entry_refused (entries_in (body_on (g.M.Machine.meaning c.args.machine.now).state c.args.set.now.v c.args.set.now.dsn.bytes)) es c.in-Err-Unreadable.track is (rw c.in-Err-Unreadable.field-0-is at (c.in-Err-Unreadable.ensures.value told)));
  same = search rules;
  count = search rules;
  promise = search rules;
  faults = search rules;
}
