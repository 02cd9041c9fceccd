use Rattle.std.proofs.Common.{◌≡◌, ◌≤◌, ◌&&◌, true, false, refl, sym, ◌∙◌, rules}
use Rattle.vol_model.specs.Places.{is_end_of_file}
use Rattle.util_steps.specs.Copying.{source}
use Rattle.util_steps.proofs.Following.{found_some}
use Rattle.util_steps.proofs.Progress.{falls, source_blocks}
use Rattle.record_files.proofs.ReaderLemmas.{fewer_behind, next_ends, next_fault, next_none, next_read, step_as}
use Rattle.record_files.proofs.block_reading.read_next.Goals as goal

pub returns-in-Ok-false-clause-reads : goal.returns-in-Ok-false-clause-reads
returns-in-Ok-false-clause-reads g c = record {
  value = λ told.
      let s = (g.M.Machine.meaning c.args.machine.now).state in
      let r = c.args.reader.now in
      let found = rw (c.in-Ok-false.is, c.in-Ok-false.field-0-test) at (c.in_ok-next_block.ensures.found told) in
      step_as c.end.result r.rec.items (next_none r c.requires.empty s found.0 found.1 found.2) refl (c.end.ensures.gives r.rec.items _);
  runs = search rules;
  writer = search rules;
  count = search rules;
  promise = search rules;
  faults = search rules;
}

pub returns-then-ends_member-clause-reads : goal.returns-then-ends_member-clause-reads
returns-then-ends_member-clause-reads g c = record {
  value = λ told.
      let s = (g.M.Machine.meaning c.args.machine.now).state in
      let r = c.args.reader.now in
      let b = c.next_block.new.buf in
      let found = rw (c.in-Ok-true.is, c.in-Ok-true.field-0-test) at (c.in_ok-next_block.ensures.found told) in
      let some = found_some (source s r.set) r.place b found.0 found.1 found in
      let end : (r.within && is_end_of_file b) ≡ true = sym c.ends_member.ensures ∙ c.if-ends_member.true in
      step_as c.end-then-ends_member.result r.rec.items (next_ends r c.requires.empty s found.0 found.1 b some.0 some.1 end) refl (c.end-then-ends_member.ensures.gives r.rec.items _);
  runs = search rules;
  writer = search rules;
  count = search rules;
  promise = search rules;
  faults = search rules;
}

pub returns-in-Err-clause-reads : goal.returns-in-Err-clause-reads
returns-in-Err-clause-reads g c = record {
  value = λ told.
      let s = (g.M.Machine.meaning c.args.machine.now).state in
      let r = c.args.reader.now in
      next_fault r c.requires.empty s r.place c.next_block.new.buf c.in-Err.field-0 (rw c.in-Err.is at (c.in_ok-next_block.ensures.found told));
  runs = search rules;
  writer = search rules;
  count = search rules;
  promise = search rules;
  faults = search rules;
}

pub returns-clause-reads : goal.returns-clause-reads
returns-clause-reads g c = record {
  value = λ told.
      let s = (g.M.Machine.meaning c.args.machine.now).state in
      let r = c.args.reader.now in
      let b = c.next_block.new.buf in
      let found = rw (c.in-Ok-true.is, c.in-Ok-true.field-0-test) at (c.in_ok-next_block.ensures.found told) in
      let some = found_some (source s r.set) r.place b found.0 found.1 found in
      let goes_on : (r.within && is_end_of_file b) ≡ false = sym c.ends_member.ensures ∙ c.if-ends_member.false in
      let are = source_blocks s r.set found.0 (g.met.M.Machine.lawful c.args.machine.now told c.requires.sound) found.1 in
      next_read r c.requires.empty s found.0 found.1 _ b some.0 c.new.result are some.1 goes_on refl refl refl refl refl c.next_place-reader.ensures.after refl
      (rw c.payload.ensures at c.new.ensures.reading);
  runs = search rules;
  writer = search rules;
  count = search rules;
  promise = search rules;
  faults = search rules;
}

pub returns-clause-fewer : goal.returns-clause-fewer
returns-clause-fewer g c goes_on =
    let r = c.args.reader.now in
    let b = c.next_block.new.buf in
    let onward = c.next_place-reader.ensures.onward in
    let low : r.place.r ≤ 255 = search rules in
    fewer_behind r _ c.new.result (falls r.place c.next_place-reader.result low onward.track onward.record_number onward.after) refl (search rules) (search rules)
