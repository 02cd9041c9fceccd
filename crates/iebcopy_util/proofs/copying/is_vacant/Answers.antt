use Rattle.std.proofs.Common.{◌≡◌, Bool, length, refl, sym, ◌∙◌, ap, Ok, ◌&&◌, arith, rules}
use Rattle.std.specs.Prelude.{Some, None, ◌==◌, slice_get}
use Rattle.vol_model.specs.declared.contents.Shelf.{Shelf}
use Rattle.vol_model.specs.Shelf.{blocks_of}
use Rattle.iebcopy_util.specs.Sets.{library}
use Rattle.iebcopy_util.proofs.CopyLemmas.{has_blocks, has_none, never_refused, none_length, some_length}
use Rattle.iebcopy_util.proofs.TaskLemmas.{entries_there}
use Rattle.record_files.specs.Members.{entries_of}
use Rattle.stop_model.proofs.MomentLemmas.{same_then}
use Rattle.iebcopy_util.proofs.copying.is_vacant.Goals as goal

pub returns-in-Ok-Some : goal.returns-in-Ok-Some
returns-in-Ok-Some g c = record {
  value = λ told x is.
      let s = (g.M.Machine.meaning c.args.machine.now).state in
      let there = entries_there s s c.args.out.now x refl is in
      let at = rw (c.in-Ok-Some.is, c.in-Ok-Some.field-0-is) at (c.in_ok-entry_at.ensures.reads.value told (entries_of x.body) there) in
      let some : slice_get (entries_of x.body) 0 ≡ Some c.in-Ok-Some.field-0-0 = cc in
      ap Ok (sym (ap (λ (t : Bool). t && (length (blocks_of x.body) == 0)) (some_length (entries_of x.body) c.in-Ok-Some.field-0-0 some)));
  same = search rules;
  count = search rules;
  promise = search rules;
  faults = search rules;
}

pub returns-in-Err : goal.returns-in-Err
returns-in-Err g c = record {
  value = λ told x is.
      let s = (g.M.Machine.meaning c.args.machine.now).state in
      let at = rw c.in-Err.is at (c.in_ok-entry_at.ensures.reads.value told (entries_of x.body) (entries_there s s c.args.out.now x refl is)) in
      let never : ⊥ = cc in absurd never;
  same = search rules;
  count = search rules;
  promise = search rules;
  faults = search rules;
}

pub returns-in-Ok-true : goal.returns-in-Ok-true
returns-in-Ok-true g c = record {
  value = λ told x is.
      let m = g.M.Machine.meaning in
      let still = ap (λ (u : Shelf). library u c.args.out.now) (c.entry_at.ensures.reads.same told).state ∙ is in
      let found = rw (c.in-Ok-true.is, c.in-Ok-true.field-0-test) at (c.in_ok-next_block.ensures.found told) in
      ap Ok (sym (has_blocks (m c.entry_at.new.machine).state c.args.out.now x still (length (entries_of x.body) == 0) c.next_block.new.buf found));
  same = λ told. same_then (c.entry_at.ensures.reads.same told) (c.next_block.ensures.same told);
  count = c.next_block.ensures.count ∙ c.entry_at.ensures.reads.count;
  promise = λ told t known early kept. c.next_block.ensures.promise told t known (omega (arith, early, (c.entry_at.ensures.reads.same told).time.later)) (c.entry_at.ensures.reads.promise told t known early kept);
  faults = search rules;
}

pub returns-in-Ok-false : goal.returns-in-Ok-false
returns-in-Ok-false g c = record {
  value = λ told x is.
      let m = g.M.Machine.meaning in
      let s = (m c.args.machine.now).state in
      let still = ap (λ (u : Shelf). library u c.args.out.now) (c.entry_at.ensures.reads.same told).state ∙ is in
      let found = rw (c.in-Ok-false.is, c.in-Ok-false.field-0-test) at (c.in_ok-next_block.ensures.found told) in
      let at = rw (c.in-Ok-None.is, c.in-Ok-None.field-0-is) at (c.in_ok-entry_at.ensures.reads.value told (entries_of x.body) (entries_there s s c.args.out.now x refl is)) in
      let none : slice_get (entries_of x.body) 0 ≡ None = cc in
      ap Ok (sym (ap (λ (t : Bool). t && (length (blocks_of x.body) == 0)) (none_length (entries_of x.body) none) ∙ has_none (m c.entry_at.new.machine).state c.args.out.now x still c.next_block.new.buf found));
  same = λ told. same_then (c.entry_at.ensures.reads.same told) (c.next_block.ensures.same told);
  count = c.next_block.ensures.count ∙ c.entry_at.ensures.reads.count;
  promise = λ told t known early kept. c.next_block.ensures.promise told t known (omega (arith, early, (c.entry_at.ensures.reads.same told).time.later)) (c.entry_at.ensures.reads.promise told t known early kept);
  faults = search rules;
}

pub returns-in-Err-2 : goal.returns-in-Err-2
returns-in-Err-2 g c = record {
  value = λ told x is.
      let m = g.M.Machine.meaning in
      let still = ap (λ (u : Shelf). library u c.args.out.now) (c.entry_at.ensures.reads.same told).state ∙ is in
      absurd (never_refused (m c.entry_at.new.machine).state c.args.out.now x c.in-Err-2.fault (record { tt = 0; r = 0 }) c.next_block.new.buf still (rw c.in-Err-2.is at (c.in_ok-next_block.ensures.found told)));
  same = λ told. same_then (c.entry_at.ensures.reads.same told) (c.next_block.ensures.same told);
  count = c.next_block.ensures.count ∙ c.entry_at.ensures.reads.count;
  promise = λ told t known early kept. c.next_block.ensures.promise told t known (omega (arith, early, (c.entry_at.ensures.reads.same told).time.later)) (c.entry_at.ensures.reads.promise told t known early kept);
  faults = search rules;
}
