use Rattle.std.proofs.Common.{◌∙◌, ap, arith, rules}
use Rattle.vol_model.specs.declared.contents.Shelf.{Shelf}
use Rattle.iebcopy_util.specs.Sets.{library}
use Rattle.iebcopy_util.proofs.CopyLemmas.{found_told}
use Rattle.iebcopy_util.proofs.TaskLemmas.{entries_there}
use Rattle.record_files.specs.Members.{entries_of}
use Rattle.stop_model.proofs.MomentLemmas.{same_then}
use Rattle.iebcopy_util.proofs.copying.probe_output.Goals as goal

pub returns-in-Err-2 : goal.returns-in-Err-2
returns-in-Err-2 g c = record {
  value = λ told.
      let m = g.M.Machine.meaning in
      let found = rw c.in-Ok.is at (c.in_ok-info.ensures.value told) in
      let there = entries_there (m c.args.machine.now).state (m c.find_set.new.machine).state c.args.out.now found.0 (c.find_set.ensures.same told).state found.1 in
      let never = rw c.in-Err-2.is at (c.in_ok-has_name.ensures.value told (entries_of found.0.body) there) in
      let no : ⊥ = cc in absurd no;
  same = λ told. same_then (c.find_set.ensures.same told) (c.has_entry.ensures.same told);
  count = c.has_entry.ensures.count ∙ c.find_set.ensures.count;
  promise = λ told t known early kept. c.has_entry.ensures.promise told t known (omega (arith, early, (c.find_set.ensures.same told).time.later)) (c.find_set.ensures.promise told t known early kept);
  faults = search rules;
}

pub returns-in-Err-3 : goal.returns-in-Err-3
returns-in-Err-3 g c = record {
  value = λ told.
      let found = rw c.in-Ok.is at (c.in_ok-info.ensures.value told) in
      let still = ap (λ (u : Shelf). library u c.args.out.now) ((c.has_entry.ensures.same told).state ∙ (c.find_set.ensures.same told).state) ∙ found.1 in
      let never = rw c.in-Err-3.is at ((c.in_ok-vacant.ensures.value told) found.0 still) in
      let no : ⊥ = cc in absurd no;
  same = λ told. same_then (same_then (c.find_set.ensures.same told) (c.has_entry.ensures.same told)) (c.is_vacant.ensures.same told);
  count = c.is_vacant.ensures.count ∙ c.has_entry.ensures.count ∙ c.find_set.ensures.count;
  promise = λ told t known early kept.
      let first = c.has_entry.ensures.promise told t known (omega (arith, early, (c.find_set.ensures.same told).time.later)) (c.find_set.ensures.promise told t known early kept) in
      c.is_vacant.ensures.promise told t known (omega (arith, early, (c.find_set.ensures.same told).time.later, (c.has_entry.ensures.same told).time.later)) first;
  faults = search rules;
}

pub returns : goal.returns
returns g c = record {
  value = λ told.
      let m = g.M.Machine.meaning in
      let found = rw c.in-Ok.is at (c.in_ok-info.ensures.value told) in
      let there = entries_there (m c.args.machine.now).state (m c.find_set.new.machine).state c.args.out.now found.0 (c.find_set.ensures.same told).state found.1 in
      let still = ap (λ (u : Shelf). library u c.args.out.now) ((c.has_entry.ensures.same told).state ∙ (c.find_set.ensures.same told).state) ∙ found.1 in
      let has = rw c.in-Ok-2.is at (c.in_ok-has_name.ensures.value told (entries_of found.0.body) there) in
      let vacant = rw c.in-Ok-3.is at ((c.in_ok-vacant.ensures.value told) found.0 still) in
      (found.0, found.1, found_told c.args.task.now found.0 c.in-Ok.info c.is_blank.result c.in-Ok-3.vacant c.in-Ok-2.has_name found.2 c.is_blank.ensures (cc) (cc));
  same = λ told. same_then (same_then (c.find_set.ensures.same told) (c.has_entry.ensures.same told)) (c.is_vacant.ensures.same told);
  count = c.is_vacant.ensures.count ∙ c.has_entry.ensures.count ∙ c.find_set.ensures.count;
  promise = λ told t known early kept.
      let first = c.has_entry.ensures.promise told t known (omega (arith, early, (c.find_set.ensures.same told).time.later)) (c.find_set.ensures.promise told t known early kept) in
      c.is_vacant.ensures.promise told t known (omega (arith, early, (c.find_set.ensures.same told).time.later, (c.has_entry.ensures.same told).time.later)) first;
  faults = search rules;
}
