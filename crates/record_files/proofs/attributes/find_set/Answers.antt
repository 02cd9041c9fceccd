use Rattle.std.proofs.Common.{◌≡◌, true, false, sym, subst, rules}
use Rattle.std.specs.Prelude.{Result, is_some, option_map, slice_get}
use Rattle.vol_model.specs.Reading.{volume_info}
use Rattle.vol_model.specs.declared.answers.SetInfo.{SetInfo}
use Rattle.vol_model.specs.declared.refusals.Refusal.{Refusal}
use Rattle.record_files.specs.Attributes.{FindsSet, usable_set}
use Rattle.record_files.proofs.FoundLemmas.{found_no_set, found_no_volume, found_some}
use Rattle.record_files.proofs.attributes.find_set.Goals as goal

pub returns-in-Some : goal.returns-in-Some
returns-in-Some g c = record {
  value = λ told.
      let shelf = (g.M.Machine.meaning c.args.machine.now).state in
      let s = c.args.set.now in
      subst (λ (r : Result SetInfo Refusal). FindsSet r (usable_set shelf c.args.purpose s)) (sym c.unless_refused.ensures)
      (found_some shelf c.args.purpose s c.in-Some.info (rw c.in-Some.is at (c.in_ok-info.ensures.value told)));
  same = search rules;
  count = search rules;
  promise = search rules;
  faults = search rules;
}

pub returns-in-None : goal.returns-in-None
returns-in-None g c = record {
  value = λ told.
      let shelf = (g.M.Machine.meaning c.args.machine.now).state in
      let s = c.args.set.now in
      let mounted : is_some (option_map volume_info (slice_get shelf.volumes s.v)) ≡ true = cc (c.volume.ensures told, c.is_some-mounted.ensures, c.if-mounted.true) in
      found_no_set shelf c.args.purpose s (rw c.in-None.is at (c.in_ok-info.ensures.value told)) mounted;
  same = search rules;
  count = search rules;
  promise = search rules;
  faults = search rules;
}

pub returns-in-None-2 : goal.returns-in-None-2
returns-in-None-2 g c = record {
  value = λ told.
      let shelf = (g.M.Machine.meaning c.args.machine.now).state in
      let s = c.args.set.now in
      let mounted : is_some (option_map volume_info (slice_get shelf.volumes s.v)) ≡ false = cc (c.volume.ensures told, c.is_some-mounted.ensures, c.if-mounted.false) in
      found_no_volume shelf c.args.purpose s mounted;
  same = search rules;
  count = search rules;
  promise = search rules;
  faults = search rules;
}
