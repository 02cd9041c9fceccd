use Rattle.std.proofs.Common.{◌≡◌, ◌∙◌, rules, sym, ap, subst}
use Rattle.std.specs.Prelude.{IfOk, Result}
use Rattle.vol_model.specs.declared.contents.Entry.{Entry}
use Rattle.vol_model.specs.declared.contents.Shelf.{Shelf}
use Rattle.vol_model.specs.declared.refusals.Refusal.{Refusal}
use Rattle.vol_model.specs.Reading.{entries_in}
use Rattle.vol_model.specs.Writing.{body_on}
use Rattle.iehprogm_util.specs.Items.{entry_in}
use Rattle.iehprogm_util.proofs.StepLemmas.{member_elsewhere, member_nowhere, member_there}
use Rattle.iehprogm_util.proofs.steps.find_member.Goals as goal

pub returns-in-Some-clause-reads : goal.returns-in-Some-clause-reads
returns-in-Some-clause-reads g c = record {
  value = λ told.
      let shelf = (g.M.Machine.meaning c.args.machine.now).state in
      let is = rw c.in-Some.is at (c.in_ok-info.ensures.value told) in
      let same = ap (λ (s : Shelf). entry_in c.args.name.now (entries_in (body_on s c.args.v c.args.dsn.now.bytes))) (c.attr.ensures.idle told).same.state in
      subst (λ (r : Result Entry Refusal). IfOk c.find_entry.result (λ (answer : Result Entry Refusal). answer ≡ r))
      (same ∙ member_there shelf c.args.v c.args.dsn.now c.args.name.now c.in-Some.info is (sym c.is_partitioned.ensures ∙ c.if-is_partitioned.true)) (c.find_entry.ensures.reads.value told);
  same = search rules;
  count = search rules;
  promise = search rules;
  faults = search rules;
}

pub returns-in-Some-2-clause-reads : goal.returns-in-Some-2-clause-reads
returns-in-Some-2-clause-reads g c = record {
  value = λ told.
      let is = rw c.in-Some.is at (c.in_ok-info.ensures.value told) in
      member_elsewhere (g.M.Machine.meaning c.args.machine.now).state c.args.v c.args.dsn.now c.args.name.now c.in-Some.info is (sym c.is_partitioned.ensures ∙ c.if-is_partitioned.false);
  same = search rules;
  count = search rules;
  promise = search rules;
  faults = search rules;
}

pub returns-in-None-clause-reads : goal.returns-in-None-clause-reads
returns-in-None-clause-reads g c = record {
  value = λ told. member_nowhere (g.M.Machine.meaning c.args.machine.now).state c.args.v c.args.dsn.now c.args.name.now (rw c.in-None.is at (c.in_ok-info.ensures.value told));
  same = search rules;
  count = search rules;
  promise = search rules;
  faults = search rules;
}
