use Rattle.std.proofs.Common.{codes, rules, sym, ◌∙◌, subst}
use Rattle.util_steps.specs.Items.{DoesItem}
use Rattle.util_syntax.specs.declared.listing.Object.TheVariants.{Name}
use Rattle.util_syntax.specs.declared.listing.Outcome.TheVariants.{Expires}
use Rattle.util_syntax.specs.Listing.{item_line}
use Rattle.vol_model.specs.declared.requests.Op.TheVariants.{Scratch}
use Rattle.vol_model.specs.Events.{Item}
use Rattle.vol_model.specs.Writing.{did_apply}
use Rattle.job_runner.specs.DataSets.{operation_item}
use Rattle.job_runner.specs.Parts.{says}
use Rattle.job_runner.proofs.DispositionLemmas.{kept_back, not_kept}
use Rattle.job_runner.proofs.OperationLemmas.{item_later}
use Rattle.job_runner.proofs.dispositions.delete.Goals as goal

pub returns-then-branch : goal.returns-then-branch
returns-then-branch g c = record {
  item = λ told.
      let m = g.M.Machine.meaning in
      let s = g.M.Machine.status in
      let d = c.args.deletion.now in
      let durable = g.met.M.Machine.durable c.args.machine.now told c.requires.sound in
      subst (λ (i : Item). DoesItem g.M.Machine.tells_prints i (m c.args.machine.now) (m c.say_expires.new.machine) (s c.args.machine.now).done (s c.say_expires.new.machine).done c.say_expires.result)
      (kept_back c.args.date.now (m c.args.machine.now).state d (sym (c.in_ok-is_unexpired.ensures.value told) ∙ c.if-branch.true))
      (item_later (λ shelf. says 8 (item_line d.card (codes "DELETE") (Name d.dsn) Expires)) c.say_expires.result (c.is_unexpired.ensures.same told) durable c.is_unexpired.ensures.count (c.say_expires.ensures.item told));
  small = search rules;
  promise = search rules;
  faults = search rules;
}

pub returns-else-branch : goal.returns-else-branch
returns-else-branch g c = record {
  item = λ told.
      let m = g.M.Machine.meaning in
      let s = g.M.Machine.status in
      let d = c.args.deletion.now in
      let durable = g.met.M.Machine.durable c.args.machine.now told c.requires.sound in
      subst (λ (i : Item). DoesItem g.M.Machine.tells_prints i (m c.args.machine.now) (m c.scratch.new.machine) (s c.args.machine.now).done (s c.scratch.new.machine).done c.scratch.result)
      (not_kept c.args.date.now (m c.args.machine.now).state d (sym (c.in_ok-is_unexpired.ensures.value told) ∙ c.if-branch.false))
      (item_later (λ shelf. operation_item d.card (codes "DELETE") d.dsn 8 (did_apply shelf (Scratch d.v d.dsn))) c.scratch.result (c.is_unexpired.ensures.same told) durable c.is_unexpired.ensures.count (c.scratch.ensures.item told));
  small = search rules;
  promise = search rules;
  faults = search rules;
}
