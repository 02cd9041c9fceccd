use Rattle.std.proofs.Common.{◌≡◌, rules}
use Rattle.iebcopy_util.specs.Copying.{member_copied}
use Rattle.iebcopy_util.specs.Items.{member_line, outcome_of}
use Rattle.iebcopy_util.proofs.DoesItemsLemmas.{same_stop}
use Rattle.iebcopy_util.proofs.MemberItems.{member_said, member_silent, member_stopped, member_unsaid}
use Rattle.iebcopy_util.proofs.members.do_member.Goals as goal

pub returns-in_err-answer : goal.returns-in_err-answer
returns-in_err-answer g c = record {
  does = λ told.
      let did = member_copied (g.M.Machine.meaning c.args.machine.now).state c.args.out.now c.args.copies.now c.args.task.now in
      member_stopped c.args.card c.args.out.now c.args.task.now did c.copy_member.result c.from_residual.result c.from_residual.ensures.0 (same_stop c.copy_member.result c.from_residual.result c.in_err-answer.field-0.0 c.in_err-answer.was c.from_residual.ensures.1)
      (c.copy_member.ensures.takes.works told) (c.copy_member.ensures.whole told);
  promise = search rules;
  faults = search rules;
}

pub returns-in_err-line : goal.returns-in_err-line
returns-in_err-line g c = record {
  does = λ told.
      let did = member_copied (g.M.Machine.meaning c.args.machine.now).state c.args.out.now c.args.copies.now c.args.task.now in
      member_silent c.args.card c.args.out.now c.args.task.now did (c.in_ok-answer.ensures.takes.works told) c.from_residual-in_err-line.result c.from_residual-in_err-line.ensures.0;
  promise = search rules;
  faults = search rules;
}

pub returns-in_err-say : goal.returns-in_err-say
returns-in_err-say g c = record {
  does = λ told.
      let did = member_copied (g.M.Machine.meaning c.args.machine.now).state c.args.out.now c.args.copies.now c.args.task.now in
      let line_is : c.in_ok-line.line ≡ member_line c.args.card c.args.out.now c.args.task.now.name (outcome_of c.in_ok-answer.answer) = cc (c.in_ok-line.ensures, c.outcome_of-outcome.ensures) in
      member_unsaid c.args.card c.args.out.now c.args.task.now did (c.in_ok-answer.ensures.takes.works told) c.in_ok-line.line c.say.result c.from_residual-in_err-say.result line_is c.from_residual-in_err-say.ensures.0 (c.say.ensures.says.says told) (c.say.ensures.state told);
  promise = search rules;
  faults = search rules;
}

pub returns : goal.returns
returns g c = record {
  does = λ told.
      let did = member_copied (g.M.Machine.meaning c.args.machine.now).state c.args.out.now c.args.copies.now c.args.task.now in
      let line_is : c.in_ok-line.line ≡ member_line c.args.card c.args.out.now c.args.task.now.name (outcome_of c.in_ok-answer.answer) = cc (c.in_ok-line.ensures, c.outcome_of-outcome.ensures) in
      member_said c.args.card c.args.out.now c.args.task.now did (c.in_ok-answer.ensures.takes.works told) c.in_ok-line.line line_is (c.in_ok-say.ensures.says.says told) c.say.ensures.says.count;
  promise = search rules;
  faults = search rules;
}
