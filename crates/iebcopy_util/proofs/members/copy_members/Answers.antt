use Rattle.std.proofs.Common.{◌≡◌, ◌∷◌, ◌∙◌, [], List, length, true, false, ap, sym, subst, refl, arith, rules}
use Rattle.std.specs.Prelude.{IsTrue}
use Rattle.std.specs.List.{AllByRecursion}
use Rattle.vol_model.specs.declared.contents.Shelf.{Shelf}
use Rattle.util_steps.specs.Steps.{AreApart}
use Rattle.iebcopy_util.specs.declared.copying.Copy.{Copy}
use Rattle.iebcopy_util.specs.declared.members.Ending.{Ending}
use Rattle.iebcopy_util.specs.declared.tasks.MemberCopy.{MemberCopy}
use Rattle.iebcopy_util.specs.Copying.{member_copied}
use Rattle.iebcopy_util.specs.Items.{Course, members}
use Rattle.iebcopy_util.specs.Tasks.{IsLawfulMemberCopy}
use Rattle.iebcopy_util.proofs.MemberItems.{Follows, member_behind, member_code, members_end, members_first, members_none, members_on}
use Rattle.iebcopy_util.proofs.RunLemmas.{far_begins, far_ends, far_further, far_stops, runs_unmade}
use Rattle.iebcopy_util.proofs.members.copy_members.Goals as goal

-- all but the first
all_rest : (P : MemberCopy → Type 0) (t : MemberCopy) (ts tasks : List MemberCopy) → tasks ≡ t ∷ ts → AllByRecursion P tasks → AllByRecursion P ts
all_rest P t ts tasks is all = (subst (λ (l : List MemberCopy). AllByRecursion P l) is all).1

pub returns-in_err-copies-clause-course : goal.returns-in_err-copies-clause-course
returns-in_err-copies-clause-course g c = runs_unmade g.M.Machine _ c.from_residual.result c.from_residual.ensures c.requires.ready

pub loop-parts-init : goal.loop-parts-init
loop-parts-init g c =
    let course : List Copy → Course = λ (copies : List Copy). members (g.M.Machine.meaning c.args.machine.now).state c.args.card c.args.out.now copies c.args.tasks.now in
    record {
      room = search (rules, arith);
      far = far_begins g.M.Machine c.requires.ready (λ told. ap (λ (l : List Copy). (course l).items) (sym c.in_ok-copies.ensures.items));
      goes_on = λ told. ap (λ (l : List Copy). (course l).goes_on) c.in_ok-copies.ensures.items;
      apart = c.requires.apart;
      lawful = c.requires.lawful;
      small = omega arith;
    }

pub returns-in-None-clause-course : goal.returns-in-None-clause-course
returns-in-None-clause-course g c =
    let inv = c.loop-parts.invariant in
    let ending : Ending = record { code = c.loop-parts.code; goes_on = true } in
    let none = members_none (g.M.Machine.meaning c.loop-parts.machine).state c.args.card c.args.out.now c.loop-parts.copies.items c.loop-parts.rest.now c.in-None.ensures.cases in
    far_ends g.M.Machine inv.far ending (λ told. ap (λ (x : Course). x.items) none) (λ told is. (is, sym (ap (λ (x : Course). x.goes_on) none) ∙ inv.goes_on told))

pub returns-in_err-answer-clause-course : goal.returns-in_err-answer-clause-course
returns-in_err-answer-clause-course g c =
    far_stops g.M.Machine c.loop-parts.invariant.far c.from_residual-in_err-answer.result c.from_residual-in_err-answer.ensures (rw c.in_err-answer.was at c.do_member.ensures)
    (λ told. members_first (g.M.Machine.meaning c.loop-parts.machine).state c.args.card c.args.out.now c.deref.result.now c.loop-parts.copies.items c.in-Some.parts.0.now c.in-Some.parts.1.now c.loop-parts.rest.now c.deref.ensures.value c.in-Some.ensures.cases.0)

pub returns-then-not-goes_on-clause-course : goal.returns-then-not-goes_on-clause-course
returns-then-not-goes_on-clause-course g c =
    let inv = c.loop-parts.invariant in
    let out = c.args.out.now in
    let first = c.in-Some.parts.0.now in
    let behind = c.in-Some.parts.1.now in
    let s1 = (g.M.Machine.meaning c.loop-parts.machine).state in
    let s2 = (g.M.Machine.meaning c.do_member.new.machine).state in
    let copies = c.deref.result.now in
    let held = c.loop-parts.copies.items in
    let copied = c.remember-goes_on.new.copies.items in
    let answer = c.in_ok-answer.answer in
    let did = member_copied s1 out copies first in
    let one = c.in_ok-answer.ensures in
    let follows : IsTrue g.M.Machine.tells → Follows s1 s2 out copies held copied first answer c.remember-goes_on.result =
    λ told. record { same = c.deref.ensures.value; told = (one.does told).answer; there = member_behind c.args.card out first did (one.does told); remembered = c.remember-goes_on.ensures.follow } in
    let is = λ (told : IsTrue g.M.Machine.tells). members_end s1 s2 c.args.card out copies held copied first behind c.loop-parts.rest.now answer c.remember-goes_on.result c.in-Some.ensures.cases.0 (follows told) c.if-not-goes_on.true in
    let ending : Ending = record { code = c.max-code.result; goes_on = false } in
    far_ends g.M.Machine
    (far_further g.M.Machine inv.far {after = λ (s : Shelf). []} c.copy_code.result c.max-code.result one (λ told. ap (λ (x : Course). x.items) (is told))
    (λ told. member_code c.args.card out first did answer c.outcome_of-outcome.result c.copy_code.result (one.does told).answer c.outcome_of-outcome.ensures c.copy_code.ensures.code) (search rules))
    ending (λ told. refl) (λ told code. (code, sym (ap (λ (x : Course). x.goes_on) (is told)) ∙ inv.goes_on told))

pub loop-parts-preserved : goal.loop-parts-preserved
loop-parts-preserved g c =
    let inv = c.loop-parts.invariant in
    let out = c.args.out.now in
    let first = c.in-Some.parts.0.now in
    let behind = c.in-Some.parts.1.now in
    let s1 = (g.M.Machine.meaning c.loop-parts.machine).state in
    let s2 = (g.M.Machine.meaning c.do_member.new.machine).state in
    let copies = c.deref.result.now in
    let held = c.loop-parts.copies.items in
    let copied = c.remember-goes_on.new.copies.items in
    let answer = c.in_ok-answer.answer in
    let did = member_copied s1 out copies first in
    let one = c.in_ok-answer.ensures in
    let follows : IsTrue g.M.Machine.tells → Follows s1 s2 out copies held copied first answer c.remember-goes_on.result =
    λ told. record { same = c.deref.ensures.value; told = (one.does told).answer; there = member_behind c.args.card out first did (one.does told); remembered = c.remember-goes_on.ensures.follow } in
    let cases = c.in-Some.ensures.cases.0 in
    let is = λ (told : IsTrue g.M.Machine.tells). members_on s1 s2 c.args.card out copies held copied first behind c.loop-parts.rest.now answer c.remember-goes_on.result cases (follows told) c.if-not-goes_on.false in
    record {
      room = let used = c.remember-goes_on.ensures.len in let has = c.remember-goes_on.ensures.capacity in omega (arith, inv.room, used, has, ap length cases);
      far = far_further g.M.Machine inv.far {after = λ (s : Shelf). (members s c.args.card out copied behind).items} c.copy_code.result c.max-code.result one (λ told. ap (λ (x : Course). x.items) (is told))
          (λ told. member_code c.args.card out first did answer c.outcome_of-outcome.result c.copy_code.result (one.does told).answer c.outcome_of-outcome.ensures c.copy_code.ensures.code) (search rules);
      goes_on = λ told. sym (ap (λ (x : Course). x.goes_on) (is told)) ∙ inv.goes_on told;
      apart = λ told. all_rest (λ (t : MemberCopy). AreApart out t.source.set) first behind c.loop-parts.rest.now cases (inv.apart told);
      lawful = all_rest IsLawfulMemberCopy first behind c.loop-parts.rest.now cases inv.lawful;
      small = search (rules, arith);
    }
