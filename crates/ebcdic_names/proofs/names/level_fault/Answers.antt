use Rattle.std.proofs.Common.{sym, ap, ◌∙◌, arith, refl}
use Rattle.std.proofs.lemmas.Iterator.{YieldsList-from_chars}
use Rattle.std.proofs.lemmas.Iterator.Consumers.{YieldsList-turn, YieldsList-end}
use Rattle.std.proofs.lemmas.List.{length_push}
use Rattle.std.specs.Prelude.{slice_get}
use Rattle.std.specs.Str.{chars}
use Rattle.ebcdic_names.specs.Names.{levels}
use Rattle.ebcdic_names.proofs.NameLemmas.{rest_whole, at_empty, at_fault, not_ninth, at_end_empty, at_end, after_period, after_char, nothing_left}
use Rattle.ebcdic_names.proofs.names.level_fault.Goals as goal
use Rattle.ebcdic_names.proofs.names.level_fault.Goals.{then-ends_level+else-at-eq0, else-ends_level+in_default}

pub loop-c-init : goal.loop-c-init
loop-c-init c = (refl, omega arith, omega arith, ap (λ fs. slice_get fs 0) (rest_whole c.args.form 0 0 (levels c.args.form (chars c.args.text.now))))

pub returns-then-at-eq0 : goal.returns-then-at-eq0
returns-then-at-eq0 c =
    let t = rw (← c.loop-c.invariant.0) at (YieldsList-turn (YieldsList-from_chars c.args.text.now c.utf8.text cc) c.loop-c.yielded _ c.loop-c.yielded_by _ _ c.in-Some.c c.in-Some.is c.next.ensures.steps) in
    sym (at_empty c.args.form c.loop-c.level c.loop-c.at c.loop-c.place c.in-Some.c (chars c.args.text.now) t (sym c.ends_level.ensures ∙ c.if-ends_level.true) c.if-at-eq0.true)
    ∙ c.loop-c.invariant.3

pub overflow_add-level : goal.overflow_add-level
overflow_add-level c =
    let t = rw (← c.loop-c.invariant.0) at (YieldsList-turn (YieldsList-from_chars c.args.text.now c.utf8.text cc) c.loop-c.yielded _ c.loop-c.yielded_by _ _ c.in-Some.c c.in-Some.is c.next.ensures.steps) in
    omega (arith, t.0)

pub returns-in-Some-char_fault : goal.returns-in-Some-char_fault
returns-in-Some-char_fault c =
    let t = rw (← c.loop-c.invariant.0) at (YieldsList-turn (YieldsList-from_chars c.args.text.now c.utf8.text cc) c.loop-c.yielded _ c.loop-c.yielded_by _ _ c.in-Some.c c.in-Some.is c.next.ensures.steps) in
    sym (at_fault c.args.form c.loop-c.level c.loop-c.at c.loop-c.place c.in-Some.c (chars c.args.text.now) _ t (sym c.ends_level.ensures ∙ c.if-ends_level.false) (sym c.char_fault.ensures ∙ c.in-Some-char_fault.is))
    ∙ c.loop-c.invariant.3

pub overflow_add-place : goal.overflow_add-place
overflow_add-place c =
    let t = rw (← c.loop-c.invariant.0) at (YieldsList-turn (YieldsList-from_chars c.args.text.now c.utf8.text cc) c.loop-c.yielded _ c.loop-c.yielded_by _ _ c.in-Some.c c.in-Some.is c.next.ensures.steps) in
    omega (arith, t.0)

pub loop-c-preserved : goal.loop-c-preserved
loop-c-preserved c =
    let t = rw (← c.loop-c.invariant.0) at (YieldsList-turn (YieldsList-from_chars c.args.text.now c.utf8.text cc) c.loop-c.yielded _ c.loop-c.yielded_by _ _ c.in-Some.c c.in-Some.is c.next.ensures.steps) in
    let n = length_push c.loop-c.yielded c.in-Some.c in
    elim c.if-ends_level.branch [
      | then-ends_level+else-at-eq0 w ↦ (
        omega (arith, n),
        omega (arith, w.level-is),
        omega (arith, w.at-is),
        after_period c.args.form c.loop-c.level c.loop-c.at _ _ c.loop-c.place c.in-Some.c (chars c.args.text.now) _ t (sym c.ends_level.ensures ∙ w.if-ends_level.true) w.if-at-eq0.false w.level-is w.at-is c.loop-c.invariant.3,
      )
      | else-ends_level+in_default w ↦ (
        omega (arith, n),
        omega (arith, w.level-is),
        let ninth = not_ninth c.args.form c.loop-c.level c.loop-c.at c.loop-c.place c.in-Some.c (sym w.char_fault.ensures ∙ w.in_default.is) in omega (arith, w.at-is, ninth),
        after_char c.args.form c.loop-c.level c.loop-c.at _ _ c.loop-c.place c.in-Some.c (chars c.args.text.now) _ t (sym c.ends_level.ensures ∙ w.if-ends_level.false) (sym w.char_fault.ensures ∙ w.in_default.is) w.level-is w.at-is c.loop-c.invariant.3,
      )
    ]

pub returns-then-at-eq0-2 : goal.returns-then-at-eq0-2
returns-then-at-eq0-2 c =
    let t = YieldsList-end (YieldsList-from_chars c.args.text.now c.utf8.text cc) c.loop-c.yielded _ c.loop-c.yielded_by _ _ c.in-None.is c.next.ensures.steps in
    sym (at_end_empty c.args.form c.loop-c.level c.loop-c.at c.loop-c.place c.if-at-eq0-2.true) ∙ nothing_left c.args.form c.loop-c.level c.loop-c.at (chars c.args.text.now) c.loop-c.place _ (c.loop-c.invariant.0 ∙ t.1) c.loop-c.invariant.3

pub returns-else-at-eq0-2 : goal.returns-else-at-eq0-2
returns-else-at-eq0-2 c =
    let t = YieldsList-end (YieldsList-from_chars c.args.text.now c.utf8.text cc) c.loop-c.yielded _ c.loop-c.yielded_by _ _ c.in-None.is c.next.ensures.steps in
    sym (at_end c.args.form c.loop-c.level c.loop-c.at c.loop-c.place c.if-at-eq0-2.false) ∙ nothing_left c.args.form c.loop-c.level c.loop-c.at (chars c.args.text.now) c.loop-c.place _ (c.loop-c.invariant.0 ∙ t.1) c.loop-c.invariant.3
