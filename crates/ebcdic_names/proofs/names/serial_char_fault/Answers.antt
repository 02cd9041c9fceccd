use Rattle.std.proofs.Common.{◌+◌, length, drop, sym, ap, ◌∙◌, arith}
use Rattle.std.proofs.lemmas.Iterator.{YieldsList-from_chars}
use Rattle.std.proofs.lemmas.Iterator.Consumers.{YieldsList-turn, YieldsList-end}
use Rattle.std.proofs.lemmas.List.{length_push}
use Rattle.std.specs.Prelude.{Some}
use Rattle.std.specs.Str.{chars}
use Rattle.ebcdic_names.specs.declared.names.NameErr.TheVariants.{BadChar}
use Rattle.ebcdic_names.proofs.NameLemmas.{serial_bad, serial_next, after_serial_char, serial_end}
use Rattle.ebcdic_names.proofs.names.serial_char_fault.Goals as goal

pub returns-then-not-serial_allows : goal.returns-then-not-serial_allows
returns-then-not-serial_allows c =
    let t = YieldsList-turn (YieldsList-from_chars c.args.text.now c.utf8.text cc) c.loop-c.yielded _ c.loop-c.yielded_by _ _ c.in-Some.c c.in-Some.is c.next.ensures.steps in
    ap (λ n. Some (BadChar n)) c.loop-c.invariant.0
    ∙ sym (serial_bad (length c.loop-c.yielded) c.in-Some.c (drop (length c.loop-c.yielded + 1) (chars c.args.text.now)) (sym c.serial_allows.ensures ∙ c.if-not-serial_allows.true))
    ∙ sym (serial_next (length c.loop-c.yielded) (chars c.args.text.now) (length c.loop-c.yielded) c.in-Some.c t)
    ∙ c.loop-c.invariant.1

pub overflow_add-place : goal.overflow_add-place
overflow_add-place c =
    let t = YieldsList-turn (YieldsList-from_chars c.args.text.now c.utf8.text cc) c.loop-c.yielded _ c.loop-c.yielded_by _ _ c.in-Some.c c.in-Some.is c.next.ensures.steps in
    omega (arith, t.0)

pub loop-c-preserved : goal.loop-c-preserved
loop-c-preserved c =
    let t = YieldsList-turn (YieldsList-from_chars c.args.text.now c.utf8.text cc) c.loop-c.yielded _ c.loop-c.yielded_by _ _ c.in-Some.c c.in-Some.is c.next.ensures.steps in
    let n = length_push c.loop-c.yielded c.in-Some.c in (
      omega (arith, n),
      after_serial_char (chars c.args.text.now) c.loop-c.yielded c.in-Some.c _ t (sym c.serial_allows.ensures ∙ c.if-not-serial_allows.false) c.loop-c.invariant.1,
    )

pub returns : goal.returns
returns c =
    let t = YieldsList-end (YieldsList-from_chars c.args.text.now c.utf8.text cc) c.loop-c.yielded _ c.loop-c.yielded_by _ _ c.in-None.is c.next.ensures.steps in
    serial_end (chars c.args.text.now) (length c.loop-c.yielded) _ t.1 c.loop-c.invariant.1
