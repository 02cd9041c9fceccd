use Rattle.std.proofs.Common.{◌≡◌, length, sym, ◌∙◌, arith}
use Rattle.std.specs.Str.{bytes_eq}
use Rattle.std.proofs.lemmas.Bool.{not-false}
use Rattle.free_rebuild.proofs.HeldLemmas.{lists_back, lists_not}
use Rattle.free_rebuild.proofs.settled.is_alike.Goals as goal

pub returns-then-eq : goal.returns-then-eq
returns-then-eq c =
    let f = c.args.found.now in
    let w = c.args.wanted.now in
    let many : length f.front ≡ length w.front = omega arith in
    let pointer = not-false (bytes_eq f.pointer w.pointer) (sym c.ne.ensures ∙ c.if-ne.false) in
    c.eq-then-eq.ensures ∙ lists_back f w many pointer (sym c.eq.ensures ∙ c.if-eq.true)

pub returns-else-eq : goal.returns-else-eq
returns-else-eq c =
    let f = c.args.found.now in
    let w = c.args.wanted.now in
    let many : length f.front ≡ length w.front = omega arith in
    c.if-eq.false ∙ lists_not f w many (sym c.eq.ensures ∙ c.if-eq.false)
