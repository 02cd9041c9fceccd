use Rattle.std.proofs.Common.{◌≡◌, ◌++◌, ◌∷◌, [], ⊎_elim, true, ap, sym, ◌∙◌}
use Rattle.chain_spec.proofs.KeptLemmas.{after, kept_pass, kept_push, order}
use Rattle.chain_spec.specs.Kept.{kept}
use Rattle.catalog_plan.specs.Located.{located_number}
use Rattle.catalog_plan.proofs.held.keep_one.Goals as goal

pub returns-then-follows : goal.returns-then-follows
returns-then-follows c ps is =
    let h = (c.follows.ensures ps (c.as_slice.ensures ∙ is)).0 c.if-follows.true in
    c.in_ok-push.ensures.ok
    ∙ ap (λ xs. xs ++ ((c.args.number, c.in_ok-copied.copied) ∷ [])) is
    ∙ ap (λ e. kept located_number ps ++ ((c.args.number, e) ∷ [])) c.in_ok-copied.ensures
    ∙ sym (kept_push located_number 0 ps (c.args.number, c.args.entry.now) h)

pub returns : goal.returns
returns c ps is = ⊎_elim
    (λ within. let told : c.follows.result ≡ true = (c.follows.ensures ps (c.as_slice.ensures ∙ is)).1 within in absurd (cc (told, c.if-follows.false)))
    (λ below. is ∙ sym (kept_pass located_number 0 ps (c.args.number, c.args.entry.now) below))
    (order located_number (after located_number 0 ps) (located_number (c.args.number, c.args.entry.now)))
