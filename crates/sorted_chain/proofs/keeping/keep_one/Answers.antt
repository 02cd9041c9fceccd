use Rattle.std.proofs.Common.{ap, sym, ◌∙◌, ◌++◌, ◌∷◌, [], ◌≡◌, ⊎_elim, true}
use Rattle.chain_spec.proofs.KeptLemmas.{after, kept_pass, kept_push, order}
use Rattle.chain_spec.specs.Kept.{kept}
use Rattle.sorted_chain.proofs.keeping.keep_one.Goals as goal

pub returns-then-follows : goal.returns-then-follows
returns-then-follows g c es is =
    let name = g.E.ChainEntry.name in
    let h = (c.follows.ensures es (c.deref.ensures.value ∙ is)).0 c.if-follows.true in
    c.in_ok-push.ensures.items ∙ ap (λ xs. xs ++ (c.in_ok-copied.copied ∷ [])) is ∙ ap (λ e. kept name es ++ (e ∷ [])) c.in_ok-copied.ensures ∙ sym (kept_push name 0 es c.args.entry.now h)

pub returns : goal.returns
returns g c es is =
    let name = g.E.ChainEntry.name in
    ⊎_elim
    (λ within. let told : c.follows.result ≡ true = (c.follows.ensures es (c.deref.ensures.value ∙ is)).1 within in absurd (cc (told, c.if-follows.false)))
    (λ below. is ∙ sym (kept_pass name 0 es c.args.entry.now below))
    (order name (after name 0 es) (name c.args.entry.now))
