use Rattle.std.proofs.Common.{ap, sym, ◌∙◌, ◌++◌, ◌∷◌, [], append_assoc, take}
use Rattle.chain_spec.specs.Kept.{kept}
use Rattle.sorted_chain.proofs.Walks.{take_read}
use Rattle.sorted_chain.proofs.keeping.keep.Goals as goal

pub loop-entry-preserved : goal.loop-entry-preserved
loop-entry-preserved g c es is =
    let i = c.loop-entry.entry-index in
    let more = c.args.more.now in
    c.in_ok-keep_one.ensures (es ++ take i more) (c.loop-entry.invariant es is) ∙ ap (kept g.E.ChainEntry.name) (append_assoc es (take i more) (c.entry-item.result ∷ []) ∙ ap (λ xs. es ++ xs) (sym (take_read more i c.entry-item.result c.loop-entry-test.true c.entry-item.is)))
