use Rattle.std.proofs.Common.{ℕ, List, ap, sym, ◌∙◌, ◌++◌, ◌∷◌, [], append_assoc, take}
use Rattle.std.proofs.lemmas.List.{map_push}
use Rattle.chain_spec.specs.Kept.{kept}
use Rattle.sorted_chain.proofs.Walks.{take_read}
use Rattle.catalog_blocks.specs.declared.blocks.CatEntry.{CatEntry}
use Rattle.catalog_plan.specs.Located.{located, located_number}
use Rattle.catalog_plan.proofs.held.keep.Goals as goal

pub loop-entry-preserved : goal.loop-entry-preserved
loop-entry-preserved c ps is =
    let i : ℕ = c.loop-entry.entry-index in
    let es : List CatEntry = c.args.entries.now in
    let e : CatEntry = c.entry-item.result in
    let done : List (ℕ × CatEntry) = located c.args.number (take i es) in
    c.in_ok-keep_one.ensures (ps ++ done) (c.loop-entry.invariant ps is)
    ∙ ap (kept located_number) (append_assoc ps done ((c.args.number, e) ∷ [])
    ∙ ap (λ (xs : List (ℕ × CatEntry)). ps ++ xs) (sym (ap (located c.args.number) (take_read es i e c.loop-entry-test.true c.entry-item.is) ∙ map_push (λ (x : CatEntry). (c.args.number, x)) (take i es) e)))
