use Rattle.std.proofs.Common.{◌++◌, ℕ, List, [], ap, map, sym, take, ◌∙◌}
use Rattle.std.proofs.lemmas.List.{flat_map_more, take_all}
use Rattle.chain_spec.specs.Kept.{kept}
use Rattle.sorted_chain.proofs.Walks.{take_read}
use Rattle.catalog_blocks.specs.declared.blocks.CatEntry.{CatEntry}
use Rattle.catalog_blocks.specs.Trees.{located_entries}
use Rattle.catalog_plan.specs.Located.{located, located_number}
use Rattle.catalog_plan.proofs.held.kept_entries.Goals as goal

pub loop-number-preserved : goal.loop-number-preserved
loop-number-preserved c =
    let i : ℕ = c.loop-number.number-index in
    let b : ℕ × List CatEntry = c.loop-number-item.result in
    let so_far : List (ℕ × CatEntry) = located_entries (take i c.args.blocks.now) in
    c.in_ok-keep.ensures so_far c.loop-number.invariant
    ∙ ap (kept located_number) (ap (λ (es : List CatEntry). so_far ++ located b.0 es) c.as_slice.ensures
    ∙ flat_map_more (λ (x : ℕ × List CatEntry). map (λ (e : CatEntry). (x.0, e)) x.1) [] (take i c.args.blocks.now) b
    ∙ ap located_entries (sym (take_read c.args.blocks.now i b c.loop-number-test.true c.loop-number-item.is)))

pub returns : goal.returns
returns c =
    c.loop-number.invariant
    ∙ ap (λ (bs : List (ℕ × List CatEntry)). kept located_number (located_entries bs)) (take_all c.loop-number.number-index c.args.blocks.now c.loop-number-test.false)
