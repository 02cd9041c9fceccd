use Rattle.std.proofs.Common.{◌≡◌, ◌++◌, List, take, vec_items}
use Rattle.chain_spec.specs.Kept.{kept}
use Rattle.sorted_chain.proofs.keeping.keep.Given as goal

abbrev pub invariant-loop-entry : goal.invariant-loop-entry
invariant-loop-entry g l = (es : List _) → vec_items l.initial.entries ≡ kept g.E.ChainEntry.name es → vec_items l.entries ≡ kept g.E.ChainEntry.name (es ++ take l.entry-index l.more)
