use Rattle.std.proofs.Common.{◌+◌, ◌*◌, ◌++◌, ◌∷◌, [], ℕ, List, ap, arith, map, sym, ◌∙◌}
use Rattle.std.specs.Prelude.{slice_range}
use Rattle.std.specs.List.{range_with_len}
use Rattle.std.proofs.lemmas.List.FromFn.{map-range_with_len_more}
use Rattle.vol_model.specs.declared.catalogs.VolRef.{VolRef}
use Rattle.catalog_blocks.specs.Trees.{vol_in}
use Rattle.catalog_plan.proofs.entries.vols_in.Goals as goal

pub loop-k-preserved : goal.loop-k-preserved
loop-k-preserved c =
    let k : ℕ = c.loop-k.k in
    let volume : ℕ → VolRef = λ (j : ℕ). vol_in (slice_range c.args.payload.now (2 + 12 * j) (14 + 12 * j)) in
    c.in_ok-push.ensures.ok
    ∙ ap (λ (vs : List VolRef). vs ++ c.vol_in.result ∷ []) c.loop-k.invariant
    ∙ ap (λ (v : VolRef). map volume (range_with_len 0 k) ++ v ∷ []) c.vol_in.ensures
    ∙ sym (map-range_with_len_more volume 0 k k (omega arith))
