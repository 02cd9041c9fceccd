-- The sizes are those of the control entry and of the nodes below.
use Rattle.std.proofs.Common.{◌≡◌, ℕ, List, ◌∷◌, map, subst, ap, ◌∙◌, rules}
use Rattle.std.specs.Result.{IfOk}
use Rattle.chain_spec.specs.Cut.{needed_from}
use Rattle.vol_model.specs.Trees.{Node, node_size, nodes_below, way}
use Rattle.plain_steps.proofs.catalogs.index_needed.Goals as goal

pub returns : goal.returns
returns c =
    let below : c.as_slice.result.now ≡ nodes_below c.args.nodes.now (way c.args.names.now) = search rules in
    let sizes : c.as_slice-2.result.now ≡ c.args.control ∷ map (λ (x : Node). node_size x.1) c.as_slice.result.now = search rules in
    subst (λ (l : List ℕ). IfOk c.needed_from.result (λ blocks. blocks ≡ needed_from (λ (x : ℕ). x) 242 0 0 l)) (sizes ∙ ap (λ l. c.args.control ∷ map (λ (x : Node). node_size x.1) l) below) c.needed_from.ensures
