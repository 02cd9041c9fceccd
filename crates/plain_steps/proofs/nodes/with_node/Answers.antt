-- In front stand the nodes before, and after those after.
use Rattle.std.proofs.Common.{◌≡◌, List, [], ◌∷◌, ◌++◌, filter, append_assoc, subst, ap, ◌∙◌, rules}
use Rattle.std.specs.Result.{IfOk}
use Rattle.vol_model.specs.Trees.{Node, is_before}
use Rattle.plain_steps.proofs.nodes.with_node.Goals as goal

pub returns : goal.returns
returns c =
    let path = c.args.path.now in
    let node = c.args.node.now in
    let x : Node = (path, node) in
    let before : List Node = filter (λ (y : Node). is_before y.0 path) c.args.nodes.now in
    let behind : List Node = filter (λ (y : Node). is_before path y.0) c.args.nodes.now in
    let first : c.in_ok-after.after ≡ before = search rules in
    let way : c.in_ok-copy.field-0 ≡ path = c.in_ok-copy.ensures in
    let same : c.in_ok-copy-2.field-0 ≡ node = c.in_ok-copy-2.ensures in
    let pushed : c.push.new.self ≡ before ++ x ∷ [] =
    c.in_ok-push.ensures.ok ∙ ap (λ (l : List Node). l ++ (c.in_ok-copy.field-0, c.in_ok-copy-2.field-0) ∷ []) first
    ∙ ap (λ p. before ++ (p, c.in_ok-copy-2.field-0) ∷ []) way ∙ ap (λ n. before ++ (path, n) ∷ []) same in
    subst (λ (l : List Node). IfOk c.where_passed-2.result (λ after. after ≡ l)) (ap (λ (l : List Node). l ++ behind) pushed ∙ append_assoc before (x ∷ []) behind) c.where_passed-2.ensures
