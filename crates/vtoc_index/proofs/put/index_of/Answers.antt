use Rattle.std.proofs.Common.{◌≡◌, ◌∙◌, ◌≤◌, ◌<◌, ◌+◌, ◌-◌, List, ℕ, length, get_or, ap, arith, subst}
use Rattle.std.specs.Prelude.{filter}
use Rattle.vtoc_index.proofs.Firsts.{Located, located, passes}
use Rattle.vtoc_index.proofs.put.index_of.Goals.{After-passed}
use Rattle.vtoc_index.proofs.put.index_of.Goals as goal

where_is : (c : After-passed) → Located c.args.vol.now.firsts.items c.args.slot
where_is c = located 0 c.args.vol.now.firsts.items (length c.args.vol.now.slots.items) c.args.slot c.requires.firsts (omega arith) c.requires.slot

number : (c : After-passed) → c.passed.result ≡ length (filter (passes c.args.slot) c.args.vol.now.firsts.items)
number c = c.passed.ensures ∙ ap (λ (xs : List ℕ). length (filter (passes c.args.slot) xs)) c.deref.ensures.value

pub overflow_sub-result : goal.overflow_sub-result
overflow_sub-result c = omega (arith, number c, (where_is c).passed)

pub returns : goal.returns
returns c =
    let firsts = c.args.vol.now.firsts.items in
    let l = where_is c in
    let same : l.index ≡ c.passed.result - 1 = omega (arith, number c, l.passed) in
    record {
      exact = ap (λ (n : ℕ). n - 1) (number c);
      inside = omega (arith, same, l.inside);
      low = subst (λ (n : ℕ). get_or firsts n 0 ≤ c.args.slot) same l.low;
      near = subst (λ (n : ℕ). c.args.slot < get_or firsts n 0 + 255) same l.near;
    }
