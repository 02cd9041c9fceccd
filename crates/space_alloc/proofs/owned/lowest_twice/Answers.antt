use Rattle.std.proofs.Common.{◌≡◌, ◌≤◌, ℕ, Option, ap, subst, sym, ◌∙◌}
use Rattle.std.proofs.lemmas.List.Sorted.{All-permutation}
use Rattle.vol_model.specs.declared.contents.Run.{Run}
use Rattle.space_alloc.specs.Owned.{IsLowestTwice, first_early}
use Rattle.space_alloc.proofs.SortedRuns.{lowest_permuted, lowest_sorted, rise_sorted}
use Rattle.space_alloc.proofs.owned.lowest_twice.Goals as goal

pub returns-clause-lowest : goal.returns-clause-lowest
returns-clause-lowest c =
    let old = c.args.runs.now.items in
    let new = c.sort_by_start.new.runs.items in
    let some = All-permutation (λ (r : Run). 1 ≤ r.len) old new c.sort_by_start.ensures.permutation c.requires.some in
    let found : c.first_early.result ≡ first_early 0 new = c.first_early.ensures ∙ ap (first_early 0) c.deref.ensures.value in
    subst (λ (o : Option ℕ). IsLowestTwice old o) (sym found)
    (lowest_permuted old new (first_early 0 new) c.sort_by_start.ensures.permutation (lowest_sorted new (rise_sorted new c.in_ok-sort_by_start.ensures.sorted some)))
