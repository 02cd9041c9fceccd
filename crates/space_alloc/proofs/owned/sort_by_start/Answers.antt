use Rattle.std.proofs.Common.{rules}
use Rattle.std.proofs.lemmas.List.Sorted.{IsNonDecreasingBy-from_sort_by_key}
use Rattle.vol_model.specs.declared.contents.Run.{Run}
use Rattle.space_alloc.proofs.SortedRuns.{EndBy-permutation}
use Rattle.space_alloc.proofs.owned.sort_by_start.Goals as goal

pub returns-clause-sorted : goal.returns-clause-sorted
returns-clause-sorted c = IsNonDecreasingBy-from_sort_by_key (λ (r : Run). r.start) _ c.in_ok-sort_by_key.ensures.sorted (λ a r q k. search rules)

pub returns-clause-within : goal.returns-clause-within
returns-clause-within c = EndBy-permutation 65535 _ _ c.in_ok-sort_by_key.ensures.permutation c.requires.within
