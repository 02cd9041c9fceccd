-- The names in the order of their bytes.
use Rattle.std.proofs.Common.{List, ℕ, subst, ap, ◌∙◌}
use Rattle.std.specs.Prelude.{IfOk, Result, Ok, Err}
use Rattle.std.specs.Ordering.{nat_cmp}
use Rattle.std.specs.Cmp.Lexicographic.{slice_cmp}
use Rattle.std.specs.List.Sorted.{IsStable}
use Rattle.volume_manager.specs.Lines.{names_listing}
use Rattle.volume_manager.proofs.names.names_text.Goals as goal

-- what holds of a value holds as it follows
if_ok : {T E : Type 0} {P Q : T → Type 0} (r : Result T E) → ((x : T) → P x → Q x) → IfOk r P → IfOk r Q
if_ok (Ok x) weaker is = weaker x is
if_ok (Err e) weaker is = tt

pub returns : goal.returns
returns c =
    let sorted : List (List ℕ) = c.sort.new.self.items in
    if_ok c.listing.result (λ text is. (
      sorted,
      record {
        sorted = c.in_ok-sort.ensures.sorted;
        same = subst (λ (l : List (List ℕ)). IsStable (slice_cmp nat_cmp) l sorted) c.in_ok-names.ensures c.in_ok-sort.ensures.stable;
      },
      is ∙ ap names_listing c.deref.ensures.value,
    )) c.listing.ensures
