-- A stop leaves a lawful shelf, where the shelf stays lawful after each operation.
use Rattle.std.proofs.Common.{◌≡◌, ⊎_elim, ℕ, zero, suc, List, [], ◌∷◌, ◌++◌, sym, subst}
use Rattle.std.specs.Prelude.{Result, Ok, Err}
use Rattle.std.specs.List.{AllByRecursion}
use Rattle.vol_model.specs.declared.contents.Shelf.{Shelf}
use Rattle.vol_model.specs.declared.refusals.Refusal.{Refusal}
use Rattle.vol_model.specs.declared.requests.Op.{Op}
use Rattle.vol_model.specs.Events.{Event, Do, Say, StopsIn, after_operations, behind, operations_of}
use Rattle.vol_model.specs.Lawful.{IsLawful, IsLawfulOp}
use Rattle.vol_model.specs.Shelf.{step}
use Rattle.shelf_laws.specs.Laws.{StaysLawful}
use Rattle.shelf_laws.proofs.Admitting.{admitted_lawful}

pub stop_lawful : (es : List Event) (s left : Shelf) (printed : List ℕ) → StaysLawful s (operations_of es) → StopsIn s es left printed → IsLawful left
stop_lawful [] s left printed stays stop = subst IsLawful (sym stop.0) (stays 0)
stop_lawful (Do op ∷ es) s left printed stays stop = ⊎_elim (λ here. subst IsLawful (sym here.0) (stays 0)) (λ later. stop_lawful es (behind s (step s op)) left printed (λ k. stays (suc k)) later) stop
stop_lawful (Say line ∷ es) s left printed stays stop = ⊎_elim (λ here. subst IsLawful (sym here.0) (stays 0)) (λ later. stop_lawful es s left later.0 stays later.2) stop

-- operations that may be asked for, one after another
pub asked_lawful : (ops : List Op) (s : Shelf) → AllByRecursion IsLawfulOp ops → IsLawful s → StaysLawful s ops
asked_lawful ops s is h zero = h
asked_lawful [] s is h (suc k) = h
asked_lawful (op ∷ ops) s is h (suc k) = asked_lawful ops (behind s (step s op)) is.1 (by_step (step s op) (λ u done. admitted_lawful s u op is.0 h done)) k
  where
    by_step : (r : Result Shelf Refusal) → ((u : Shelf) → r ≡ Ok u → IsLawful u) → IsLawful (behind s r)
    by_step (Ok u) keeps = keeps u (λ i. Ok u)
    by_step (Err r) keeps = h

-- operations, and more after them
pub joined_lawful : (first more : List Op) (s : Shelf) → StaysLawful s first → StaysLawful (after_operations s first) more → StaysLawful s (first ++ more)
joined_lawful [] more s a b k = b k
joined_lawful (op ∷ first) more s a b zero = a 0
joined_lawful (op ∷ first) more s a b (suc k) = joined_lawful first more (behind s (step s op)) (λ j. a (suc j)) b k
