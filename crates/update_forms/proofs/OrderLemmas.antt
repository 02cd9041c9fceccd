-- Orders that are put after others.
use Rattle.std.proofs.Common.{◌≡◌, List, [], ◌∷◌, ◌++◌, sym, ap, append_assoc}
use Rattle.std.proofs.lemmas.List.{append-nil}
use Rattle.std.specs.Prelude.{Option, Some, None}
use Rattle.update_forms.specs.declared.orders.Order.{Order}
use Rattle.update_forms.specs.Orders.{with_order}

pub order_after : (l : List Order) (o : Option Order) (rest : List Order) → l ++ with_order o rest ≡ (l ++ with_order o []) ++ rest
order_after l None rest = ap (λ (x : List Order). x ++ rest) (sym (append-nil l))
order_after l (Some o) rest = sym (append_assoc l (o ∷ []) rest)
