-- What a read of cards in memory gives.
use Rattle.std.proofs.Common.{◌≡◌, ◌<◌, ◌≤◌, ◌+◌, ◌-◌, ℕ, min, List, ◌++◌, length, take, drop, sym, ◌∙◌, ap, arith, length-drop}
use Rattle.std.specs.Prelude.{Ok}
use Rattle.std.proofs.lemmas.List.{take_at, take-append-drop, drop-drop, length-take, nil_from_length}
use Rattle.hall_core.specs.Cards.{GivesNext}

pub gives_next : {E : Type 0} (bytes buf copied rest : List ℕ) (given count : ℕ)
    → given ≤ length bytes → 0 < length buf → count ≡ min (length buf) (length bytes - given) → copied ≡ take (given + count - given) (drop given bytes)
    → GivesNext {E = E} (drop given bytes) (drop (given + count) bytes) (copied ++ rest) (Ok count)
gives_next bytes buf copied rest given count inside some most is =
    let here : given + count - given ≡ count = omega arith in
    let left : length (drop given bytes) ≡ length bytes - given = length-drop given bytes in
    let size : length copied ≡ count = ap length is ∙ length-take (given + count - given) (drop given bytes) ∙ omega (arith, left) in
    record {
      next = sym (rw (take_at copied rest count size, is, here, ← drop-drop) (take-append-drop count (drop given bytes)));
      end = (λ none. nil_from_length (drop given bytes) (omega (arith, left)), λ none. omega (arith, left, ap length none));
      failed = tt;
    }
