-- Options that are given.
use Rattle.std.proofs.Common.{◌≡◌, ◌||◌, ℕ, List, [], ◌∷◌, Option, Some, None, is_some, map, option_map, refl, ap, ap₂}
use Rattle.std.specs.Borrow.{Bor}
use Rattle.std.specs.List.{list_any}
use Rattle.command_words.specs.Requests.{has_any}

given_same : (o : Option (Bor (List ℕ))) → is_some o ≡ is_some (option_map (λ w. w.now) o)
given_same None = refl
given_same (Some w) = refl

-- what is given is given as text
pub any_given : (os : List (Option (Bor (List ℕ)))) → list_any is_some os ≡ has_any (map (option_map (λ w. w.now)) os)
any_given [] = refl
any_given (o ∷ os) = ap₂ (λ a b. a || b) (given_same o) (any_given os)
