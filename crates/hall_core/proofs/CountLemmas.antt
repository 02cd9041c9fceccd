-- Which calls are to fail.
use Rattle.std.proofs.Common.{◌≡◌, ℕ, List, Bool, nat_eq, subst}
use Rattle.std.specs.Prelude.{Contains}
use Rattle.std.specs.Bool.{Decides}
use Rattle.std.specs.List.{IsAnyAnswer}
use Rattle.std.proofs.lemmas.Bool.Decides.{Decides-eqb}
use Rattle.std.proofs.lemmas.List.Elements.{contains_decides, Decides-contains}

-- what `contains` says at numbers
pub contains_is : (xs read : List ℕ) (x : ℕ) (answer : Bool) → read ≡ xs → IsAnyAnswer (λ y t. nat_eq y x ≡ t) read answer → Decides answer (Contains xs x)
contains_is xs read x answer same cases = Decides-contains xs x answer (contains_decides nat_eq Decides-eqb xs x answer (subst (λ (l : List ℕ). IsAnyAnswer (λ y t. nat_eq y x ≡ t) l answer) same cases))
