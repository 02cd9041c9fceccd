-- What a source of cards gives, in this project's profile.
use Rattle.std.specs.Prelude.{◌≡◌, ◌↔◌, ℕ, List, [], ◌++◌, take, Result, IfOk, OnErr}

-- A read gives the next bytes, and none of them exactly at the end; one that fails leaves them to come.
pub record GivesNext {E : Type 0} (old new buf : List ℕ) (result : Result ℕ E) : Type 0 where
  pub next : IfOk result (λ n. old ≡ take n buf ++ new)
  pub end : IfOk result (λ n. (n ≡ 0) ↔ (old ≡ []))
  pub failed : OnErr result (new ≡ old)
