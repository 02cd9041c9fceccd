-- The chains of a catalog in memory.
use Rattle.std.specs.Prelude.{ℕ, List, ◌++◌, map, Result, Ok, Err}
use Rattle.catalog_blocks.specs.declared.chains.Chain.{Chain}
use Rattle.catalog_plan.specs.declared.branch.Branch.{Branch}

-- the chains of these
abbrev pub chains_of : List Branch → List Chain
chains_of branches = map (λ (b : Branch). b.chain) branches

-- the same of those that were read, or the fault
abbrev pub chains_read : Result (List Branch) ℕ → Result (List Chain) ℕ
chains_read (Ok branches) = Ok (chains_of branches)
chains_read (Err at) = Err at

-- chains in front of others that were read
abbrev pub with_chains : List Chain → Result (List Chain) ℕ → Result (List Chain) ℕ
with_chains done (Ok cs) = Ok (done ++ cs)
with_chains done (Err at) = Err at
