-- The entries of a chain, each with the number of the block that holds it.
use Rattle.std.specs.Prelude.{ℕ, List, map}
use Rattle.chain_spec.specs.Kept.{bound_after}
use Rattle.catalog_blocks.specs.declared.blocks.CatEntry.{CatEntry}
use Rattle.catalog_blocks.specs.declared.chains.Chain.{Chain}
use Rattle.catalog_blocks.specs.Blocks.{name_number}
use Rattle.catalog_blocks.specs.Trees.{located_entries}

-- the number that its name spells
abbrev pub located_number : ℕ × CatEntry → ℕ
located_number p = name_number p.1

-- the entries of one block
abbrev pub located : ℕ → List CatEntry → List (ℕ × CatEntry)
located number entries = map (λ (e : CatEntry). (number, e)) entries

-- the least name that a chain so far would keep of a further block
abbrev pub bound_of : Chain → ℕ
bound_of c = bound_after name_number 0 (map (λ (p : ℕ × CatEntry). p.1) (located_entries c.blocks))
