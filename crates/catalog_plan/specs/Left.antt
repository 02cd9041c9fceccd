-- Blocks that are left in memory, while those that were read are taken from them.
use Rattle.std.specs.Prelude.{ℕ, ◌/◌, List, [], ◌∷◌, None, Some, Option, option_map, set}
use Rattle.std.specs.List.{filter_map}
use Rattle.catalog_blocks.specs.declared.blocks.CatEntry.{CatEntry}
use Rattle.catalog_blocks.specs.declared.chains.Chain.{Chain}
use Rattle.catalog_blocks.specs.Trees.{Store, lead_in}
use Rattle.catalog_blocks.specs.declared.chains.Lead.{Lead}
use Rattle.catalog_blocks.specs.declared.chains.Visit.{Visit}

-- without the blocks of these numbers
abbrev pub without : List ℕ → Store → Store
without [] store = store
without (k ∷ ks) store = without ks (set store k None)

-- the visit of a chain, if there is one, from a block on a track
abbrev pub visit_by : ℕ → Option Lead → List Visit
visit_by from None = []
visit_by from (Some l) = record { lead = l; from = from } ∷ []

-- the visits of the chains to which these entries of a chain lead
abbrev pub visits_by : ℕ → Chain → List (ℕ × CatEntry) → List Visit
visits_by per c held = filter_map (λ (p : ℕ × CatEntry). option_map (λ (l : Lead). record { lead = l; from = p.0 / per }) (lead_in c p.1)) held
