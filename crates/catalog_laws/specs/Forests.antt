-- The chains of a catalog that can be read, as they stand in its blocks, in this project's profile.
use Rattle.std.specs.Prelude.{◌≡◌, ℕ, ◌≤◌, true, false, List, [], ◌∷◌, ◌++◌, filter, length, not, slice_get, Some}
use Rattle.std.specs.List.{filter_map, flat_map, range_with_len}
use Rattle.vol_model.specs.declared.contents.Place.{Place}
use Rattle.catalog_blocks.specs.declared.blocks.CatEntry.{CatEntry}
use Rattle.catalog_blocks.specs.declared.chains.Chain.{Chain}
use Rattle.catalog_blocks.specs.declared.chains.Lead.{Lead}
use Rattle.catalog_blocks.specs.Trees.{Store, chain_to, entries_of, is_among, is_zeros, lead_in, number_at, numbers, root_lead, suits, with_block}

-- these blocks stand in a store one after the other from a place on: each links to the next, and the last to none
abbrev pub Links : ℕ → Store → Place → List (ℕ × List CatEntry) → Type 0
Links per store p [] = is_zeros p ≡ true
Links per store p (b ∷ bs) = (number_at per (length store) p ≡ Some b.0) × (q : Place)
    × (slice_get store b.0 ≡ Some (Some (record { entries = b.1; next = q }))) × Links per store q bs

-- the entries of each can be those of the next block of a chain
abbrev pub SuitFrom : Chain → List (ℕ × List CatEntry) → Type 0
SuitFrom c [] = Unit {0}
SuitFrom c (b ∷ bs) = (suits c b.1 ≡ true) × SuitFrom (with_block c b.0 b.1) bs

-- A chain so far goes on from a place with these blocks to its end.
pub record GoesOn (per : ℕ) (store : Store) (c : Chain) (p : Place) (more : List (ℕ × List CatEntry)) (d : Chain) : Type 0 where
  pub some : 1 ≤ length more
  pub links : Links per store p more
  pub suit : SuitFrom c more
  pub is : d ≡ record c { blocks = c.blocks ++ more }

-- a chain stands in a store where a lead leads
abbrev pub StandsAt : ℕ → Store → Lead → Chain → Type 0
StandsAt per store l c = GoesOn per store (chain_to l) l.place c.blocks c

-- the chains to which the entries of a chain lead, in order
abbrev pub leads_of : Chain → List Lead
leads_of c = filter_map (lead_in c) (entries_of c)

-- these chains stand where these leads lead, each with all below it
abbrev pub Follow : ℕ → Store → List Lead → List Chain → Type 0
Follow per store [] [] = Unit {0}
Follow per store (l ∷ ls) [] = ⊥
Follow per store [] (c ∷ cs) = ⊥
Follow per store (l ∷ ls) (c ∷ cs) = StandsAt per store l c × Follow per store (leads_of c ++ ls) cs

-- numbers that are not among these, and none of which stands twice
abbrev pub AreApart : List ℕ → List ℕ → Type 0
AreApart reached [] = Unit {0}
AreApart reached (k ∷ ks) = (is_among k reached ≡ false) × AreApart (k ∷ reached) ks

-- the numbers of the blocks of chains
abbrev pub all_numbers : List Chain → List ℕ
all_numbers cs = flat_map numbers cs

-- stores of as many blocks have the same at these numbers
pub record AgreeAt (ks : List ℕ) (store new : Store) : Type 0 where
  pub size : length new ≡ length store
  pub blocks : (k : ℕ) → is_among k ks ≡ true → slice_get new k ≡ slice_get store k

-- The chains of a catalog: they stand in the store from the root on, and no block is reached twice.
pub record AreChains (per : ℕ) (store : Store) (cs : List Chain) : Type 0 where
  pub follow : Follow per store (root_lead ∷ []) cs
  pub apart : AreApart [] (all_numbers cs)

-- the numbers below one that are not among these
abbrev pub free_below : ℕ → List ℕ → List ℕ
free_below n ks = filter (λ k. not (is_among k ks)) (range_with_len 0 n)
