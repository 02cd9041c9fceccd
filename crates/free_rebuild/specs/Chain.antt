-- The slots of a VTOC as the chain of free space is written into them (System Control Blocks GC28-6628; where it stands: this project's profile).
use Rattle.std.specs.Prelude.{◌≡◌, ℕ, ◌+◌, Bool, true, List, [], ◌∷◌, drop, position, replicate, slice_get, slice_set, take, unwrap_or, Option, Some, Ok}
use Rattle.std.specs.Option.{option_map}
use Rattle.dscb_codec.specs.declared.Dscb.{Dscb}
use Rattle.dscb_codec.specs.declared.Dscb.TheVariants as formats
use Rattle.pack_spec.specs.Rules.{is_f5_or_f0}

-- a format 5 with these 26 entries, of which 8 stand in its key, that leads to an address
abbrev pub space_of : List (List ℕ) → List ℕ → Dscb
space_of entries pointer = formats.F5 (record { id = 0x05050505; front = take 8 entries; back = drop 8 entries; pointer = pointer })

-- a slot that holds no data set and no part of one: it is free, or of format 5
abbrev pub is_open : Dscb → Bool
is_open d = is_f5_or_f0 (Ok d)

-- the first open slot from a number on
abbrev pub next_open : List Dscb → ℕ → Option ℕ
next_open dscbs from = option_map (λ i. from + i) (position is_open (drop from dscbs))

-- the first open slot after one, or that itself where there is none
abbrev pub next_or : List Dscb → ℕ → ℕ
next_or dscbs k = unwrap_or (next_open dscbs (k + 1)) k

-- slots into which a chain is written, from this one on; `at` gives the address of a slot
abbrev pub chained : (ℕ → List ℕ) → List Dscb → ℕ → List (List (List ℕ)) → List Dscb
chained at dscbs k [] = dscbs
chained at dscbs k (entries ∷ []) = slice_set dscbs k (space_of entries (replicate 5 0))
chained at dscbs k (entries ∷ more ∷ others) = chained at (slice_set dscbs k (space_of entries (at (next_or dscbs k)))) (next_or dscbs k) (more ∷ others)

-- the slot of a number is there and open
abbrev pub IsOpenAt : List Dscb → ℕ → Type 0
IsOpenAt dscbs k = (d : Dscb) × (slice_get dscbs k ≡ Some d) × (is_open d ≡ true)
