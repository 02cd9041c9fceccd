-- The chain of format 5 DSCBs, which lists the free space (System Control Blocks GC28-6628; how a run is split, and where the chain stands: this project's profile).
use Rattle.std.specs.Prelude.{◌≡◌, ℕ, ◌+◌, ◌-◌, ◌*◌, ◌/◌, max, List, [], ◌∷◌, ◌++◌, drop, length, map, position, replicate, slice_get, slice_index_or, Option, Some, Result, Ok}
use Rattle.std.specs.List.{range_with_len}
use Rattle.std.specs.Option.{option_map}
use Rattle.std.specs.Int.{w16, to_be_bytes}
use Rattle.dscb_codec.specs.declared.Dscb.{Dscb}
use Rattle.dscb_codec.specs.declared.Dscb.TheVariants as formats
use Rattle.dscb_codec.specs.declared.DscbErr.{DscbErr}
use Rattle.dscb_codec.specs.declared.F5.{F5}
use Rattle.vol_model.specs.declared.contents.Run.{Run}
use Rattle.vol_model.specs.declared.contents.Volume.{Volume}
use Rattle.vol_model.specs.Space.{free_runs}
use Rattle.pack_spec.specs.declared.slot.VtocSlot.{VtocSlot}
use Rattle.pack_spec.specs.Label.{heads_of}
use Rattle.pack_spec.specs.Rules.{is_f5_or_f0}

-- the cylinders that lie whole in a run: from the first that begins in it to the last that ends in it
abbrev pub whole_cylinders : ℕ → Run → ℕ
whole_cylinders heads run = (run.start + run.len) / heads - (run.start + heads - 1) / heads

-- the entry of a run: its first track, the whole cylinders in it, and its other tracks
abbrev pub entry_of : ℕ → Run → List ℕ
entry_of heads run = to_be_bytes w16 run.start ++ (to_be_bytes w16 (whole_cylinders heads run)
    ++ ((run.len - whole_cylinders heads run * heads) ∷ []))

-- no entry
abbrev pub no_entry : List ℕ
no_entry = replicate 5 0

-- how many DSCBs list so many runs: one for each started 26, and at least one
abbrev pub dscbs_for : ℕ → ℕ
dscbs_for runs = max 1 ((runs + 25) / 26)

-- the 26 entries of the DSCB of this number in the chain of some runs; past the last run they are none
abbrev pub entries_in : ℕ → List Run → ℕ → List (List ℕ)
entries_in heads runs i = map (λ j. slice_index_or (map (entry_of heads) runs) j no_entry)
    (range_with_len (26 * i) 26)

-- the entries of the chain that lists some runs, DSCB by DSCB
unfoldable pub entries_of : ℕ → List Run → List (List (List ℕ))
entries_of heads runs = map (entries_in heads runs) (range_with_len 0 (dscbs_for (length runs)))

-- those of the chain that lists the free space of a volume: its maximal free runs, in ascending order
abbrev pub free_entries : Volume → List (List (List ℕ))
free_entries volume = entries_of (heads_of volume.geometry) (free_runs volume)

-- the first slot from a number on that holds no data set and no part of one: it is free, or of format 5
abbrev pub next_free : List VtocSlot → ℕ → Option ℕ
next_free slots from = option_map (λ i. from + i)
    (position (λ s. is_f5_or_f0 s.content) (drop from slots))

-- a format 5 with these entries, which leads to this address
abbrev pub IsSpace : List (List ℕ) → List ℕ → Result Dscb DscbErr → Type 0
IsSpace entries pointer content = (f : F5) × (content ≡ Ok (formats.F5 f))
    × (f.front ++ f.back ≡ entries) × (f.pointer ≡ pointer)

-- such a format 5 in the slot of this number
abbrev pub HasSpace : List VtocSlot → ℕ → List (List ℕ) → List ℕ → Type 0
HasSpace slots k entries pointer = (s : VtocSlot) × (slice_get slots k ≡ Some s)
    × IsSpace entries pointer s.content

-- a chain from this slot on has these entries, DSCB by DSCB: each leads to the lowest free slot after it, and the last to none
abbrev pub IsChain : List VtocSlot → ℕ → List (List (List ℕ)) → Type 0
IsChain slots k [] = ⊥
IsChain slots k (entries ∷ []) = HasSpace slots k entries (replicate 5 0)
IsChain slots k (entries ∷ more ∷ others) =
    (n : ℕ) × (next : VtocSlot) × (next_free slots (k + 1) ≡ Some n)
    × (slice_get slots n ≡ Some next) × HasSpace slots k entries next.address
    × IsChain slots n (more ∷ others)

-- the chain from slot 1 on lists the free space of a volume
abbrev pub ListsFree : List VtocSlot → Volume → Type 0
ListsFree slots volume = IsChain slots 1 (free_entries volume)
