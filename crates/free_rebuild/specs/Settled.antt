-- Whether a VTOC is settled, as a test (System Control Blocks GC28-6628; the bit of an interrupted update: this project's profile).
use Rattle.std.specs.Prelude.{ℕ, ◌+◌, ◌==◌, ◌&&◌, ◌||◌, not, Bool, false, List, [], ◌∷◌, ◌++◌, count_by, length, map, replicate, slice_get, Option, Some, None, option_and_then, Result, Ok, Err, if◌then◌else◌}
use Rattle.std.specs.Cmp.Lexicographic.{pointwise}
use Rattle.std.specs.List.{enumerate_from, list_all}
use Rattle.std.specs.Option.{option_map_or}
use Rattle.std.specs.Str.{bytes_eq}
use Rattle.dscb_codec.specs.declared.Dscb.{Dscb}
use Rattle.dscb_codec.specs.declared.Dscb.TheVariants as formats
use Rattle.dscb_codec.specs.declared.DscbErr.{DscbErr}
use Rattle.dscb_codec.specs.declared.F4.{F4}
use Rattle.dscb_codec.specs.declared.F5.{F5}
use Rattle.vol_model.specs.declared.contents.Volume.{Volume}
use Rattle.pack_spec.specs.declared.MountErr.{MountErr}
use Rattle.pack_spec.specs.declared.slot.VtocSlot.{VtocSlot}
use Rattle.pack_spec.specs.FreeChain.{free_entries, next_free}
use Rattle.pack_spec.specs.Rules.{is_f3}
use Rattle.pack_spec.specs.Settled.{head_of, highest_of, is_f0, is_f5, is_marked, is_used, slots_for}
use Rattle.pack_spec.specs.Volume.{volume_of}
use Rattle.vtoc_index.specs.Index.{address_in}
use Rattle.vtoc_index.specs.declared.vol.Vol.{Vol}

-- both bits of a format 4 are off, and its counts are right
abbrev pub counts_match : List VtocSlot → F4 → Bool
counts_match slots head = not (is_marked head)
    && ((head.free == count_by (λ s. is_f0 s.content) slots)
    && bytes_eq head.highest (highest_of slots))

-- a format 4 like that stands in slot 0
abbrev pub has_head : List VtocSlot → Bool
has_head slots = option_map_or (counts_match slots) (head_of slots) false

-- a format 5 has these entries, and leads to this address
abbrev pub lists : F5 → List (List ℕ) → List ℕ → Bool
lists f entries pointer = pointwise bytes_eq (f.front ++ f.back) entries
    && bytes_eq f.pointer pointer

-- such a format 5
abbrev pub is_space : List (List ℕ) → List ℕ → Result Dscb DscbErr → Bool
is_space entries pointer (Ok (formats.F5 f)) = lists f entries pointer
is_space entries pointer _ = false

-- such a format 5 in the slot of this number
abbrev pub has_space : List VtocSlot → ℕ → List (List ℕ) → List ℕ → Bool
has_space slots k entries pointer = option_map_or (λ s. is_space entries pointer s.content)
    (slice_get slots k) false

-- the slot of this number has these entries, and leads to the slot of another number
abbrev pub leads_on : List VtocSlot → ℕ → List (List ℕ) → ℕ → Bool
leads_on slots k entries n = option_map_or (λ next. has_space slots k entries next.address)
    (slice_get slots n) false

-- the lowest free slot after this one, where this one has these entries and leads to it
abbrev pub next_linked : List VtocSlot → ℕ → List (List ℕ) → Option ℕ
next_linked slots k entries =
    option_and_then (λ n. if leads_on slots k entries n then Some n else None)
    (next_free slots (k + 1))

-- a chain from this slot on has these entries, DSCB by DSCB, and the last of it leads to none
unfoldable pub is_chain : List VtocSlot → ℕ → List (List (List ℕ)) → Bool
is_chain slots k [] = false
is_chain slots k (entries ∷ []) = has_space slots k entries (replicate 5 0)
is_chain slots k (entries ∷ more ∷ others) =
    option_map_or (λ n. is_chain slots n (more ∷ others)) (next_linked slots k entries) false

-- a slot doesn't hold a format 3, or a data set leads to it
abbrev pub is_kept : List VtocSlot → VtocSlot → Bool
is_kept slots s = not (is_f3 s.content) || is_used slots s

-- a data set leads to each format 3, and there are as many format 5 as a chain has
abbrev pub has_no_extra : List VtocSlot → List (List (List ℕ)) → Bool
has_no_extra slots ess = list_all (is_kept slots) slots
    && (count_by (λ s. is_f5 s.content) slots == length ess)

-- the VTOC of these slots is settled, where the chain of its free space has these entries
unfoldable pub are_settled : List VtocSlot → List (List (List ℕ)) → Bool
are_settled slots ess = has_head slots && (is_chain slots 1 ess && has_no_extra slots ess)

-- the same of the slots on an image that stands for a volume; else no
abbrev pub are_settled_on : List ℕ → Result Volume MountErr → Bool
are_settled_on image (Ok volume) = are_settled (slots_for image volume) (free_entries volume)
are_settled_on image (Err e) = false

-- an image stands for a volume and is settled, as far as the VTOC goes
unfoldable pub is_settled_vtoc : List ℕ → Bool
is_settled_vtoc image = are_settled_on image (volume_of image)

-- the slots that an index holds, each at its address
unfoldable pub slots_held : Vol → List VtocSlot
slots_held v = map (λ p. record { address = address_in v p.0; content = Ok p.1 })
    (enumerate_from 0 v.slots.items)
