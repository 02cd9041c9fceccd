-- The slots of a VTOC without what is unused, and the format 4 that tells of them (System Control Blocks GC28-6628).
use Rattle.std.specs.Prelude.{◌≡◌, ℕ, ◌&&◌, ◌||◌, not, nat_le, nat_lt, Bool, false, List, count_by, length, map, filter, slice_get, slice_index_or, replicate, slice_set, Some, None, Ok, unwrap_or, bit_and, if◌then◌else◌}
use Rattle.std.specs.List.{enumerate_from, last_or, list_any}
use Rattle.std.specs.Str.{bytes_eq}
use Rattle.dscb_codec.specs.declared.Dscb.{Dscb}
use Rattle.dscb_codec.specs.declared.Dscb.TheVariants as formats
use Rattle.pack_spec.specs.Rules.{is_chained, is_f3}
use Rattle.pack_spec.specs.Settled.{is_f0, is_f1, is_f5}

-- a format 1 whose pointer counts has this address in it
abbrev pub points_to : List ℕ → Dscb → Bool
points_to address (formats.F1 f) = is_chained f && bytes_eq address f.pointer
points_to address _ = false

-- one of these DSCBs has it
abbrev pub is_pointed : List Dscb → List ℕ → Bool
is_pointed dscbs address = list_any (points_to address) dscbs

-- a DSCB at an address belongs to nothing: a format 3 that no data set leads to, or a format 5
abbrev pub is_extra : List Dscb → List ℕ → Dscb → Bool
is_extra dscbs address d = is_f5 (Ok d) || (is_f3 (Ok d) && not (is_pointed dscbs address))

-- the slot of a number, at an address, belongs to nothing
abbrev pub is_extra_at : List ℕ → List Dscb → ℕ → Bool
is_extra_at address dscbs k = is_extra dscbs address (slice_index_or dscbs k formats.F0)

-- slots of which one is cleared, where it belongs to nothing
abbrev pub clear_at : List ℕ → List Dscb → ℕ → List Dscb
clear_at address dscbs k = if is_extra_at address dscbs k then slice_set dscbs k formats.F0 else dscbs

-- slots after slot 1 and before another are cleared where they hold what belongs to nothing; `at` gives the address of a slot
pub record AreCleared (at : ℕ → List ℕ) (upto : ℕ) (before after : List Dscb) : Type 0 where
  pub size : length after ≡ length before
  pub each : (k : ℕ) (d : Dscb) → slice_get before k ≡ Some d → slice_get after k
      ≡ Some (if nat_le 2 k && (nat_lt k upto && is_extra before (at k) d) then formats.F0 else d)

-- a format 4 with both bits off, so many free DSCBs, and this highest address of a format 1; other DSCBs stay
abbrev pub with_counts : ℕ → List ℕ → Dscb → Dscb
with_counts free highest (formats.F4 f) = formats.F4 (record f { highest = highest; free = free; indicators = bit_and f.indicators 0x7B })
with_counts free highest d = d

-- the free DSCBs among these
abbrev pub free_in : List Dscb → ℕ
free_in dscbs = count_by (λ d. is_f0 (Ok d)) dscbs

-- the address of the last format 1 among these, or zeros where there is none; `at` gives the address of a slot
abbrev pub highest_among : (ℕ → List ℕ) → List Dscb → List ℕ
highest_among at dscbs = unwrap_or (last_or None (map (λ p. at p.0)
    (filter (λ p. is_f1 (Ok p.1)) (enumerate_from 0 dscbs)))) (replicate 5 0)
