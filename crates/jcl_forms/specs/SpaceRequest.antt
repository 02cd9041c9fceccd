-- SPACE.
use Rattle.std.specs.Prelude.{ℕ, ◌+◌, ◌^◌, ◌==◌, Bool, true, false, if◌then◌else◌, List, codes, length, drop, slice_get, is_none, Option, Some, None, option_map, option_and_then}
use Rattle.std.specs.Option.{option_map_or}
use Rattle.card_text.specs.Names.{number_of}
use Rattle.jcl_forms.specs.Numbers.{number_or_zero}
use Rattle.jcl_forms.specs.Parts.{is_text, before, behind, others, inner}
use Rattle.jcl_forms.specs.declared.space.Amounts.{Amounts}
use Rattle.jcl_forms.specs.declared.space.Space.{Space}
use Rattle.jcl_forms.specs.declared.space.SpaceAsk.{SpaceAsk}
use Rattle.jcl_forms.specs.declared.space.SpaceAsk.TheVariants.{Tracks, Cylinders, Length}
use Rattle.vol_model.specs.declared.TheConstants.{MAX_DIR}

-- TRK, CYL or the length of a block
unfoldable pub ask_of : List ℕ → Option SpaceAsk
ask_of word =
    if is_text (codes "TRK") word then Some Tracks
    else (if is_text (codes "CYL") word then Some Cylinders
    else option_map Length (number_of word))

-- primary, secondary and directory, of which the last two may be missing or empty
unfoldable pub amounts_of : List ℕ → Option Amounts
amounts_of text =
    if is_none (behind 44 (others (others text)))
    then option_and_then
    (λ primary. option_and_then
    (λ secondary. option_map
    (λ directory. record { primary = primary; secondary = secondary; directory = directory })
    (number_or_zero (MAX_DIR + 1) (before 44 (others (others text)))))
    (number_or_zero (2 ^ 24) (before 44 (others text))))
    (number_of (before 44 text))
    else None

-- after the amounts stands nothing, or that the space is contiguous
unfoldable pub contiguity_of : List ℕ → Option Bool
contiguity_of text =
    if length text == 0 then Some false else (if is_text (codes ",,CONTIG") text then Some true else None)

abbrev pub space_with : Option SpaceAsk → Option Amounts → Option Bool → Option Space
space_with ask amounts contiguity =
    option_and_then
    (λ a. option_and_then
    (λ n. option_map
    (λ c. record { ask = a; primary = n.primary; secondary = n.secondary; dir = n.directory; contig = c })
    contiguity)
    amounts)
    ask

-- whether amounts stand in parentheses
abbrev pub begins_list : List ℕ → Bool
begins_list text = option_map_or (λ b. b == 40) (slice_get text 0) false

-- a primary amount alone, or a list of amounts, and what is after
unfoldable pub space_behind : List ℕ → List ℕ → Option Space
space_behind unit text =
    if begins_list text
    then option_and_then (λ rest. space_with (ask_of unit) (amounts_of (before 41 (drop 1 text))) (contiguity_of rest)) (behind 41 (drop 1 text))
    else space_with (ask_of unit) (amounts_of (before 44 text)) (contiguity_of (drop (length (before 44 text)) text))

-- the space that a value of SPACE asks for
unfoldable pub space_of : List ℕ → Option Space
space_of text =
    option_and_then (λ items. option_and_then (space_behind (before 44 items)) (behind 44 items)) (inner text)
