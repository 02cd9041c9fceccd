-- DSN.
use Rattle.std.specs.Prelude.{ℕ, pos, neg_ℤ, ◌-◌, ◌^◌, ◌==◌, Bool, true, false, ◌&&◌, if◌then◌else◌, nat_lt, List, [], ◌∷◌, length, take, slice_get, Option, Some, None, option_map, option_and_then}
use Rattle.std.specs.Option.{option_map_or}
use Rattle.ebcdic_names.specs.declared.names.Dsn.{Dsn}
use Rattle.card_text.specs.Names.{data_set_name_of, name_of}
use Rattle.jcl_forms.specs.Numbers.{number_below}
use Rattle.jcl_forms.specs.Parts.{before, behind}
use Rattle.jcl_forms.specs.declared.data_set.DdPart.{DdPart}
use Rattle.jcl_forms.specs.declared.data_set.DdPart.TheVariants.{Whole, Member, Generation}

-- 0, a number after + or -, or the name of a member
unfoldable pub part_of : List ℕ → Option DdPart
part_of [] = None
part_of (b ∷ bs) =
    if (b == 48) && (length bs == 0) then Some (Generation (pos 0))
    else (if b == 43 then option_map (λ n. Generation (pos n)) (number_below (2 ^ 31) bs)
    else (if b == 45 then option_map (λ n. Generation (neg_ℤ (pos n))) (number_below (2 ^ 31) bs)
    else option_map Member (name_of (b ∷ bs))))

-- a part, and the parenthesis after it
unfoldable pub closed_part : List ℕ → Option DdPart
closed_part text =
    if option_map_or (λ b. b == 41) (slice_get text (length text - 1)) false then part_of (take (length text - 1) text) else None

abbrev pub part_behind : Option (List ℕ) → Option DdPart
part_behind None = Some Whole
part_behind (Some text) = closed_part text

-- a group's name leaves room for the level of a generation
abbrev pub takes_name : DdPart → List ℕ → Bool
takes_name Whole name = true
takes_name (Member member) name = true
takes_name (Generation n) name = nat_lt (length name) 36

-- the name that a value of DSN gives, and what of the set it means
unfoldable pub data_set_of : List ℕ → Option (Dsn × DdPart)
data_set_of text =
    option_and_then
    (λ part. if takes_name part (before 40 text) then option_map (λ dsn. (dsn, part)) (data_set_name_of (before 40 text)) else None)
    (part_behind (behind 40 text))
