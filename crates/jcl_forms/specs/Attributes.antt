-- DCB (the codes are those of System Control Blocks, GC28-6628).
use Rattle.std.specs.Prelude.{ℕ, ◌^◌, ◌==◌, if◌then◌else◌, bit_and, bit_or, List, [], ◌∷◌, codes, Option, Some, None, option_map, option_and_then}
use Rattle.std.specs.List.{slice_split}
use Rattle.jcl_forms.specs.Numbers.{number_below}
use Rattle.jcl_forms.specs.Parts.{is_text, is_byte, before, behind, items}
use Rattle.jcl_forms.specs.declared.attributes.Attribute.{Attribute}
use Rattle.jcl_forms.specs.declared.attributes.Attribute.TheVariants.{Recfm, Lrecl, Blksize, Keylen, Dsorg}
use Rattle.jcl_forms.specs.declared.attributes.Dcb.{Dcb}

-- F, V or U
unfoldable pub format_code : ℕ → Option ℕ
format_code b = if b == 70 then Some 0x80 else (if b == 86 then Some 0x40 else (if b == 85 then Some 0xC0 else None))

-- B, S, A or M
unfoldable pub modifier_code : ℕ → Option ℕ
modifier_code b =
    if b == 66 then Some 0x10 else (if b == 83 then Some 0x08 else (if b == 65 then Some 0x04 else (if b == 77 then Some 0x02 else None)))

-- a record format with further letters, none of which it has yet
unfoldable pub modified : ℕ → List ℕ → Option ℕ
modified code [] = Some code
modified code (b ∷ bs) =
    option_and_then (λ bit. if bit_and code bit == 0 then modified (bit_or code bit) bs else None) (modifier_code b)

-- F, V or U, and then any of B, S, A and M, each at most once
unfoldable pub recfm_of : List ℕ → Option ℕ
recfm_of [] = None
recfm_of (b ∷ bs) = option_and_then (λ code. modified code bs) (format_code b)

-- PS, PO, DA or IS
unfoldable pub dsorg_of : List ℕ → Option ℕ
dsorg_of word =
    if is_text (codes "PS") word then Some 0x4000
    else (if is_text (codes "PO") word then Some 0x0200
    else (if is_text (codes "DA") word then Some 0x2000
    else (if is_text (codes "IS") word then Some 0x8000
    else None)))

-- a value for a field that has none yet
abbrev pub new_value : {X : Type 0} → Option X → Option X → Option X
new_value None found = found
new_value (Some given) found = None

unfoldable pub attribute_of : List ℕ → Option Attribute
attribute_of key =
    if is_text (codes "RECFM") key then Some Recfm
    else (if is_text (codes "LRECL") key then Some Lrecl
    else (if is_text (codes "BLKSIZE") key then Some Blksize
    else (if is_text (codes "KEYLEN") key then Some Keylen
    else (if is_text (codes "DSORG") key then Some Dsorg
    else None))))

-- attributes with a value for one of them
unfoldable pub with_value : Dcb → Attribute → List ℕ → Option Dcb
with_value dcb Recfm value = option_map (λ v. record dcb { recfm = Some v }) (new_value dcb.recfm (recfm_of value))
with_value dcb Lrecl value = option_map (λ v. record dcb { lrecl = Some v }) (new_value dcb.lrecl (number_below (2 ^ 16) value))
with_value dcb Blksize value = option_map (λ v. record dcb { blksize = Some v }) (new_value dcb.blksize (number_below (2 ^ 16) value))
with_value dcb Keylen value = option_map (λ v. record dcb { keylen = Some v }) (new_value dcb.keylen (number_below (2 ^ 8) value))
with_value dcb Dsorg value = option_map (λ v. record dcb { dsorg = Some v }) (new_value dcb.dsorg (dsorg_of value))

-- attributes with the one that an item KEY=value gives
abbrev pub with_item : Dcb → List ℕ → Option Dcb
with_item dcb item =
    option_and_then
    (λ value. option_and_then (λ attribute. with_value dcb attribute value) (attribute_of (before 61 item)))
    (behind 61 item)

-- attributes with those of items
unfoldable pub with_attributes : Dcb → List (List ℕ) → Option Dcb
with_attributes dcb [] = Some dcb
with_attributes dcb (item ∷ others) = option_and_then (λ more. with_attributes more others) (with_item dcb item)

abbrev pub no_attributes : Dcb
no_attributes = record { recfm = None; lrecl = None; blksize = None; keylen = None; dsorg = None }

-- the attributes that a value of DCB gives
unfoldable pub attributes_of : List ℕ → Option Dcb
attributes_of text = with_attributes no_attributes (slice_split (is_byte 44) (items text))
