-- The fields of a DSCB in the order of their places, and bytes that have them one after another.
use Rattle.std.proofs.Common.{◌≡◌, ℕ, ◌+◌, ◌-◌, ◌≤◌, ◌==◌, List, [], ◌∷◌, ◌++◌, Bool, true, false, ◌&&◌, map, length, take, drop, slice_range, refl, arith, ap, sym, ◌∙◌, append_assoc}
use Rattle.std.specs.List.{AllByRecursion, concat}
use Rattle.std.specs.Int.{w16, w32, to_be_bytes}
use Rattle.std.proofs.lemmas.List.{drop_all, drop_at, take_at, length-append}
use Rattle.std.proofs.lemmas.List.Folds.{drop_split}
use Rattle.std.proofs.lemmas.Bool.{eqb-true}
use Rattle.dscb_codec.specs.declared.F1.{F1}
use Rattle.dscb_codec.specs.declared.F3.{F3}
use Rattle.dscb_codec.specs.declared.F4.{F4}
use Rattle.dscb_codec.specs.declared.F5.{F5}
use Rattle.dscb_codec.specs.Layout.{is_zeros}

-- a field: its offset, its length, and its value's bytes
pub record Field : Type 0 where
  pub at : ℕ
  pub len : ℕ
  pub bytes : List ℕ

-- a row of the table
abbrev pub field : ℕ → ℕ → List ℕ → Field
field at len bytes = record { at = at; len = len; bytes = bytes }

-- a field of one byte
abbrev pub byte_field : ℕ → ℕ → Field
byte_field at x = field at 1 (x ∷ [])

-- a field of two bytes, a number
abbrev pub half_field : ℕ → ℕ → Field
half_field at x = field at 2 (to_be_bytes w16 x)

-- a field of four bytes, a number
abbrev pub word_field : ℕ → ℕ → Field
word_field at x = field at 4 (to_be_bytes w32 x)

-- these bytes have the field in its place
abbrev pub Stands : List ℕ → Field → Type 0
Stands bytes f = slice_range bytes f.at (f.at + f.len) ≡ f.bytes

-- these bytes have all fields in their places
abbrev pub HasFields : List ℕ → List Field → Type 0
HasFields bytes fields = AllByRecursion (Stands bytes) fields

-- format 1: a data set
abbrev pub f1_fields : F1 → List Field
f1_fields f =
    field 0 44 f.name
    ∷ byte_field 44 0xF1
    ∷ field 45 6 f.serial
    ∷ half_field 51 f.volseq
    ∷ field 53 3 f.created
    ∷ field 56 3 f.expires
    ∷ byte_field 59 f.extents
    ∷ byte_field 60 f.dir_used
    ∷ field 61 1 f.res61
    ∷ field 62 13 f.system
    ∷ field 75 7 f.res75
    ∷ half_field 82 f.dsorg
    ∷ byte_field 84 f.recfm
    ∷ byte_field 85 f.optcd
    ∷ half_field 86 f.blksize
    ∷ half_field 88 f.lrecl
    ∷ byte_field 90 f.keylen
    ∷ half_field 91 f.rkp
    ∷ byte_field 93 f.indicators
    ∷ word_field 94 f.scalo
    ∷ field 98 3 f.lstar
    ∷ half_field 101 f.balance
    ∷ field 103 2 f.res103
    ∷ field 105 30 (concat f.runs)
    ∷ field 135 5 f.pointer
    ∷ []

-- format 3: more extents of a data set
abbrev pub f3_fields : F3 → List Field
f3_fields f = word_field 0 f.id ∷ field 4 40 (concat f.front) ∷ byte_field 44 0xF3 ∷ field 45 90 (concat f.back) ∷ field 135 5 f.pointer ∷ []

-- format 4: the VTOC itself
abbrev pub f4_fields : F4 → List Field
f4_fields f =
    field 0 44 f.id
    ∷ byte_field 44 0xF4
    ∷ field 45 5 f.highest
    ∷ half_field 50 f.free
    ∷ word_field 52 f.next_alt
    ∷ half_field 56 f.alternates
    ∷ byte_field 58 f.indicators
    ∷ byte_field 59 f.extents
    ∷ field 60 2 f.res60
    ∷ word_field 62 f.size
    ∷ half_field 66 f.capacity
    ∷ byte_field 68 f.i
    ∷ byte_field 69 f.l
    ∷ byte_field 70 f.k
    ∷ byte_field 71 f.flag
    ∷ half_field 72 f.tolerance
    ∷ byte_field 74 f.dscbs
    ∷ byte_field 75 f.dirs
    ∷ field 76 29 f.res76
    ∷ field 105 10 f.vtoc
    ∷ field 115 25 f.res115
    ∷ []

-- format 5: free space
abbrev pub f5_fields : F5 → List Field
f5_fields f = word_field 0 f.id ∷ field 4 40 (concat f.front) ∷ byte_field 44 0xF5 ∷ field 45 90 (concat f.back) ∷ field 135 5 f.pointer ∷ []

-- whether the fields follow one another from one offset to another
abbrev pub covers : ℕ → List Field → ℕ → Bool
covers start [] end = start == end
covers start (f ∷ fields) end = f.at == start && covers (start + f.len) fields end

-- the bytes of the fields, one after another
abbrev pub bytes_of : List Field → List ℕ
bytes_of fields = concat (map (λ field. field.bytes) fields)

-- each field has as many bytes as its length says
abbrev pub HasWidths : List Field → Type 0
HasWidths fields = AllByRecursion (λ field. length field.bytes ≡ field.len) fields

-- both of two tests
pub both : (a b : Bool) → (a && b) ≡ true → (a ≡ true) × (b ≡ true)
both true true is = (refl, refl)
both true false is = cc
both false b is = cc

-- a field stands where its bytes do
stands : (before part rest bytes : List ℕ) (at len : ℕ) → length before ≡ at → length part ≡ len → bytes ≡ before ++ (part ++ rest) → slice_range bytes at (at + len) ≡ part
stands before part rest bytes at len here wide is =
    ap (λ (l : List ℕ). slice_range l at (at + len)) is
    ∙ ap (λ (l : List ℕ). take (at + len - at) l) (drop_at before (part ++ rest) at here)
    ∙ take_at part rest (at + len - at) (omega arith)

-- bytes that are those of the fields, one after another, have the fields
pub has_fields : (fields : List Field) (start end : ℕ) (before bytes : List ℕ) → covers start fields end ≡ true → HasWidths fields → length before ≡ start → bytes ≡ before ++ bytes_of fields → HasFields bytes fields
has_fields [] start end before bytes covered wide here is = tt
has_fields (f ∷ fields) start end before bytes covered wide here is =
    let parts = both _ _ covered in
    let first : f.at ≡ start = eqb-true f.at start parts.0 in (
      stands before f.bytes (bytes_of fields) bytes f.at f.len (here ∙ sym first) wide.0 is,
      has_fields fields (start + f.len) end (before ++ f.bytes) bytes parts.1 wide.1 (omega (arith, length-append before f.bytes, wide.0)) (is ∙ sym (append_assoc before f.bytes (bytes_of fields))),
    )

-- bytes that have the same fields are the same from the first field on
pub same_from : (fields : List Field) (start end : ℕ) (xs ys : List ℕ) → covers start fields end ≡ true → length xs ≤ end → length ys ≤ end → HasFields xs fields → HasFields ys fields → drop start xs ≡ drop start ys
same_from [] start end xs ys covered short_xs short_ys in_xs in_ys =
    let last : start ≡ end = eqb-true start end covered in
    drop_all start xs (omega arith) ∙ sym (drop_all start ys (omega arith))
same_from (f ∷ fields) start end xs ys covered short_xs short_ys in_xs in_ys =
    let parts = both _ _ covered in
    let first : f.at ≡ start = eqb-true f.at start parts.0 in
    let split : (zs : List ℕ) → drop f.at zs ≡ slice_range zs f.at (f.at + f.len) ++ drop (f.at + f.len) zs = λ zs. drop_split zs f.at (f.at + f.len) (omega arith) in
    let rest : drop (f.at + f.len) xs ≡ drop (f.at + f.len) ys = rw first (same_from fields (start + f.len) end xs ys parts.1 short_xs short_ys in_xs.1 in_ys.1) in
    let same : drop f.at xs ≡ drop f.at ys =
    split xs ∙ ap (λ (l : List ℕ). l ++ drop (f.at + f.len) xs) (in_xs.0 ∙ sym in_ys.0) ∙ ap (λ (l : List ℕ). slice_range ys f.at (f.at + f.len) ++ l) rest ∙ sym (split ys) in
    ap (λ (at : ℕ). drop at xs) (sym first) ∙ same ∙ ap (λ (at : ℕ). drop at ys) first

-- zeros are told by their number
pub same_zeros : (xs ys : List ℕ) → length xs ≡ length ys → is_zeros xs ≡ true → is_zeros ys ≡ true → xs ≡ ys
same_zeros [] [] wide zeros_xs zeros_ys = refl
same_zeros [] (y ∷ ys) wide zeros_xs zeros_ys = absurd (omega arith)
same_zeros (x ∷ xs) [] wide zeros_xs zeros_ys = absurd (omega arith)
same_zeros (x ∷ xs) (y ∷ ys) wide zeros_xs zeros_ys =
    let in_xs = both (x == 0) (is_zeros xs) zeros_xs in
    let in_ys = both (y == 0) (is_zeros ys) zeros_ys in
    let rest : xs ≡ ys = same_zeros xs ys (omega arith) in_xs.1 in_ys.1 in
    let first : x ≡ y = eqb-true x 0 in_xs.0 ∙ sym (eqb-true y 0 in_ys.0) in
    ap (λ (z : ℕ). z ∷ xs) first ∙ ap (λ (zs : List ℕ). y ∷ zs) rest
