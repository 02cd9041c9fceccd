-- What the statements of IEBGENER ask for (Utilities GC28-6586, in this project's profile).
use Rattle.std.specs.Prelude.{ℕ, ◌==◌, nat_le, Bool, true, false, ◌&&◌, ◌||◌, if◌then◌else◌, List, [], ◌∷◌, codes, is_some, Option, Some, None, option_map, option_and_then}
use Rattle.std.specs.List.{count_by, list_all}
use Rattle.ebcdic_names.specs.declared.names.Name8.{Name8}
use Rattle.card_text.specs.Names.{name_of, number_of}
use Rattle.card_text.specs.Operands.{OperandView}
use Rattle.card_text.specs.Tree.{Tree, Trees, empty, word, quoted, list, more, none, as_list, as_word, value_view}
use Rattle.card_text.specs.declared.values.Value.{Value}
use Rattle.util_syntax.specs.Forms.{has_keyword, if_given, is_named, value_of}
use Rattle.util_syntax.specs.Items.{StatementView}
use Rattle.record_files.specs.Streams.{in_ebcdic}
use Rattle.iebgener_util.specs.declared.requests.Edit.{Edit}
use Rattle.iebgener_util.specs.declared.requests.Field.{Field}
use Rattle.iebgener_util.specs.declared.requests.Ident.{Ident}
use Rattle.iebgener_util.specs.declared.requests.Names.{Names}
use Rattle.iebgener_util.specs.declared.requests.Origin.{Origin}
use Rattle.iebgener_util.specs.declared.requests.Origin.TheVariants as origin
use Rattle.iebgener_util.specs.declared.requests.Request.{Request}
use Rattle.iebgener_util.specs.declared.requests.Request.TheVariants.{Generate, Member, Record}

-- ---- the items of a list

-- the first item; nothing where there is none
abbrev pub first_item : Trees → Tree
first_item none = empty
first_item (more value values) = value

abbrev pub items_behind : Trees → Trees
items_behind none = none
items_behind (more value values) = values

abbrev pub is_end : Trees → Bool
is_end none = true
is_end (more value values) = false

abbrev pub is_nothing : Tree → Bool
is_nothing empty = true
is_nothing (word text) = false
is_nothing (quoted text) = false
is_nothing (list items) = false

-- a value that may be missing
abbrev pub seen : Option Value → Tree
seen None = empty
seen (Some v) = value_view v

-- ---- numbers and texts

-- a number, or this one where there is nothing
unfoldable pub number_or : ℕ → Tree → Option ℕ
number_or missing empty = Some missing
number_or missing (word text) = number_of text
number_or missing (quoted text) = None
number_or missing (list items) = None

-- a column, counted from 1, which is where there is nothing
unfoldable pub column_in : Tree → Option ℕ
column_in value = option_and_then (λ (n : ℕ). if n == 0 then None else Some n) (number_or 1 value)

-- a text in quotes, in EBCDIC
abbrev pub text_in : Tree → Option (List ℕ)
text_in empty = None
text_in (word text) = None
text_in (quoted text) = Some (in_ebcdic text)
text_in (list items) = None

-- ---- RECORD

abbrev pub ident_with : Option ℕ → Option (List ℕ) → Option ℕ → Option Ident
ident_with length text column =
    option_and_then (λ (n : ℕ). option_and_then (λ (t : List ℕ). option_map (λ (c : ℕ). record { length = n; text = t; column = c }) column) text) length

-- length, text and column
unfoldable pub ident_of : Tree → Tree → Tree → Option Ident
ident_of length text column = ident_with (number_or 80 length) (text_in text) (column_in column)

-- a list of at most three items
unfoldable pub ident_among : Trees → Option Ident
ident_among items =
    let behind = items_behind items in
    let last = items_behind behind in
    if is_end (items_behind last) then ident_of (first_item items) (first_item behind) (first_item last) else None

-- (length,'text',column)
unfoldable pub ident_in : Tree → Option Ident
ident_in value = option_and_then ident_among (as_list value)

-- where a field comes from: a text, or a column
unfoldable pub origin_in : Tree → Option Origin
origin_in empty = Some (origin.Column 1)
origin_in (word text) = option_map origin.Column (column_in (word text))
origin_in (quoted text) = Some (origin.Text (in_ebcdic text))
origin_in (list items) = None

abbrev pub field_with : Option ℕ → Option Origin → Option ℕ → Option Field
field_with length from to =
    option_and_then (λ (n : ℕ). option_and_then (λ (f : Origin). option_map (λ (t : ℕ). record { length = n; from = f; to = t }) to) from) length

-- length, origin and target, with nothing between the last two
unfoldable pub field_of : Tree → Tree → Tree → Tree → Option Field
field_of length from third to = if is_nothing third then field_with (number_or 80 length) (origin_in from) (column_in to) else None

-- a list of at most four items
unfoldable pub field_among : Trees → Option Field
field_among items =
    let behind = items_behind items in
    let third = items_behind behind in
    let last = items_behind third in
    if is_end (items_behind last) then field_of (first_item items) (first_item behind) (first_item third) (first_item last) else None

abbrev pub listed_or_one : Option Trees → Tree → Option Field
listed_or_one None value = field_of value empty empty empty
listed_or_one (Some items) value = field_among items

-- (length,from,,to), of which the length may stand without parentheses
unfoldable pub field_in : Tree → Option Field
field_in value = listed_or_one (as_list value) value

-- a field in front of others
abbrev pub with_field : Option Field → Option (List Field) → Option (List Field)
with_field f fs = option_and_then (λ (first : Field). option_map (λ (others : List Field). first ∷ others) fs) f

-- the fields among operands, in order
abbrev pub fields_among : List OperandView → Option (List Field)
fields_among [] = Some []
fields_among (o ∷ os) = if has_keyword (codes "FIELD") o then with_field (field_in o.value) (fields_among os) else fields_among os

abbrev pub edit_with : Option (Option Ident) → Option (List Field) → Option Edit
edit_with ident fields = option_and_then (λ (i : Option Ident). option_map (λ (fs : List Field). record { ident = i; fields = fs }) fields) ident

-- the operands of RECORD
abbrev pub is_record_operand : OperandView → Bool
is_record_operand o = has_keyword (codes "IDENT") o || has_keyword (codes "FIELD") o

-- RECORD IDENT=(length,'text',column),FIELD=(length,from,,to), IDENT once at most
unfoldable pub record_of : List OperandView → Option Edit
record_of operands =
    if list_all is_record_operand operands then edit_with (if_given ident_in (codes "IDENT") operands) (fields_among operands) else None

-- ---- GENERATE

-- a number of one of the operands of GENERATE
abbrev pub is_limit : OperandView → Bool
is_limit o =
    (has_keyword (codes "MAXNAME") o || (has_keyword (codes "MAXFLDS") o || (has_keyword (codes "MAXGPS") o || has_keyword (codes "MAXLITS") o)))
    && is_some (option_and_then number_of (as_word o.value))

abbrev pub stands_once : List ℕ → List OperandView → Bool
stands_once key operands = nat_le (count_by (has_keyword key) operands) 1

-- GENERATE MAXNAME=n,MAXFLDS=n,MAXGPS=n,MAXLITS=n, each once at most
unfoldable pub is_generate : List OperandView → Bool
is_generate operands =
    list_all is_limit operands
    && (stands_once (codes "MAXNAME") operands && (stands_once (codes "MAXFLDS") operands
    && (stands_once (codes "MAXGPS") operands && stands_once (codes "MAXLITS") operands)))

-- ---- MEMBER

-- a name of one level
abbrev pub name_in : Tree → Option Name8
name_in value = option_and_then name_of (as_word value)

-- names
abbrev pub names_among : Trees → Option (List Name8)
names_among none = Some []
names_among (more value values) = option_and_then (λ (name : Name8). option_map (λ (others : List Name8). name ∷ others) (names_among values)) (name_in value)

-- a member's own name, and its other names
abbrev pub names_with : Option Name8 → Option (List Name8) → Option Names
names_with name aliases = option_and_then (λ (n : Name8). option_map (λ (others : List Name8). record { name = n; aliases = others }) aliases) name

-- (name,alias,..)
unfoldable pub names_listed : Trees → Option Names
names_listed none = None
names_listed (more value values) = names_with (name_in value) (names_among values)

abbrev pub names_or_one : Option Trees → Tree → Option Names
names_or_one None value = names_with (name_in value) (Some [])
names_or_one (Some values) value = names_listed values

-- (name,alias,..), of which the name alone may stand without parentheses
unfoldable pub names_in : Tree → Option Names
names_in value = names_or_one (as_list value) value

-- MEMBER NAME=(name,alias,..), NAME once and nothing else
unfoldable pub member_of : List OperandView → Option Names
member_of operands = if list_all (has_keyword (codes "NAME")) operands then option_and_then names_in (value_of (codes "NAME") operands) else None

-- what a statement asks for, if it has the form of its operation
unfoldable pub request_of : StatementView → Option Request
request_of s =
    if is_named (codes "GENERATE") s.op then (if is_generate s.operands then Some Generate else None)
    else (if is_named (codes "RECORD") s.op then option_map Record (record_of s.operands)
    else (if is_named (codes "MEMBER") s.op then option_map Member (member_of s.operands) else None))
