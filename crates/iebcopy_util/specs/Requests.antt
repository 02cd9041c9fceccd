-- What the statements of IEBCOPY ask for (Utilities GC28-6586, in this project's profile).
use Rattle.std.specs.Prelude.{Bool, true, false, ◌||◌, if◌then◌else◌, List, [], ◌∷◌, codes, Option, Some, None, option_map, option_and_then}
use Rattle.std.specs.List.{list_all}
use Rattle.std.specs.Option.{option_map_or}
use Rattle.std.specs.Str.{bytes_eq}
use Rattle.card_text.specs.Names.{name_of}
use Rattle.card_text.specs.Operands.{OperandView}
use Rattle.card_text.specs.Tree.{Tree, Trees, empty, word, quoted, list, none, more, as_list, as_word}
use Rattle.ebcdic_names.specs.declared.names.Name8.{Name8}
use Rattle.util_syntax.specs.Forms.{has_keyword, is_named, value_of}
use Rattle.util_syntax.specs.Items.{StatementView}
use Rattle.iebcopy_util.specs.declared.requests.CopyDds.{CopyDds}
use Rattle.iebcopy_util.specs.declared.requests.InputDd.{InputDd}
use Rattle.iebcopy_util.specs.declared.requests.Pick.{Pick}
use Rattle.iebcopy_util.specs.declared.requests.Request.{Request}
use Rattle.iebcopy_util.specs.declared.requests.Request.TheVariants.{Copy, Select, Exclude}

-- ---- names

-- a name of one level
abbrev pub name_in : Tree → Option Name8
name_in value = option_and_then name_of (as_word value)

-- R, the word for replacing
abbrev pub is_replace : Tree → Bool
is_replace value = option_map_or (bytes_eq (codes "R")) (as_word value) false

-- names
abbrev pub names_among : Trees → Option (List Name8)
names_among none = Some []
names_among (more value values) = option_and_then (λ (name : Name8). option_map (λ (others : List Name8). name ∷ others) (names_among values)) (name_in value)

abbrev pub names_or_one : Option Trees → Tree → Option (List Name8)
names_or_one None value = option_map (λ (name : Name8). name ∷ []) (name_in value)
names_or_one (Some values) value = names_among values

-- a list of names, of which one may stand without parentheses
unfoldable pub names_in : Tree → Option (List Name8)
names_in value = names_or_one (as_list value) value

-- ---- COPY

-- an input by the name of its DD
abbrev pub input_of : Bool → Option Name8 → Option InputDd
input_of replace name = option_map (λ (n : Name8). record { dd = n; replace = replace }) name

-- (dd,R)
unfoldable pub input_among : Trees → Option InputDd
input_among (more name (more mark none)) = if is_replace mark then input_of true (name_in name) else None
input_among _ = None

abbrev pub input_or_name : Option Trees → Tree → Option InputDd
input_or_name None value = input_of false (name_in value)
input_or_name (Some items) value = input_among items

-- dd or (dd,R)
unfoldable pub input_in : Tree → Option InputDd
input_in value = input_or_name (as_list value) value

-- inputs
abbrev pub inputs_among : Trees → Option (List InputDd)
inputs_among none = Some []
inputs_among (more value values) = option_and_then (λ (i : InputDd). option_map (λ (others : List InputDd). i ∷ others) (inputs_among values)) (input_in value)

abbrev pub inputs_or_one : Option Trees → Tree → Option (List InputDd)
inputs_or_one None value = option_map (λ (i : InputDd). i ∷ []) (input_of false (name_in value))
inputs_or_one (Some values) value = inputs_among values

-- (dd,(dd,R),..), of which one DD may stand without parentheses
unfoldable pub inputs_in : Tree → Option (List InputDd)
inputs_in value = inputs_or_one (as_list value) value

-- the operands of COPY
abbrev pub is_copy_operand : OperandView → Bool
is_copy_operand o = has_keyword (codes "OUTDD") o || has_keyword (codes "INDD") o

-- the first operand names the inputs
abbrev pub is_inputs_first : List OperandView → Bool
is_inputs_first [] = false
is_inputs_first (o ∷ os) = has_keyword (codes "INDD") o

abbrev pub copy_with : Bool → Option Name8 → Option (List InputDd) → Option CopyDds
copy_with first out inputs = option_and_then (λ (o : Name8). option_map (λ (is : List InputDd). record { out = o; inputs = is; inputs_first = first }) inputs) out

-- COPY OUTDD=dd,INDD=(dd,(dd,R),..), each once
unfoldable pub copy_of : List OperandView → Option CopyDds
copy_of operands =
    if list_all is_copy_operand operands
    then copy_with (is_inputs_first operands) (option_and_then name_in (value_of (codes "OUTDD") operands)) (option_and_then inputs_in (value_of (codes "INDD") operands))
    else None

-- ---- SELECT and EXCLUDE

abbrev pub pick_with : Bool → Option Name8 → Option Name8 → Option Pick
pick_with replace name new = option_and_then (λ (n : Name8). option_map (λ (m : Name8). record { name = n; new = m; replace = replace }) new) name

-- the new name, which is the old one where nothing stands
abbrev pub new_name : Tree → Tree → Option Name8
new_name name empty = name_in name
new_name name (word text) = name_of text
new_name name (quoted text) = None
new_name name (list items) = None

-- (name,new), (name,,R) or (name,new,R)
unfoldable pub pick_among : Trees → Option Pick
pick_among (more name (more new none)) = pick_with false (name_in name) (name_in new)
pick_among (more name (more new (more mark none))) = if is_replace mark then pick_with true (name_in name) (new_name name new) else None
pick_among _ = None

abbrev pub pick_or_name : Option Trees → Tree → Option Pick
pick_or_name None value = pick_with false (name_in value) (name_in value)
pick_or_name (Some items) value = pick_among items

-- a member, maybe under a new name, maybe replacing
unfoldable pub pick_in : Tree → Option Pick
pick_in value = pick_or_name (as_list value) value

-- members
abbrev pub picks_among : Trees → Option (List Pick)
picks_among none = Some []
picks_among (more value values) = option_and_then (λ (p : Pick). option_map (λ (others : List Pick). p ∷ others) (picks_among values)) (pick_in value)

abbrev pub picks_or_one : Option Trees → Tree → Option (List Pick)
picks_or_one None value = option_map (λ (p : Pick). p ∷ []) (pick_with false (name_in value) (name_in value))
picks_or_one (Some values) value = picks_among values

-- (a,(a,new),(a,,R),(a,new,R),..), of which one name may stand without parentheses
unfoldable pub picks_in : Tree → Option (List Pick)
picks_in value = picks_or_one (as_list value) value

-- the value of MEMBER, if that stands once and alone
unfoldable pub members_value : List OperandView → Option Tree
members_value operands = if list_all (has_keyword (codes "MEMBER")) operands then value_of (codes "MEMBER") operands else None

-- what a statement asks for, if it has the form of its operation
unfoldable pub request_of : StatementView → Option Request
request_of s =
    if is_named (codes "SELECT") s.op then option_map Select (option_and_then picks_in (members_value s.operands))
    else (if is_named (codes "EXCLUDE") s.op then option_map Exclude (option_and_then names_in (members_value s.operands))
    else (if is_named (codes "COPY") s.op then option_map Copy (copy_of s.operands) else None))
