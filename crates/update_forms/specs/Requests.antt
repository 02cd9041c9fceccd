-- What the statements of IEBUPDTE ask for (Utilities GC28-6586, in this project's profile).
use Rattle.std.specs.Prelude.{ℕ, nat_le, Bool, true, false, ◌&&◌, ◌||◌, if◌then◌else◌, List, codes, is_some, Option, Some, None, option_map, option_and_then}
use Rattle.std.specs.List.{count_by, list_all}
use Rattle.std.specs.Option.{option_map_or}
use Rattle.std.specs.Str.{bytes_eq}
use Rattle.ebcdic_names.specs.declared.names.Name8.{Name8}
use Rattle.card_text.specs.Names.{number_of}
use Rattle.card_text.specs.Operands.{OperandView}
use Rattle.card_text.specs.Tree.{Tree, as_word}
use Rattle.util_syntax.specs.Forms.{has_keyword, if_given, is_named, member_in, member_of, value_of}
use Rattle.util_syntax.specs.Items.{StatementView}
use Rattle.update_forms.specs.declared.requests.Heading.{Heading}
use Rattle.update_forms.specs.declared.requests.Numbering.{Numbering}
use Rattle.update_forms.specs.declared.requests.Range.{Range}
use Rattle.update_forms.specs.declared.requests.Request.{Request}
use Rattle.update_forms.specs.declared.requests.Request.TheVariants.{Alias, Delete, EndUp, Function, Number}
use Rattle.update_forms.specs.declared.requests.Verb.{Verb}
use Rattle.update_forms.specs.declared.requests.Verb.TheVariants.{Add, Change, Repl, Repro}

-- a number of one to eight digits
abbrev pub number_in : Tree → Option ℕ
number_in value = option_and_then number_of (as_word value)

-- the word ALL
abbrev pub all_in : Tree → Option Bool
all_in value = if option_map_or (bytes_eq (codes "ALL")) (as_word value) false then Some true else None

-- the number with a keyword, if that stands once
unfoldable pub number_with : List ℕ → List OperandView → Option ℕ
number_with key operands = option_and_then number_in (value_of key operands)

abbrev pub stands_once : List ℕ → List OperandView → Bool
stands_once key operands = nat_le (count_by (has_keyword key) operands) 1

-- ---- ADD, REPL, REPRO and CHANGE

-- one of their operands: the name, or one whose value isn't read
abbrev pub is_heading_operand : OperandView → Bool
is_heading_operand o = has_keyword (codes "NAME") o || (has_keyword (codes "LIST") o || (has_keyword (codes "LEVEL") o || has_keyword (codes "SOURCE") o))

-- a function with its name, which may be missing; each operand stands once at most
unfoldable pub heading_of : Verb → List OperandView → Option Heading
heading_of verb operands =
    if list_all is_heading_operand operands && (stands_once (codes "LIST") operands && (stands_once (codes "LEVEL") operands && stands_once (codes "SOURCE") operands))
    then option_map (λ (name : Option Name8). record { verb = verb; name = name }) (if_given member_in (codes "NAME") operands) else None

-- ---- NUMBER, DELETE and ALIAS

abbrev pub is_numbering_operand : OperandView → Bool
is_numbering_operand o = has_keyword (codes "NEW1") o || (has_keyword (codes "INCR") o || has_keyword (codes "SEQ1") o)

abbrev pub numbering_with : Option ℕ → Option ℕ → Option (Option Bool) → Option Numbering
numbering_with first step all =
    option_and_then (λ (f : ℕ). option_and_then (λ (s : ℕ). option_map (λ (a : Option Bool). record { first = f; step = s; all = is_some a }) all) step) first

-- NEW1=n,INCR=i, and SEQ1=ALL or no SEQ1
unfoldable pub numbering_of : List OperandView → Option Numbering
numbering_of operands =
    if list_all is_numbering_operand operands
    then numbering_with (number_with (codes "NEW1") operands) (number_with (codes "INCR") operands) (if_given all_in (codes "SEQ1") operands) else None

abbrev pub is_range_operand : OperandView → Bool
is_range_operand o = has_keyword (codes "SEQ1") o || has_keyword (codes "SEQ2") o

abbrev pub range_with : Option ℕ → Option ℕ → Option Range
range_with from to = option_and_then (λ (f : ℕ). option_map (λ (t : ℕ). record { from = f; to = t }) to) from

-- SEQ1=a,SEQ2=b
unfoldable pub range_of : List OperandView → Option Range
range_of operands = if list_all is_range_operand operands then range_with (number_with (codes "SEQ1") operands) (number_with (codes "SEQ2") operands) else None

-- NAME=a and nothing else
unfoldable pub alias_of : List OperandView → Option Name8
alias_of operands = if list_all (has_keyword (codes "NAME")) operands then member_of (codes "NAME") operands else None

-- ---- statements

-- no operands
abbrev pub has_none : List OperandView → Bool
has_none operands = list_all (λ (o : OperandView). false) operands

-- the function of this name
unfoldable pub verb_of : Name8 → Option Verb
verb_of op =
    if is_named (codes "ADD") op then Some Add
    else (if is_named (codes "REPL") op then Some Repl
    else (if is_named (codes "REPRO") op then Some Repro
    else (if is_named (codes "CHANGE") op then Some Change else None)))

-- a statement that belongs to a function, or ENDUP
unfoldable pub detail_of : StatementView → Option Request
detail_of s =
    if is_named (codes "NUMBER") s.op then option_map Number (numbering_of s.operands)
    else (if is_named (codes "DELETE") s.op then option_map Delete (range_of s.operands)
    else (if is_named (codes "ALIAS") s.op then option_map Alias (alias_of s.operands)
    else (if is_named (codes "ENDUP") s.op then (if has_none s.operands then Some EndUp else None) else None)))

abbrev pub request_with : Option Verb → StatementView → Option Request
request_with None s = detail_of s
request_with (Some verb) s = option_map Function (heading_of verb s.operands)

-- what a statement asks for, if it has the form of its operation
unfoldable pub request_of : StatementView → Option Request
request_of s = request_with (verb_of s.op) s
