-- The names that orders give copies may be those of entries.
use Rattle.std.proofs.Common.{Bool, true, false, ℕ, List, [], ◌∷◌}
use Rattle.std.specs.Prelude.{codes, Option, Some, None, Result, Ok, Err, IfOk, IfSome, if◌then◌else◌, option_map, option_and_then}
use Rattle.std.specs.List.{AllByRecursion}
use Rattle.ebcdic_names.specs.declared.names.Name8.{Name8}
use Rattle.card_text.specs.Tree.{Tree, Trees, empty, word, quoted, list, none, more, as_list}
use Rattle.util_syntax.specs.Forms.{is_named}
use Rattle.util_syntax.specs.Items.{ItemView, StatementView, fault, statement}
use Rattle.iebcopy_util.specs.declared.orders.Choice.{Choice}
use Rattle.iebcopy_util.specs.declared.orders.Choice.TheVariants as choices
use Rattle.iebcopy_util.specs.declared.orders.Order.{Order}
use Rattle.iebcopy_util.specs.declared.orders.State.{State}
use Rattle.iebcopy_util.specs.declared.orders.State.TheVariants.{Idle, Open, Ended}
use Rattle.util_syntax.specs.declared.program.StatementFault.{StatementFault}
use Rattle.iebcopy_util.specs.declared.requests.CopyDds.{CopyDds}
use Rattle.iebcopy_util.specs.declared.requests.Pick.{Pick}
use Rattle.iebcopy_util.specs.declared.requests.Request.{Request}
use Rattle.iebcopy_util.specs.declared.requests.Request.TheVariants.{Copy, Select, Exclude}
use Rattle.iebcopy_util.specs.Orders.{asked, asked_for, chosen, closed, opened_card, orders_at, orders_of, unless_ended}
use Rattle.iebcopy_util.specs.Requests.{copy_of, is_replace, members_value, name_in, names_in, new_name, pick_among, pick_in, pick_or_name, pick_with, picks_among, picks_in, picks_or_one, request_of}
use Rattle.iebcopy_util.specs.Tasks.{IsLawfulChoice, IsLawfulOrder, IsLawfulPick}
use Rattle.util_syntax.specs.Forms.{IsMemberName}
use Rattle.util_syntax.proofs.MemberNames.{name_lawful}
use Rattle.iebcopy_util.proofs.TaskLemmas.{all_append}

-- ---- members that SELECT names

abbrev ArePicks : List Pick → Type 0
ArePicks picks = AllByRecursion IsLawfulPick picks

name_in_lawful : (value : Tree) → IfSome (name_in value) IsMemberName
name_in_lawful empty = tt
name_in_lawful (word text) = name_lawful text
name_in_lawful (quoted text) = tt
name_in_lawful (list items) = tt

new_name_lawful : (name new : Tree) → IfSome (new_name name new) IsMemberName
new_name_lawful name empty = name_in_lawful name
new_name_lawful name (word text) = name_lawful text
new_name_lawful name (quoted text) = tt
new_name_lawful name (list items) = tt

with_lawful : (replace : Bool) (name new : Option Name8) → IfSome new IsMemberName → IfSome (pick_with replace name new) IsLawfulPick
with_lawful replace None new ok = tt
with_lawful replace (Some n) None ok = tt
with_lawful replace (Some n) (Some m) ok = ok

among_lawful : (items : Trees) → IfSome (pick_among items) IsLawfulPick
unfolding pick_among
among_lawful none = tt
among_lawful (more name none) = tt
among_lawful (more name (more new none)) = with_lawful false (name_in name) (name_in new) (name_in_lawful new)
among_lawful (more name (more new (more mark none))) = by_mark (is_replace mark)
  where
    by_mark : (t : Bool) → IfSome (if t then pick_with true (name_in name) (new_name name new) else None) IsLawfulPick
    by_mark true = with_lawful true (name_in name) (new_name name new) (new_name_lawful name new)
    by_mark false = tt
among_lawful (more name (more new (more mark (more item items)))) = tt

pick_lawful : (value : Tree) → IfSome (pick_in value) IsLawfulPick
unfolding pick_in
pick_lawful value = by_list (as_list value)
  where
    by_list : (o : Option Trees) → IfSome (pick_or_name o value) IsLawfulPick
    by_list None = with_lawful false (name_in value) (name_in value) (name_in_lawful value)
    by_list (Some items) = among_lawful items

both_lawful : (o : Option Pick) (r : Option (List Pick)) → IfSome o IsLawfulPick → IfSome r ArePicks → IfSome (option_and_then (λ (p : Pick). option_map (λ (others : List Pick). p ∷ others) r) o) ArePicks
both_lawful None r first others = tt
both_lawful (Some p) None first others = tt
both_lawful (Some p) (Some ps) first others = (first, others)

all_lawful : (values : Trees) → IfSome (picks_among values) ArePicks
all_lawful none = tt
all_lawful (more value values) = both_lawful (pick_in value) (picks_among values) (pick_lawful value) (all_lawful values)

one_lawful : (o : Option Pick) → IfSome o IsLawfulPick → IfSome (option_map (λ (p : Pick). p ∷ []) o) ArePicks
one_lawful None ok = tt
one_lawful (Some p) ok = (ok, tt)

picks_lawful : (value : Tree) → IfSome (picks_in value) ArePicks
unfolding picks_in
picks_lawful value = by_list (as_list value)
  where
    by_list : (o : Option Trees) → IfSome (picks_or_one o value) ArePicks
    by_list None = one_lawful (pick_with false (name_in value) (name_in value)) (with_lawful false (name_in value) (name_in value) (name_in_lawful value))
    by_list (Some values) = all_lawful values

-- ---- statements

abbrev IsLawfulRequest : Request → Type 0
IsLawfulRequest (Copy dds) = Unit {0}
IsLawfulRequest (Select picks) = ArePicks picks
IsLawfulRequest (Exclude names) = Unit {0}

select_lawful : (o : Option Tree) → IfSome (option_map Select (option_and_then picks_in o)) IsLawfulRequest
select_lawful None = tt
select_lawful (Some value) = by_picks (picks_in value) (picks_lawful value)
  where
    by_picks : (o : Option (List Pick)) → IfSome o ArePicks → IfSome (option_map Select o) IsLawfulRequest
    by_picks None ok = tt
    by_picks (Some picks) ok = ok

exclude_lawful : (o : Option (List Name8)) → IfSome (option_map Exclude o) IsLawfulRequest
exclude_lawful None = tt
exclude_lawful (Some names) = tt

copy_lawful : (o : Option CopyDds) → IfSome (option_map Copy o) IsLawfulRequest
copy_lawful None = tt
copy_lawful (Some dds) = tt

request_lawful : (s : StatementView) → IfSome (request_of s) IsLawfulRequest
unfolding request_of
request_lawful s = by_select (is_named (codes "SELECT") s.op)
  where
    by_copy : (t : Bool) → IfSome (if t then option_map Copy (copy_of s.operands) else None) IsLawfulRequest
    by_copy true = copy_lawful (copy_of s.operands)
    by_copy false = tt

    by_exclude : (t : Bool) → IfSome (if t then option_map Exclude (option_and_then names_in (members_value s.operands)) else (if is_named (codes "COPY") s.op then option_map Copy (copy_of s.operands) else None)) IsLawfulRequest
    by_exclude true = exclude_lawful (option_and_then names_in (members_value s.operands))
    by_exclude false = by_copy (is_named (codes "COPY") s.op)

    by_select : (t : Bool) → IfSome (if t then option_map Select (option_and_then picks_in (members_value s.operands)) else (if is_named (codes "EXCLUDE") s.op then option_map Exclude (option_and_then names_in (members_value s.operands)) else (if is_named (codes "COPY") s.op then option_map Copy (copy_of s.operands) else None))) IsLawfulRequest
    by_select true = select_lawful (members_value s.operands)
    by_select false = by_exclude (is_named (codes "EXCLUDE") s.op)

asked_lawful : (item : ItemView) → IfOk (asked item) (λ a. IsLawfulRequest a.1)
unfolding asked
asked_lawful (fault card column kind) = tt
asked_lawful (statement s) = by_request (request_of s) (request_lawful s)
  where
    by_request : (o : Option Request) → IfSome o IsLawfulRequest → IfOk (asked_for s.card o) (λ a. IsLawfulRequest a.1)
    by_request None ok = tt
    by_request (Some request) ok = ok

-- ---- orders

abbrev AreLawful : List Order → Type 0
AreLawful orders = AllByRecursion IsLawfulOrder orders

closed_lawful : (state : State) → AreLawful (closed state)
closed_lawful Idle = tt
closed_lawful (Open opened) = (tt, tt)
closed_lawful Ended = tt

chosen_lawful : (state : State) (card own : ℕ) (choice : Choice) (others : State → List Order) → IsLawfulChoice choice → AreLawful (others Idle) → AreLawful (chosen state card own choice others)
chosen_lawful Idle card own choice others ok rest = (tt, tt)
chosen_lawful (Open opened) card own choice others ok rest = (ok, rest)
chosen_lawful Ended card own choice others ok rest = (tt, tt)

at_lawful : (state : State) (a : Result (ℕ × Request) StatementFault) (others : State → List Order) → IfOk a (λ x. IsLawfulRequest x.1) → ((next : State) → AreLawful (others next)) → AreLawful (orders_at state a others)
unfolding orders_at
at_lawful state (Err f) others ok rest = (tt, tt)
at_lawful state (Ok (card, Copy dds)) others ok rest = all_append IsLawfulOrder (closed state) (others (Open (record { card = card; dds = dds }))) (closed_lawful state) (rest (Open (record { card = card; dds = dds })))
at_lawful state (Ok (card, Select picks)) others ok rest = chosen_lawful state card card (choices.Select picks) others ok (rest Idle)
at_lawful state (Ok (card, Exclude names)) others ok rest = chosen_lawful state (opened_card state card) card (choices.Exclude names) others tt (rest Idle)

unless_lawful : (state : State) (orders : List Order) → AreLawful orders → AreLawful (unless_ended state orders)
unless_lawful Idle orders all = all
unless_lawful (Open opened) orders all = all
unless_lawful Ended orders all = tt

-- the orders of statements may be done
pub orders_lawful : (state : State) (items : List ItemView) → AreLawful (orders_of state items)
orders_lawful state [] = closed_lawful state
orders_lawful state (item ∷ items) =
    unless_lawful state (orders_at state (asked item) (λ next. orders_of next items)) (at_lawful state (asked item) (λ next. orders_of next items) (asked_lawful item) (λ next. orders_lawful next items))
