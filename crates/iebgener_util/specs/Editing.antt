-- Records that IEBGENER edits, group by group (Utilities GC28-6586, in this project's profile).
use Rattle.std.specs.Prelude.{ℕ, ◌+◌, ◌-◌, nat_eq, nat_le, Bool, true, false, if◌then◌else◌, List, [], ◌∷◌, ◌++◌, length, take, drop, replicate, Option, Some, None, option_and_then}
use Rattle.std.specs.List.{list_any, starts_with}
use Rattle.iebgener_util.specs.declared.orders.Order.{Order}
use Rattle.iebgener_util.specs.declared.orders.Order.TheVariants as order
use Rattle.iebgener_util.specs.declared.requests.Edit.{Edit}
use Rattle.iebgener_util.specs.declared.requests.Field.{Field}
use Rattle.iebgener_util.specs.declared.requests.Ident.{Ident}
use Rattle.iebgener_util.specs.declared.requests.Origin.{Origin}
use Rattle.iebgener_util.specs.declared.requests.Origin.TheVariants.{Column, Text}
use Rattle.record_files.specs.Streams.{Stream, at_end, at_fault, with_record}

-- a text of so many bytes: it is cut, or filled with blanks
abbrev pub sized : ℕ → List ℕ → List ℕ
sized n text = take n text ++ replicate (n - length text) 0x40

-- so many bytes of a record from a column on, if it has them
abbrev pub bytes_at : ℕ → ℕ → List ℕ → Option (List ℕ)
bytes_at n column rec = if nat_le (column - 1 + n) (length rec) then Some (take n (drop (column - 1) rec)) else None

-- so many bytes of a field's origin, if the record has them
unfoldable pub field_bytes : ℕ → Origin → List ℕ → Option (List ℕ)
field_bytes n (Column column) rec = bytes_at n column rec
field_bytes n (Text text) rec = Some (sized n text)

-- bytes laid over a record from a column on, if it reaches as far
unfoldable pub laid : ℕ → List ℕ → List ℕ → Option (List ℕ)
laid column bytes rec =
    if nat_le (column - 1 + length bytes) (length rec) then Some (take (column - 1) rec ++ bytes ++ drop (column - 1 + length bytes) rec) else None

-- a record with a field of another laid over it
unfoldable pub with_field_laid : Field → List ℕ → List ℕ → Option (List ℕ)
with_field_laid f rec new = option_and_then (λ (bytes : List ℕ). laid f.to bytes new) (field_bytes f.length f.from rec)

-- with these fields, in order
abbrev pub with_fields : List Field → List ℕ → List ℕ → Option (List ℕ)
with_fields [] rec new = Some new
with_fields (f ∷ fs) rec new = option_and_then (λ (further : List ℕ). with_fields fs rec further) (with_field_laid f rec new)

abbrev pub is_any_field : List Field → Bool
is_any_field [] = false
is_any_field (f ∷ fs) = true

-- a group has fields
abbrev pub has_fields : Edit → Bool
has_fields edit = is_any_field edit.fields

-- one of the groups has
abbrev pub have_fields : List Edit → Bool
have_fields edits = list_any has_fields edits

-- a record of so many bytes: blanks with the fields of its group laid over them, unless one passes the end of either record; it stays as it is where the group has none
unfoldable pub edited_record : ℕ → Edit → List ℕ → Option (List ℕ)
edited_record lrecl edit rec = if has_fields edit then with_fields edit.fields rec (replicate lrecl 0x40) else Some rec

-- the record has the text at its column
unfoldable pub ends_group : Option Ident → List ℕ → Bool
ends_group None rec = false
ends_group (Some i) rec = starts_with nat_eq (drop (i.column - 1) rec) (sized i.length i.text)

-- an edited record in front of others, or a fault
abbrev pub edited_then : Option (List ℕ) → Stream → Stream
edited_then None others = at_fault
edited_then (Some rec) others = with_record rec others

-- the groups after a record
abbrev pub groups_behind : Edit → List Edit → List ℕ → List Edit
groups_behind edit edits rec = if ends_group edit.ident rec then edits else edit ∷ edits

-- records edited by groups, one group after another; what stands after the last group is dropped
abbrev pub edited : ℕ → Bool → List Edit → List (List ℕ) → Stream
edited lrecl broken [] recs = at_end
edited lrecl broken (e ∷ es) [] = record { records = []; broken = broken }
edited lrecl broken (e ∷ es) (rec ∷ recs) = edited_then (edited_record lrecl e rec) (edited lrecl broken (groups_behind e es rec) recs)

-- records as they are, or edited by the groups that are left
unfoldable pub edited_by : ℕ → Option (List Edit) → Stream → Stream
edited_by lrecl None st = st
edited_by lrecl (Some edits) st = edited lrecl st.broken edits st.records

-- ---- the orders in front

-- the records after a group: those after the first that ends it
abbrev pub behind_group : Edit → List (List ℕ) → List (List ℕ)
behind_group e [] = []
behind_group e (rec ∷ recs) = if ends_group e.ident rec then recs else behind_group e recs

-- the records after groups that follow each other
abbrev pub behind_groups : List Edit → List (List ℕ) → List (List ℕ)
behind_groups [] recs = recs
behind_groups (e ∷ es) recs = behind_groups es (behind_group e recs)

-- the records after a part: one without groups takes all
abbrev pub behind_part : List Edit → List (List ℕ) → List (List ℕ)
behind_part [] recs = []
behind_part (e ∷ es) recs = behind_groups (e ∷ es) recs

-- the groups of the part that an order writes
abbrev pub groups_in : Order → List Edit
groups_in (order.Write p) = p.edits
groups_in (order.Fault f) = []

-- the records after orders that follow each other; nothing follows a fault
abbrev pub behind_orders : List Order → List (List ℕ) → List (List ℕ)
behind_orders [] recs = recs
behind_orders (o ∷ os) recs = behind_orders os (behind_part (groups_in o) recs)

-- what is left of a stream after orders; a fault of the input stays to be met
abbrev pub left_behind : List Order → Stream → Stream
left_behind os st = record { records = behind_orders os st.records; broken = st.broken }
