-- The copy of a member (Utilities GC28-6586, in this project's profile).
use Rattle.std.specs.Prelude.{ℕ, ◌==◌, nat_le, Bool, not, ◌&&◌, if◌then◌else◌, is_some, unwrap_or, slice_get, find, List, length, map, Option, Some, None, Result, Ok, Err}
use Rattle.std.specs.List.{list_all}
use Rattle.vol_model.specs.declared.answers.Mode.TheVariants as modes
use Rattle.vol_model.specs.declared.contents.Attr.{Attr}
use Rattle.vol_model.specs.declared.contents.Block.{Block}
use Rattle.vol_model.specs.declared.contents.DataSet.{DataSet}
use Rattle.vol_model.specs.declared.contents.Entry.{Entry}
use Rattle.vol_model.specs.declared.contents.Place.{Place}
use Rattle.vol_model.specs.declared.contents.Shelf.{Shelf}
use Rattle.vol_model.specs.declared.refusals.Refusal.{Refusal}
use Rattle.vol_model.specs.declared.refusals.Refusal.TheVariants.{MemberExists, Unreadable}
use Rattle.vol_model.specs.declared.requests.Op.TheVariants.{Empty, Enter}
use Rattle.vol_model.specs.Did.{Did, and_then, answered, with_reason}
use Rattle.vol_model.specs.Moving.{is_place, moved, ttr_count}
use Rattle.vol_model.specs.Places.{content, last_place}
use Rattle.vol_model.specs.Reading.{member}
use Rattle.vol_model.specs.Shelf.{blocks_of, has_member}
use Rattle.vol_model.specs.Writing.{blocks_for, body_on}
use Rattle.util_steps.specs.declared.calls.SetRef.{SetRef}
use Rattle.util_steps.specs.Copying.{filled, has_data, source, target}
use Rattle.util_syntax.specs.declared.listing.Outcome.{Outcome}
use Rattle.util_syntax.specs.declared.listing.Outcome.TheVariants as outcome
use Rattle.util_program.specs.Outcomes.{outcome_for, performed}
use Rattle.iebcopy_util.specs.declared.copying.Copy.{Copy}
use Rattle.iebcopy_util.specs.declared.copying.OutputState.{OutputState}
use Rattle.iebcopy_util.specs.declared.tasks.InputLibrary.{InputLibrary}
use Rattle.iebcopy_util.specs.declared.tasks.MemberCopy.{MemberCopy}
use Rattle.record_files.specs.Members.{entries_of}
use Rattle.iebcopy_util.specs.Sets.{library}

-- ---- what is found of the output

-- a library without a record format, entries and blocks
abbrev pub is_blank : DataSet → Bool
is_blank x = x.attr.recfm == 0 && (length (entries_of x.body) == 0 && length (blocks_of x.body) == 0)

-- its attributes, whether it is blank, and whether it has an entry of the copy's name
abbrev pub output_state : MemberCopy → DataSet → OutputState
output_state t x = record { attr = x.attr; is_blank = is_blank x; has_name = has_member t.name.bytes (entries_of x.body) }

-- a blank output is given the attributes of the first input
abbrev pub output_attr : InputLibrary → OutputState → Attr
output_attr source found = if found.is_blank then source.given else found.attr

-- blocks of an input go unchanged to an output: record format, record and key length are the same, and the greatest block isn't shorter
abbrev pub serves : Attr → Attr → Bool
serves output input = input.recfm == output.recfm && (input.lrecl == output.lrecl && (input.keylen == output.keylen && nat_le input.blksize output.blksize))

-- the first reason, by what is found of the output, for which a member isn't copied
unfoldable pub first_refusal : MemberCopy → OutputState → Option Outcome
first_refusal t found =
    if not t.replace && found.has_name then Some (outcome.Refused MemberExists)
    else (if not (serves (output_attr t.source found) t.source.attr) then Some outcome.Dcb else None)

-- ---- the entry of a copy

-- the places of blocks
abbrev pub places : List Block → List Place
places bs = map (λ (b : Block). b.place) bs

-- each TTR in the user data of an entry names one of the blocks at these places, or is zeros
unfoldable pub can_move : List Place → Entry → Bool
can_move from e = is_some (moved from from (ttr_count e.flags) e.user)

-- user data once their TTRs name the copies of the blocks that they named
abbrev pub moved_user : Copy → Entry → List ℕ
moved_user c e = unwrap_or (moved c.from c.to (ttr_count e.flags) e.user) e.user

-- the entry of a member that was copied
unfoldable pub entry_for : MemberCopy → Copy → Entry
entry_for t c = record { name = t.name; place = c.start; flags = t.entry.flags; user = moved_user c t.entry }

abbrev pub entered : Shelf → SetRef → MemberCopy → Copy → Did (Unit {0}) Outcome
entered shelf out t c = performed shelf (Enter out.v out.dsn (entry_for t c) t.replace)

-- ---- a member whose blocks were copied before

-- a copy is of the blocks of this member
abbrev pub is_at : MemberCopy → Copy → Bool
is_at t c = c.input == t.source.number && is_place t.entry.place c.at

-- the copy that was made before of the blocks of a member
abbrev pub copy_before : List Copy → MemberCopy → Option Copy
copy_before copies t = find (is_at t) copies

-- its entry alone is entered
unfoldable pub copied_again : Shelf → SetRef → MemberCopy → Copy → Did (Option Copy) Outcome
copied_again shelf out t c = if can_move c.from t.entry then and_then shelf (entered shelf out t c) (λ x u. answered (Ok None)) else answered (Err outcome.BadTtr)

-- ---- a member whose blocks are copied

-- the first of places, or this one
abbrev pub first_or : Place → List Place → Place
first_or p ps = unwrap_or (slice_get ps 0) p

-- the copy of these blocks, by the shelves before and after it; without blocks it begins at its end-of-file block, the last of the output
unfoldable pub copy_made : Shelf → Shelf → SetRef → MemberCopy → List Block → Copy
copy_made before behind out t bs =
    let to = places (blocks_for before (target out modes.Area) (map content bs)) in
    record {
      input = t.source.number;
      at = t.entry.place;
      from = places bs;
      start = first_or (last_place (record { tt = 0; r = 0 }) (blocks_of (body_on behind out.v out.dsn.bytes))) to;
      to = to;
    }

-- the entry of a copy is entered, and the copy is remembered
abbrev pub finished : Shelf → SetRef → MemberCopy → Copy → Did (Option Copy) Outcome
finished shelf out t c = and_then shelf (entered shelf out t c) (λ x u. answered (Ok (Some c)))

-- blocks are written to the output as a whole, and then its entry is entered
unfoldable pub written : Shelf → SetRef → MemberCopy → List Block → Did (Option Copy) Outcome
written shelf out t bs = and_then shelf (with_reason outcome_for (filled shelf out modes.Area bs)) (λ x u. finished u out t (copy_made shelf u out t bs))

-- a blank output is given the attributes of the first input before
abbrev pub with_attributes : Shelf → SetRef → MemberCopy → Bool → Did (Unit {0}) Outcome
with_attributes shelf out t blank = if blank then performed shelf (Empty out.v out.dsn t.source.given) else answered (Ok tt)

unfoldable pub copied : Shelf → SetRef → MemberCopy → Bool → List Block → Did (Option Copy) Outcome
copied shelf out t blank bs = and_then shelf (with_attributes shelf out t blank) (λ x u. written u out t bs)

-- a member with these blocks is copied, if its TTRs can be moved and each block has data
unfoldable pub copied_anew : Shelf → SetRef → MemberCopy → Bool → List Block → Did (Option Copy) Outcome
copied_anew shelf out t blank bs =
    if not (can_move (places bs) t.entry) then answered (Err outcome.BadTtr)
    else (if not (list_all has_data bs) then answered (Err outcome.BadRecord) else copied shelf out t blank bs)

-- a member of an input with these blocks, if that can be read
abbrev pub copied_from : Shelf → SetRef → MemberCopy → Bool → Result (List Block) ℕ → Did (Option Copy) Outcome
copied_from shelf out t blank (Ok bs) = copied_anew shelf out t blank (member bs t.entry.place)
copied_from shelf out t blank (Err track) = answered (Err (outcome.Refused (Unreadable track)))

abbrev pub copied_or_again : Shelf → SetRef → MemberCopy → Bool → Option Copy → Did (Option Copy) Outcome
copied_or_again shelf out t blank None = copied_from shelf out t blank (source shelf t.source.set)
copied_or_again shelf out t blank (Some c) = copied_again shelf out t c

-- ---- a member

abbrev pub unless_refused : Option Outcome → Did (Option Copy) Outcome → Did (Option Copy) Outcome
unless_refused None did = did
unless_refused (Some o) did = answered (Err o)

abbrev pub copied_if : Shelf → SetRef → List Copy → MemberCopy → Result DataSet Refusal → Did (Option Copy) Outcome
copied_if shelf out copies t (Err r) = answered (Err (outcome.Refused r))
copied_if shelf out copies t (Ok x) = unless_refused (first_refusal t (output_state t x)) (copied_or_again shelf out t (is_blank x) (copy_before copies t))

-- A member is copied to the output, where these copies were made before. Every refusal but for want of room is found before the first operation.
unfoldable pub member_copied : Shelf → SetRef → List Copy → MemberCopy → Did (Option Copy) Outcome
member_copied shelf out copies t = copied_if shelf out copies t (library shelf out)
