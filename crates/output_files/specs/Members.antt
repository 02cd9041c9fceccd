-- Libraries that take a member, and its names (Utilities GC28-6586, in this project's profile).
use Rattle.std.specs.Prelude.{◌≡◌, Bool, true, false, not, ◌&&◌, ◌||◌, if◌then◌else◌, List, [], ◌∷◌, Option, Some, None, Result, Ok, Err}
use Rattle.std.specs.List.{list_any}
use Rattle.std.specs.Str.{bytes_eq}
use Rattle.ebcdic_names.specs.declared.names.Name8.{Name8}
use Rattle.vol_model.specs.declared.answers.Mode.TheVariants as modes
use Rattle.vol_model.specs.declared.contents.DataSet.{DataSet}
use Rattle.vol_model.specs.declared.contents.Entry.{Entry}
use Rattle.vol_model.specs.declared.contents.Place.{Place}
use Rattle.vol_model.specs.declared.contents.Shelf.{Shelf}
use Rattle.vol_model.specs.declared.refusals.Refusal.{Refusal}
use Rattle.vol_model.specs.declared.refusals.Refusal.TheVariants.{MemberExists, WrongKind}
use Rattle.vol_model.specs.Did.{Did, and_then, answered}
use Rattle.vol_model.specs.Shelf.{has_member}
use Rattle.vol_model.specs.Writing.{did_apply}
use Rattle.util_steps.specs.declared.calls.Fault.{Fault}
use Rattle.util_steps.specs.declared.calls.SetRef.{SetRef}
use Rattle.util_steps.specs.Copying.{refusing}
use Rattle.record_files.specs.declared.attributes.Purpose.TheVariants as purposes
use Rattle.record_files.specs.declared.members.EntryName.{EntryName}
use Rattle.record_files.specs.Attributes.{usable_set}
use Rattle.record_files.specs.Members.{ends_directory, entries_of, member_start, name_entry}
use Rattle.record_files.specs.Writing.{Coming, appended}
use Rattle.output_files.specs.declared.members.Names.{Names}

-- The names of a member, and whether its own one replaces an entry, and the others do.
pub record MemberNames : Type 0 where
  pub name : Name8
  pub aliases : List Name8
  pub replaces : Bool
  pub aliases_replace : Bool

abbrev pub names_view : Names → MemberNames
names_view n = record { name = n.name; aliases = n.aliases.now; replaces = n.replaces; aliases_replace = n.aliases_replace }

-- all names, its own first
abbrev pub all_names : MemberNames → List Name8
all_names n = n.name ∷ n.aliases

-- two names are one
abbrev pub is_name : Name8 → Name8 → Bool
is_name a b = bytes_eq a.bytes b.bytes

-- one of these names stands twice among them
abbrev pub has_twice : List Name8 → Bool
has_twice [] = false
has_twice (n ∷ ns) = list_any (is_name n) ns || has_twice ns

-- the member's own name is there already and isn't to be replaced
abbrev pub is_own_taken : List Entry → MemberNames → Bool
is_own_taken es n = not n.replaces && has_member n.name.bytes es

-- another name is one already, among the member's names or in the directory, and isn't to be replaced
abbrev pub are_aliases_taken : List Entry → MemberNames → Bool
are_aliases_taken es n = not n.aliases_replace && (has_twice (all_names n) || list_any (λ (a : Name8). has_member a.bytes es) n.aliases)

-- a name of the member is taken
abbrev pub is_taken : List Entry → MemberNames → Bool
is_taken es n = is_own_taken es n || are_aliases_taken es n

abbrev pub taking : MemberNames → Result DataSet Refusal → Result DataSet Refusal
taking n (Err r) = Err r
taking n (Ok x) = if list_any ends_directory (all_names n) then Err WrongKind else (if is_taken (entries_of x.body) n then Err MemberExists else Ok x)

-- a library that takes a member of these names, or why there is none
unfoldable pub library_for : Shelf → SetRef → MemberNames → Result DataSet Refusal
library_for shelf to n = taking n (usable_set shelf purposes.Members to)

-- the name of a member itself
abbrev pub own_name : MemberNames → EntryName
own_name n = record { name = n.name; is_alias = false; replaces = n.replaces }

-- another name of it, which is marked
abbrev pub other_name : Bool → Name8 → EntryName
other_name replaces name = record { name = name; is_alias = true; replaces = replaces }

-- other names of the member at a place are entered, in their order
unfoldable pub did_aliases : Shelf → SetRef → Place → Bool → List Name8 → Did (Unit {0}) Fault
did_aliases shelf to place replaces [] = answered (Ok tt)
did_aliases shelf to place replaces (a ∷ others) = and_then shelf (refusing (did_apply shelf (name_entry to place (other_name replaces a)))) (λ x u. did_aliases u to place replaces others)

-- all its names are entered, its own first
unfoldable pub did_enter : Shelf → SetRef → Place → MemberNames → Did (Unit {0}) Fault
did_enter shelf to place n = and_then shelf (refusing (did_apply shelf (name_entry to place (own_name n)))) (λ x u. did_aliases u to place n.aliases_replace n.aliases)

-- Blocks are written to a library as a member, and then its names are entered.
unfoldable pub stored : Shelf → SetRef → MemberNames → Coming → Did (Unit {0}) Fault
stored shelf to n c = and_then shelf (appended shelf to modes.Area c) (λ x u. did_enter u to (member_start shelf u to c.blocks) n)

-- the names that a member is entered by may stand in a directory
abbrev pub AreLawful : Option MemberNames → Type 0
AreLawful None = Unit {0}
AreLawful (Some n) = list_any ends_directory (all_names n) ≡ false
