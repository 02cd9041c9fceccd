-- Members that are read and written: their entries in a directory, and where they begin (Utilities GC28-6586, in this project's profile).
use Rattle.std.specs.Prelude.{◌≡◌, ℕ, Bool, if◌then◌else◌, find, List, [], ◌∷◌, map, replicate, Option, Some, None, Result, Ok, Err}
use Rattle.std.specs.Str.{bytes_eq}
use Rattle.ebcdic_names.specs.declared.names.Name8.{Name8}
use Rattle.vol_model.specs.declared.answers.Mode.TheVariants as modes
use Rattle.vol_model.specs.declared.answers.SetInfo.{SetInfo}
use Rattle.vol_model.specs.declared.contents.Block.{Block}
use Rattle.vol_model.specs.declared.contents.Body.{Body}
use Rattle.vol_model.specs.declared.contents.Body.TheVariants as bodies
use Rattle.vol_model.specs.declared.contents.DataSet.{DataSet}
use Rattle.vol_model.specs.declared.contents.Entry.{Entry}
use Rattle.vol_model.specs.declared.contents.Place.{Place}
use Rattle.vol_model.specs.declared.contents.Shelf.{Shelf}
use Rattle.vol_model.specs.declared.refusals.Refusal.{Refusal}
use Rattle.vol_model.specs.declared.refusals.Refusal.TheVariants.{NoMember}
use Rattle.vol_model.specs.declared.requests.Op.{Op}
use Rattle.vol_model.specs.declared.requests.Op.TheVariants.{Enter}
use Rattle.vol_model.specs.Places.{content, last_place}
use Rattle.vol_model.specs.Reading.{member, set_info}
use Rattle.vol_model.specs.Shelf.{blocks_of}
use Rattle.vol_model.specs.Writing.{blocks_for, body_on}
use Rattle.util_steps.specs.declared.calls.Fault.{Fault}
use Rattle.util_steps.specs.declared.calls.SetRef.{SetRef}
use Rattle.util_steps.specs.Copying.{behind_place, target}
use Rattle.record_files.specs.declared.attributes.Purpose.TheVariants as purposes
use Rattle.record_files.specs.declared.members.EntryName.{EntryName}
use Rattle.record_files.specs.Attributes.{usable_set}

-- the directory of a partitioned body
abbrev pub entries_of : Body → List Entry
entries_of (bodies.Part dir end entries blocks) = entries
entries_of body = []

-- ---- a member that is read

-- the entry of a name
abbrev pub entry_named : Name8 → List Entry → Option Entry
entry_named name es = find (λ (e : Entry). bytes_eq e.name.bytes name.bytes) es

abbrev pub place_if : DataSet → Option Entry → Result (DataSet × Place) Refusal
place_if x None = Err NoMember
place_if x (Some e) = Ok (x, e.place)

abbrev pub member_if : Name8 → Result DataSet Refusal → Result (DataSet × Place) Refusal
member_if name (Err r) = Err r
member_if name (Ok x) = place_if x (entry_named name (entries_of x.body))

-- a library and where its member of this name begins, or why there is none
unfoldable pub member_in : Shelf → SetRef → Name8 → Result (DataSet × Place) Refusal
member_in shelf s name = member_if name (usable_set shelf purposes.Members s)

-- the blocks that are read: all of a set, or those of the member at a place
abbrev pub blocks_at : Option Place → List Block → List Block
blocks_at None bs = bs
blocks_at (Some p) bs = member bs p

-- ---- a member that is written

-- a name that ends a directory, and that no entry has
abbrev pub ends_directory : Name8 → Bool
ends_directory name = bytes_eq name.bytes (replicate 8 255)

-- the entry of a name without user data
abbrev pub entry_of : Place → ℕ → Name8 → Entry
entry_of place flags name = record { name = name; place = place; flags = flags; user = [] }

-- a name of the member at a place is entered
abbrev pub name_entry : SetRef → Place → EntryName → Op
name_entry to place n = Enter to.v to.dsn (entry_of place (if n.is_alias then 0x80 else 0) n.name) n.replaces

-- the place of the first of blocks, or this one
abbrev pub first_place : Place → List Block → Place
first_place p [] = p
first_place p (b ∷ bs) = b.place

-- where a member of these blocks begins, by the shelves before and after their area: at the first of them, or without any at its end-of-file block, the last of the library
unfoldable pub member_start : Shelf → Shelf → SetRef → List Block → Place
member_start before behind to bs =
    first_place (last_place (record { tt = 0; r = 0 }) (blocks_of (body_on behind to.v to.dsn.bytes))) (blocks_for before (target to modes.Area) (map content bs))

-- ---- how they are found

-- a member is found, with what is told of its library in short and where it begins, or refused
abbrev pub FindsMember : Result (SetInfo × Place) Refusal → Result (DataSet × Place) Refusal → Type 0
FindsMember (Ok m) found = (x : DataSet) × (found ≡ Ok (x, m.1)) × (m.0 ≡ set_info x)
FindsMember (Err r) found = found ≡ Err r

-- of the blocks that are left the place of the first is answered, and the place after it
abbrev pub TakesLast : Result (Option (Place × Place)) Fault → List Block → Type 0
TakesLast (Ok (Some both)) left = (b : Block) × (rest : List Block) × (left ≡ b ∷ rest) × (both.0 ≡ b.place) × (both.1 ≡ behind_place b.place)
TakesLast (Ok None) left = left ≡ []
TakesLast (Err r) left = ⊥
