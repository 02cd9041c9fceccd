-- Members of partitioned sets over operations: each stays whole until one of them takes it away.
use Rattle.std.specs.Prelude.{◌≡◌, ◌⊎◌, ◌==◌, ◌&&◌, ℕ, List, [], ◌∷◌, ◌++◌, Contains, IsOk, is_ok, if◌then◌else◌}
use Rattle.std.specs.Str.{bytes_eq}
use Rattle.vol_model.specs.declared.contents.Block.{Block}
use Rattle.vol_model.specs.declared.contents.Body.{Body}
use Rattle.vol_model.specs.declared.contents.Body.TheVariants as bodies
use Rattle.vol_model.specs.declared.contents.Entry.{Entry}
use Rattle.vol_model.specs.declared.contents.Place.{Place}
use Rattle.vol_model.specs.declared.contents.Shelf.{Shelf}
use Rattle.vol_model.specs.declared.requests.Op.{Op}
use Rattle.vol_model.specs.declared.requests.Op.TheVariants.{Drop, Enter, Rename, Scratch}
use Rattle.vol_model.specs.Events.{after_operations, behind}
use Rattle.vol_model.specs.Reading.{member}
use Rattle.vol_model.specs.Shelf.{step}
use Rattle.vol_model.specs.Writing.{body_on}

-- A member: the number of its volume, the name of its set, its entry in the directory, and its blocks.
pub record SetMember : Type 0 where
  pub v : ℕ
  pub set : List ℕ
  pub entry : Entry
  pub blocks : List Block

-- a place is that of one of these blocks
abbrev pub NamesBlock : List Block → Place → Type 0
NamesBlock bs p = (b : Block) × Contains bs b × (b.place ≡ p)

-- an entry stands in a directory, its place names a block of the set, and its member has these blocks
abbrev pub HoldsMember : Body → Entry → List Block → Type 0
HoldsMember (bodies.Part dir end entries bs) e blocks = Contains entries e × NamesBlock bs e.place × (member bs e.place ≡ blocks)
HoldsMember body e blocks = ⊥

-- a member stands on a shelf
abbrev pub HasMember : Shelf → SetMember → Type 0
HasMember shelf m = HoldsMember (body_on shelf m.v m.set) m.entry m.blocks

-- an operation is on the set of a member
abbrev pub IsOnSet : ℕ → List ℕ → SetMember → Type 0
IsOnSet v set m = (v ≡ m.v) × (set ≡ m.set)

-- an operation drops the entry of a member, puts another of its name in its place, or scratches its set
abbrev pub Removes : Op → SetMember → Type 0
Removes (Drop v dsn name) m = IsOnSet v dsn.bytes m × (name.bytes ≡ m.entry.name.bytes)
Removes (Enter v dsn entry replace) m = IsOnSet v dsn.bytes m × (entry.name.bytes ≡ m.entry.name.bytes)
Removes (Scratch v dsn) m = IsOnSet v dsn.bytes m
Removes op m = ⊥

-- an operation that isn't refused takes a member away
abbrev pub TakesAway : Shelf → Op → SetMember → Type 0
TakesAway shelf op m = IsOk (step shelf op) × Removes op m

-- a member under the name that an operation gives its set
abbrev pub renamed_by : Op → SetMember → SetMember
renamed_by (Rename v old new) m = if v == m.v && bytes_eq m.set old.bytes then record m { set = new.bytes } else m
renamed_by op m = m

-- a member after an operation: the same entry and blocks, in a set that may have another name
abbrev pub member_behind : Shelf → Op → SetMember → SetMember
member_behind shelf op m = if is_ok (step shelf op) then renamed_by op m else m

-- a member after operations, one after another
abbrev pub member_after : Shelf → List Op → SetMember → SetMember
member_after shelf [] m = m
member_after shelf (op ∷ ops) m = member_after (behind shelf (step shelf op)) ops (member_behind shelf op m)

-- one of some operations takes a member away, under the name that its set has by then
abbrev pub IsTaken : Shelf → List Op → SetMember → Type 0
IsTaken shelf [] m = ⊥
IsTaken shelf (op ∷ ops) m = TakesAway shelf op m ⊎ IsTaken (behind shelf (step shelf op)) ops (member_behind shelf op m)

-- each of some operations takes a member away, or leaves it as it is
unfoldable pub KeepsMembers : Shelf → List Op → Type 0
KeepsMembers shelf [] = Unit {0}
KeepsMembers shelf (op ∷ ops) =
    let after = behind shelf (step shelf op) in
    ((m : SetMember) → HasMember shelf m → TakesAway shelf op m ⊎ HasMember after (member_behind shelf op m)) × KeepsMembers after ops

-- a member that stands after some first operations stands with the same blocks after any more of them, unless one of these took it away
unfoldable pub StaysWhole : Shelf → List Op → Type 0
StaysWhole shelf ops =
    (first more rest : List Op) (m : SetMember) → ops ≡ first ++ more ++ rest
    → let there = after_operations shelf first in HasMember there m → IsTaken there more m ⊎ HasMember (after_operations there more) (member_after there more m)
