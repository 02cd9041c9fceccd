-- Where a member of a partitioned set ends, in this project's profile.
use Rattle.std.specs.Prelude.{◌≡◌, ◌+◌, ◌*◌, ◌≤◌, ℕ, suc, Bool, true, false, List, length, take, Result, Ok, Err}
use Rattle.hall_core.specs.declared.steps.Device.{Device}
use Rattle.vol_model.specs.declared.contents.Block.{Block}
use Rattle.vol_model.specs.declared.contents.Place.{Place}
use Rattle.vol_model.specs.Places.{last_place}
use Rattle.vol_model.specs.Reading.{blocks_from, member}
use Rattle.member_access.specs.declared.ends.Walk.{Walk}

-- the blocks of the member at a place, and the end-of-file block after them, if there is one
abbrev pub whole_member : List Block → Place → List Block
whole_member bs from = take (suc (length (member bs from))) (blocks_from from bs)

-- the place of the last of them, or the place itself
unfoldable pub member_end : List Block → Place → Place
member_end bs from = last_place from (whole_member bs from)

-- the place of the last block of a member that was walked so far
unfoldable pub end_behind : List Block → Walk → Place
end_behind bs w = last_place w.last (whole_member bs w.next)

-- one block more of a member was passed, or the last
abbrev pub Passes : Result Bool Device → List Block → Walk → Walk → Type 0
Passes (Ok true) bs old new = end_behind bs new ≡ end_behind bs old
Passes (Ok false) bs old new = new.last ≡ end_behind bs old
Passes (Err e) bs old new = Unit {0}

-- places in their order, as numbers
abbrev pub place_number : Place → ℕ
place_number p = p.tt * 256 + p.r

-- a place has a track of two bytes and a record of one
abbrev pub IsPlace : Place → Type 0
IsPlace p = (p.tt ≤ 65535) × (p.r ≤ 255)

-- A place is next to another in the order of places.
pub record IsNextPlace (p next : Place) : Type 0 where
  pub number : place_number next ≡ place_number p + 1
  pub place : IsPlace next
