-- What a copy of a sequential data set does on a shelf, and the line that answers it, in this project's profile.
use Rattle.std.specs.Prelude.{ℕ, ◌+◌, ◌==◌, nat_lt, Bool, List, [], ◌∷◌, length, map, Result, Err, if◌then◌else◌}
use Rattle.std.specs.List.{list_all}
use Rattle.vol_model.specs.declared.answers.Mode.{Mode}
use Rattle.vol_model.specs.declared.contents.Block.{Block}
use Rattle.vol_model.specs.declared.contents.Place.{Place}
use Rattle.vol_model.specs.declared.contents.Shelf.{Shelf}
use Rattle.vol_model.specs.declared.refusals.Refusal.{Refusal}
use Rattle.vol_model.specs.Did.{Did, and_then, answered, with_reason}
use Rattle.vol_model.specs.Places.{content}
use Rattle.vol_model.specs.Reading.{readable}
use Rattle.vol_model.specs.Writing.{OpenWriter, Target, begun, body_on, did_begin, did_put, did_puts, did_write}
use Rattle.util_steps.specs.declared.calls.Fault.{Fault}
use Rattle.util_steps.specs.declared.calls.Fault.TheVariants.{Refused, BadRecord}
use Rattle.util_steps.specs.declared.calls.SetRef.{SetRef}

-- a block has data
abbrev pub has_data : Block → Bool
has_data b = nat_lt 0 (length b.payload)

-- the blocks in front of the first without data
abbrev pub with_data : List Block → List Block
with_data [] = []
with_data (b ∷ bs) = if has_data b then b ∷ with_data bs else []

-- the same steps, a refusal being a fault
abbrev pub refusing : {X : Type 0} → Did X Refusal → Did X Fault
refusing d = with_reason Refused d

-- what a set holds
abbrev pub source : Shelf → SetRef → Result (List Block) ℕ
source shelf from = readable (body_on shelf from.v from.dsn.bytes)

-- a set, and what it is written for
abbrev pub target : SetRef → Mode → Target
target to mode = record { v = to.v; dsn = to.dsn; mode = mode }

-- Blocks are put by a writer; one without data is a fault, and those in front of it were put.
unfoldable pub did_blocks : Shelf → OpenWriter → List Block → Did (Unit {0}) Fault
did_blocks shelf w bs =
    if list_all has_data bs then refusing (did_puts shelf w (map content bs))
    else and_then shelf (refusing (did_puts shelf w (map content (with_data bs)))) (λ x u. answered (Err BadRecord))

-- Blocks are written to a set as a whole; where one has no data, nothing is but the extensions for those in front of it.
unfoldable pub did_all : Shelf → Target → List Block → Did (Unit {0}) Fault
did_all shelf t bs =
    if list_all has_data bs then refusing (did_write shelf t (map content bs))
    else and_then shelf (refusing (did_puts shelf (begun t) (map content (with_data bs)))) (λ x u. answered (Err BadRecord))

-- blocks are written to a set, if it can be written to
unfoldable pub filled : Shelf → SetRef → Mode → List Block → Did (Unit {0}) Fault
filled shelf to mode bs = and_then shelf (refusing (did_begin shelf (target to mode))) (λ x u. did_all u (target to mode) bs)

-- the place after a block's
abbrev pub behind_place : Place → Place
behind_place p = if p.r == 255 then record { tt = p.tt + 1; r = 0 } else record { tt = p.tt; r = p.r + 1 }

-- one block is put, or it has no data
unfoldable pub did_block : Shelf → OpenWriter → Block → Did Place Fault
did_block shelf w b = if has_data b then refusing (did_put shelf w (content b)) else answered (Err BadRecord)
