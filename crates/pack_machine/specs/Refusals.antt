-- Why an operation on a data set is refused, by its name, its attributes and its body.
use Rattle.std.specs.Prelude.{◌≡◌, ◌≢◌, ℕ, Bool, true, false, List, Option, Some, None, Result, Err, if◌then◌else◌}
use Rattle.vol_model.specs.declared.answers.Kind.TheVariants.{Part}
use Rattle.vol_model.specs.declared.answers.StoreErr.{StoreErr}
use Rattle.vol_model.specs.declared.answers.StoreErr.TheVariants.{Refused, Memory, Device}
use Rattle.vol_model.specs.declared.contents.Attr.{Attr}
use Rattle.vol_model.specs.declared.contents.Body.{Body}
use Rattle.vol_model.specs.declared.contents.Volume.{Volume}
use Rattle.vol_model.specs.declared.refusals.Refusal.{Refusal}
use Rattle.vol_model.specs.declared.refusals.Refusal.TheVariants.{WrongKind}
use Rattle.vol_model.specs.Reading.{kind_of}
use Rattle.vol_model.specs.Shelf.{is_catalog, may_empty, unreadable}

-- why a data set can't be emptied, if there is a reason
abbrev pub empty_refusal : List ℕ → Attr → Body → Option Refusal
empty_refusal name attr body = if may_empty name attr body then unreadable body else Some WrongKind

-- why a data set of this name and this body can't have more extents, whatever is free
abbrev pub extend_refusal : List ℕ → Body → Option Refusal
extend_refusal name body = if is_catalog name then Some WrongKind else unreadable body

-- why a data set isn't emptied, by what is refused: memory that runs out says nothing of it
abbrev pub IsReason : Option StoreErr → Option Refusal → Type 0
IsReason (Some (Refused r)) refusal = refusal ≡ Some r
IsReason (Some Memory) refusal = Unit {0}
IsReason (Some Device) refusal = ⊥
IsReason None refusal = refusal ≡ None

-- an operation on a volume isn't done for this reason
abbrev pub IsRefusedBy : StoreErr → Result Volume Refusal → Type 0
IsRefusedBy (Refused r) step = step ≡ Err r
IsRefusedBy Memory step = Unit {0}
IsRefusedBy Device step = ⊥

-- a body is that of a partitioned data set which can be read, or isn't
abbrev pub IsPartTest : Bool → Body → Type 0
IsPartTest true body = kind_of body ≡ Part
IsPartTest false body = kind_of body ≢ Part
