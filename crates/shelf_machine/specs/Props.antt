-- That runs lie apart and end by a track has one proof, for a ghost field, and so has what is pending.
use Rattle.std.specs.Prelude.{ℕ, ◌+◌, Bool, true, false, List, [], ◌∷◌, Option, Some, None}
use Rattle.std.proofs.Props.{props}
use Rattle.vol_model.specs.declared.contents.Run.{Run}
use Rattle.vol_model.specs.Places.{Content}
use Rattle.vol_model.specs.Space.{AreApartFrom, EndBy}
use Rattle.vtoc_index.specs.Kept.{kept_props}
use Rattle.seq_access.specs.Bodies.{IsWritable}
use Rattle.seq_access.specs.Reading.{AreRead}
use Rattle.seq_access.specs.declared.read_buf.Reach.{Reach}
use Rattle.seq_access.specs.declared.read_buf.Reach.TheVariants as reaches
use Rattle.hall_core.specs.Facts.{Attached}
use Rattle.stop_model.specs.Files.{File}
use Rattle.stop_model.specs.Moments.{Meaning}
use Rattle.track_records.specs.Buffers.{Buffer}
use Rattle.vtoc_index.specs.declared.vol.Vol.{Vol}
use Rattle.vol_model.specs.declared.contents.Body.{Body}
use Rattle.vol_model.specs.declared.contents.Body.TheVariants as bodies
use Rattle.shelf_machine.specs.Fronts.{BeginsWell}
use Rattle.shelf_machine.specs.Pending.{HasSlot, IsPendingBy}
use Rattle.shelf_machine.specs.declared.writer.Writer.{Writer}

pub AreApartFrom-prop : (low : ℕ) (rs : List Run) → IsProp (AreApartFrom low rs)
AreApartFrom-prop low [] = Prim.hlevel props
AreApartFrom-prop low (r ∷ rs) = Prim.hlevel (props, AreApartFrom-prop (r.start + r.len + 1) rs)

pub EndBy-prop : (limit : ℕ) (rs : List Run) → IsProp (EndBy limit rs)
EndBy-prop limit [] = Prim.hlevel props
EndBy-prop limit (r ∷ rs) = Prim.hlevel (props, EndBy-prop limit rs)

-- that a buffer holds its track has one proof too
pub AreRead-prop : (image : List ℕ) (r : Reach) (b : Buffer) → IsProp (AreRead image r b)
AreRead-prop image reaches.Nothing b = Prim.hlevel props
AreRead-prop image (reaches.UpTo r) b = Prim.hlevel props
AreRead-prop image reaches.Whole b = Prim.hlevel props

-- that blocks may be added to a body
pub IsWritable-prop : (b : Body) → IsProp (IsWritable b)
IsWritable-prop (bodies.Seq blocks) = Prim.hlevel props
IsWritable-prop (bodies.Part dir end entries blocks) = Prim.hlevel props
IsWritable-prop bodies.Catalog = Prim.hlevel props
IsWritable-prop bodies.Other = Prim.hlevel props
IsWritable-prop (bodies.Unreadable track) = Prim.hlevel props

-- that what is placed begins with what goes in front
pub BeginsWell-prop : (first : Bool) (cs : List Content) → IsProp (BeginsWell first cs)
BeginsWell-prop true [] = Prim.hlevel props
BeginsWell-prop true (c ∷ cs) = Prim.hlevel props
BeginsWell-prop false cs = Prim.hlevel props

-- what is pending, by the writer
pub IsPendingBy-prop : (m : Meaning (List File)) (attached : List Attached) (vols : List Vol) (w : Option Writer)
    → IsProp (IsPendingBy m attached vols w)
IsPendingBy-prop m attached vols None = Prim.hlevel props
IsPendingBy-prop m attached vols (Some w) = Prim.hlevel (IsWritable-prop, BeginsWell-prop, props)

pub HasSlot-prop : (vols : List Vol) (w : Option Writer) → IsProp (HasSlot vols w)
HasSlot-prop vols None = Prim.hlevel props
HasSlot-prop vols (Some w) = Prim.hlevel props

pub ruleset shelf_props = (AreApartFrom-prop, EndBy-prop, AreRead-prop, IsPendingBy-prop, HasSlot-prop, kept_props)
