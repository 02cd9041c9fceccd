-- The blocks of a sequential or partitioned data set as an image has them, by the index of its VTOC, in this project's profile.
use Rattle.std.specs.Prelude.{◌≡◌, ◌≢◌, ◌==◌, ◌&&◌, ℕ, true, List, length, take, nat_le, Option, Some, None, Result, Ok, Err, is_none, option_and_then, position, slice_get, if◌then◌else◌}
use Rattle.ckd_image.specs.Track.{Record}
use Rattle.dscb_codec.specs.declared.F1.{F1}
use Rattle.pack_spec.specs.Blocks.{last_of, records_in, seq_body, upto_last}
use Rattle.pack_spec.specs.Bodies.{body_of}
use Rattle.pack_spec.specs.Directories.{end_from, part_at, part_blocks, part_body, part_tracks, read_to}
use Rattle.pack_spec.specs.Label.{records_on}
use Rattle.pack_spec.specs.Volume.{attr_of}
use Rattle.vol_model.specs.declared.answers.CheckErr.{CheckErr}
use Rattle.vol_model.specs.declared.answers.CheckErr.TheVariants.{Unreadable, Device}
use Rattle.vol_model.specs.declared.contents.Block.{Block}
use Rattle.vol_model.specs.declared.contents.Body.{Body}
use Rattle.vol_model.specs.declared.contents.Body.TheVariants as bodies
use Rattle.vol_model.specs.declared.contents.Place.{Place}
use Rattle.vol_model.specs.Reading.{readable}
use Rattle.vol_model.specs.Shelf.{is_sequential}
use Rattle.track_records.specs.Buffers.{Buffer}
use Rattle.vtoc_index.specs.declared.vol.Vol.{Vol}
pub use Rattle.vtoc_sets.specs.Sets.{IsSetIn, data_in, owned_in}
use Rattle.vtoc_sets.specs.Sets.{extents_in}

-- the data set of a format 1 is sequential
abbrev pub IsSequential : F1 → Type 0
IsSequential f = is_sequential f.name (attr_of f) ≡ true

-- the body that a data set has by this LSTAR
abbrev pub body_upto : List ℕ → Vol → F1 → List ℕ → Body
body_upto image v f lstar = seq_body v.geometry (data_in image v) (extents_in image v f) lstar

-- the body of a data set
abbrev pub body_in : List ℕ → Vol → F1 → Body
body_in image v f = body_upto image v f f.lstar

-- a body has these blocks
abbrev pub HasBlocks : Body → List Block → Type 0
HasBlocks body blocks = body ≡ bodies.Seq blocks

-- a body can be read
abbrev pub IsReadable : Body → Type 0
IsReadable body = (blocks : List Block) × HasBlocks body blocks

-- a walk over the records of a data set answers whether its body can be read, or else the first relative track that breaks it
abbrev pub Checks : {T : Type 0} → Result T CheckErr → Body → Type 0
Checks (Ok x) body = IsReadable body
Checks (Err (Unreadable track)) body = body ≡ bodies.Unreadable track
Checks (Err Device) body = Unit {0}

-- the body of a partitioned data set
abbrev pub part_in : List ℕ → Vol → F1 → Body
part_in image v f = part_body v.geometry (data_in image v) (extents_in image v f) f.lstar

-- the place of its directory's end-of-file record; where there is none, after its tracks
abbrev pub end_in : List ℕ → Vol → F1 → Place
end_in image v f = end_from v.geometry (data_in image v) 0 (owned_in image v f)

-- the first relative track whose records break its body, whatever the entries of its directory are
abbrev pub broken_in : List ℕ → Vol → F1 → Option ℕ
broken_in image v f = position (λ o. is_none o) (part_tracks v.geometry (data_in image v) (owned_in image v f) (end_in image v f) (read_to (end_in image v f) f.lstar))

-- its blocks on a relative track; none where that breaks it
abbrev pub at_in : List ℕ → Vol → F1 → ℕ → Option (List Block)
at_in image v f k = part_at v.geometry (data_in image v) (owned_in image v f) (end_in image v f) (read_to (end_in image v f) f.lstar) k

-- a partitioned body can be read
abbrev pub IsReadablePart : Body → Type 0
IsReadablePart body = (blocks : List Block) × (readable body ≡ Ok blocks)

-- a walk over the records of a data set answers the first relative track that is broken, or that none is
abbrev pub FindsBroken : {T : Type 0} → Result T CheckErr → Option ℕ → Type 0
FindsBroken (Ok x) broken = broken ≡ None
FindsBroken (Err (Unreadable track)) broken = broken ≡ Some track
FindsBroken (Err Device) broken = Unit {0}

-- the body of a data set, whatever its kind is
abbrev pub body_of_set : List ℕ → Vol → F1 → Body
body_of_set image v f = body_of v.geometry (data_in image v) f.name (attr_of f) (extents_in image v f) f.lstar

-- blocks may be put after those of a body: it is sequential or partitioned, and can be read
abbrev pub IsWritable : Body → Type 0
IsWritable (bodies.Seq blocks) = Unit {0}
IsWritable (bodies.Part dir end entries blocks) = Unit {0}
IsWritable body = ⊥

-- the place of the last record that is read of a body with this LSTAR: after it the next block goes
abbrev pub last_read : Body → List ℕ → Place
last_read (bodies.Part dir end entries blocks) lstar = read_to end lstar
last_read body lstar = last_of lstar

-- and of a data set
abbrev pub last_in : List ℕ → Vol → F1 → Place
last_in image v f = last_read (body_of_set image v f) f.lstar

-- Blocks may be put after those of a data set, whose last record has this place.
abbrev pub IsLastOf : List ℕ → Vol → F1 → Place → Type 0
IsLastOf image v f last = IsWritable (body_of_set image v f) × (last ≡ last_in image v f)

-- a buffer holds all records of a relative track of a data set
abbrev pub HoldsWhole : List ℕ → Vol → F1 → ℕ → Buffer → Type 0
HoldsWhole image v f k b = (t : ℕ) × (slice_get (owned_in image v f) k ≡ Some t) × (records_on image v.geometry None t ≡ Some b.records)

-- those of all records of a track that are read up to a record, or to the end marker; none where it has no such record
abbrev pub held_upto : Option ℕ → List Record → Option (List Record)
held_upto None records = Some records
held_upto (Some r) records = if nat_le r (length records) then Some (take r records) else None

-- the blocks on the track with a directory's end, of which these are all records, up to a place; none where one may not stand there, or where it is read up to R0
abbrev pub part_held : Place → Place → List Record → Option (List Block)
part_held end to records =
    if (end.tt == to.tt) && (to.r == 0) then None
    else option_and_then (part_blocks end end.tt) (held_upto (upto_last to end.tt) records)

-- the records on a relative track of a data set up to a place; none where the set has no such track, where it breaks the grammar, or where it is read up to R0
abbrev pub records_upto : List ℕ → Vol → F1 → Place → ℕ → Option (List Record)
records_upto image v f to k =
    if (k == to.tt) && (to.r == 0) then None
    else option_and_then (records_in v.geometry (data_in image v) (upto_last to k)) (slice_get (owned_in image v f) k)

-- the records of a relative track are read into a buffer, or it has none
abbrev pub ReadsTrack : {T : Type 0} → Result T CheckErr → ℕ → Option (List Record) → List Record → Type 0
ReadsTrack (Ok n) k found records = found ≡ Some records
ReadsTrack (Err (Unreadable track)) k found records = (track ≡ k) × (found ≡ None)
ReadsTrack (Err Device) k found records = Unit {0}

-- the records of a relative track are blocks, or it has none
abbrev pub ChecksTrack : {T : Type 0} → Result T CheckErr → ℕ → Option (List Block) → Type 0
ChecksTrack (Ok x) k blocks = blocks ≢ None
ChecksTrack (Err (Unreadable track)) k blocks = (track ≡ k) × (blocks ≡ None)
ChecksTrack (Err Device) k blocks = Unit {0}
