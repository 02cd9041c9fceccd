-- What a writer has put after the blocks of a sequential or partitioned data set, and what its writes leave, in this project's profile.
use Rattle.std.specs.Prelude.{◌≡◌, ◌≢◌, ◌⊎◌, ℕ, ◌+◌, ◌≤◌, ◌<◌, nat_lt, Bool, true, false, List, [], ◌∷◌, ◌++◌, length, map, drop, take, slice_get, Option, Some, None, Ok, Result, OnOk}
use Rattle.std.specs.List.{list_all}
use Rattle.dscb_codec.specs.declared.Dscb.{Dscb}
use Rattle.dscb_codec.specs.declared.Dscb.TheVariants as formats
use Rattle.dscb_codec.specs.declared.F1.{F1}
use Rattle.ckd_image.specs.declared.header.Geometry.{Geometry}
use Rattle.ckd_image.specs.Fit.{balance}
use Rattle.ckd_image.specs.Track.{Record}
use Rattle.hall_core.specs.declared.hall.Hall.{Ghosts}
use Rattle.hall_core.specs.Facts.{Attached, unit_of}
use Rattle.hall_core.specs.Images.{image_in}
use Rattle.hall_core.specs.Told.{ImageHas}
use Rattle.stop_model.specs.Blocks.{Keeps}
use Rattle.stop_model.specs.Files.{File, file_of}
use Rattle.stop_model.specs.Moments.{Meaning, IsDurable, Elapses}
use Rattle.pack_spec.specs.Alike.{DifferInVtoc}
use Rattle.pack_spec.specs.Blocks.{is_block}
use Rattle.pack_spec.specs.Label.{records_on, track_bytes}
use Rattle.pack_spec.specs.Settled.{IsGuarded, IsSettledVtoc}
use Rattle.pack_spec.specs.Volume.{volume_of}
use Rattle.track_records.specs.Appends.{MayContinue, end_of}
use Rattle.track_records.specs.Buffers.{Buffer}
use Rattle.track_records.specs.Calls.{HasTrack}
use Rattle.vol_model.specs.declared.contents.Block.{Block}
use Rattle.vol_model.specs.declared.contents.Body.{Body}
use Rattle.vol_model.specs.declared.contents.Body.TheVariants as bodies
use Rattle.vol_model.specs.declared.contents.Place.{Place}
use Rattle.vol_model.specs.declared.contents.Volume.{Volume}
use Rattle.vol_model.specs.declared.refusals.Refusal.{Refusal}
use Rattle.vol_model.specs.Places.{Content, content, lengths, next_place, placed, with_blocks}
use Rattle.vol_model.specs.Shelf.{blocks_of}
use Rattle.vtoc_index.specs.declared.vol.Vol.{Vol}
use Rattle.vtoc_index.specs.Index.{IsMounted}
use Rattle.vtoc_index.specs.Last.{lstar_of, with_last}
use Rattle.vtoc_sets.specs.Sets.{HasSet}
use Rattle.free_rebuild.specs.Repairs.{image_named}
use Rattle.seq_access.specs.declared.writer.Writer.{Writer}
use Rattle.seq_access.specs.Bodies.{HasBlocks, IsLastOf, IsSetIn, IsWritable, body_of_set, body_upto, last_in, owned_in}

-- the records of a data set up to a writer's last block, as a sequential set's body
abbrev pub body_so_far : List ℕ → Vol → F1 → Writer → Body
body_so_far image v f w = body_upto image v f (lstar_of w.last)

-- those up to its own last record; of a partitioned set its directory's, too
abbrev pub front_in : List ℕ → Vol → F1 → Body
front_in image v f = body_upto image v f (lstar_of (last_in image v f))

-- what a writer put after the blocks of a data set
unfoldable pub puts_in : List ℕ → Vol → F1 → Writer → List Content
puts_in image v f w = map content
    (drop (length (blocks_of (front_in image v f))) (blocks_of (body_so_far image v f w)))

-- whether a writer put a block
abbrev pub has_put : Writer → Bool
has_put w = nat_lt 0 w.blocks

-- one place doesn't stand before another
abbrev pub IsNotBefore : Place → Place → Type 0
IsNotBefore p q = (q.tt < p.tt) ⊎ ((q.tt ≡ p.tt) × (q.r ≤ p.r))

-- the end of a body's directory is told, if it is a partitioned set's
abbrev pub EndsAt : Option Place → Body → Type 0
EndsAt told (bodies.Part dir end entries blocks) = told ≡ Some end
EndsAt told body = told ≡ None

-- A writer stands on an image: the format 1 in its slot is that of a set whose body can be read; after its records stand those that were put, each at its next place; and the track of the last of these ends there.
pub record IsWriting (image : List ℕ) (v : Vol) (w : Writer) : Type 0 where
  pub f : F1
  pub slot : slice_get v.slots.items w.slot ≡ Some (formats.F1 f)
  pub set : HasSet image v f
  pub writable : IsWritable (body_of_set image v f)
  pub old : List Block
  pub front : HasBlocks (front_in image v f) old
  pub so_far : HasBlocks (body_so_far image v f w)
      (old ++ placed v.geometry.device (bodies.Seq old) (puts_in image v f w))
  pub begun : has_put w ≡ false → w.last ≡ last_in image v f
  pub some : has_put w ≡ true → puts_in image v f w ≢ []
  pub behind : IsNotBefore w.last (last_in image v f)
  pub ended : has_put w ≡ true → (track : ℕ) → slice_get (owned_in image v f) w.last.tt ≡ Some track
      → records_on image v.geometry None track ≡ records_on image v.geometry (Some w.last.r) track

-- the body of its set with the blocks that were put
abbrev pub body_with : {image : List ℕ} {v : Vol} {w : Writer} → IsWriting image v w → Body
body_with {image} {v} {w} is = with_blocks (body_of_set image v is.f) (placed v.geometry.device (body_of_set image v is.f) (puts_in image v is.f w))

-- where the next content goes
abbrev pub place_next : {image : List ℕ} {v : Vol} {w : Writer} → IsWriting image v w → Content → Place
place_next {v = v} is c = next_place v.geometry.device (body_with is) c

-- all records after which the next one comes, as blocks
abbrev pub written_by : {image : List ℕ} {v : Vol} {w : Writer} → IsWriting image v w → List Block
written_by {image} {v} {w} is = is.old ++ placed v.geometry.device (bodies.Seq is.old) (puts_in image v is.f w)

-- where the next one goes, which is the same place
abbrev pub record_next : {image : List ℕ} {v : Vol} {w : Writer} → IsWriting image v w → Content → Place
record_next {v = v} is c = next_place v.geometry.device (bodies.Seq (written_by is)) c

-- A content is put as the next block, on a track that the set owns; its place is this.
pub record IsPutBehind {image : List ℕ} {v : Vol} {w : Writer} (is : IsWriting image v w) (c : Content)
    (place : Place) (image' : List ℕ) (v' : Vol) (w' : Writer) : Type 0 where
  pub next : place ≡ place_next is c
  pub owned : place.tt < length (owned_in image v is.f)
  pub writing : IsWriting image' v' w'
  pub same : writing.f ≡ is.f
  pub body : body_of_set image' v' is.f ≡ body_of_set image v is.f
  pub puts : puts_in image' v' is.f w' ≡ puts_in image v is.f w ++ c ∷ []

-- the lengths of a record's key and data
abbrev pub sizes : Record → ℕ × ℕ
sizes x = (length x.key, length x.«data»)

-- The records of a data set's track up to the last block can be blocks.
pub record AreThere (image : List ℕ) (v : Vol) (f : F1) (last : Place) : Type 0 where
  pub first : 1 ≤ last.r
  pub track : ℕ
  pub owned : slice_get (owned_in image v f) last.tt ≡ Some track
  pub records : List Record
  pub stand : records_on image v.geometry (Some last.r) track ≡ Some records
  pub blocks : list_all is_block records ≡ true

-- The buffer of an index holds the records of a data set's track up to the last block.
pub record HoldsLast (image : List ℕ) (v : Vol) (f : F1) (last : Place) : Type 0 where
  pub owned : slice_get (owned_in image v f) last.tt ≡ Some v.buf.track
  pub stand : records_on image v.geometry (Some last.r) v.buf.track ≡ Some v.buf.records

-- this is the balance of a data set's track, with its records up to the last block
abbrev pub IsBalanceOf : List ℕ → Vol → F1 → Place → ℕ → Type 0
IsBalanceOf image v f last n = (track : ℕ) (records : List Record) → slice_get (owned_in image v f) last.tt ≡ Some track
    → records_on image v.geometry (Some last.r) track ≡ Some records → n ≡ balance v.geometry.device (map sizes records)

-- A slot holds the format 1 of a data set with this last block, and with the balance of its track.
pub record IsRaised (image : List ℕ) (v : Vol) (f : F1) (slot : ℕ) (last : Place) (dscbs : List Dscb) : Type 0 where
  pub balance : ℕ
  pub is : IsBalanceOf image v f last balance
  pub there : slice_get dscbs slot ≡ Some (with_last last balance (formats.F1 f))

-- The records of a track end with one of this number, which has no key and no data.
pub record EndsWithNothing (image : List ℕ) (g : Geometry) (track r : ℕ) : Type 0 where
  pub front : List Record
  pub last : Record
  pub records : records_on image g None track ≡ Some (front ++ last ∷ [])
  pub number : length front + 1 ≡ r
  pub key : last.key ≡ []
  pub content : last.«data» ≡ []

-- An end-of-file record is the last of the track on which the next block without key and data goes, if the data set owns that.
abbrev pub HasEnd : {image : List ℕ} {v : Vol} {w : Writer} → IsWriting image v w → List ℕ → Type 0
HasEnd {image} {v} is image' = (track : ℕ) → slice_get (owned_in image v is.f) (record_next is ([], [])).tt ≡ Some track
    → EndsWithNothing image' v.geometry track (record_next is ([], [])).r

-- A buffer holds records that can be blocks, and its track takes an end marker after them.
pub record IsRoomy (units : List Attached) (b : Buffer) : Type 0 where
  pub track : HasTrack units b.unit b.geometry b.track
  pub few : length b.records ≤ 255
  pub blocks : list_all is_block b.records ≡ true
  pub room : end_of b + 8 ≤ b.geometry.track_size

-- The buffer of an index is that of the track on which the next block of these lengths goes, with the records of the data set before it there; the last block's track ends after it, if that is another.
pub record IsReady {image : List ℕ} {v : Vol} {w : Writer} (is : IsWriting image v w)
    (kl dl : ℕ) (place : Place) (image' : List ℕ) (v' : Vol) : Type 0 where
  pub next : (c : Content) → lengths c ≡ (kl, dl) → place ≡ record_next is c
  pub owned : slice_get (owned_in image v is.f) place.tt ≡ Some v'.buf.track
  pub number : length v'.buf.records + 1 ≡ place.r
  pub may : MayContinue image' v'.buf
  pub tracks : owned_in image' v' is.f ≡ owned_in image v is.f
  pub writing : IsWriting image' v' w
  pub same : writing.f ≡ is.f
  pub body : body_of_set image' v' is.f ≡ body_of_set image v is.f
  pub old : writing.old ≡ is.old
  pub puts : puts_in image' v' is.f w ≡ puts_in image v is.f w
  pub ended : place.tt ≢ w.last.tt → 1 ≤ w.last.r → (track : ℕ)
      → slice_get (owned_in image v is.f) w.last.tt ≡ Some track
      → records_on image' v.geometry None track ≡ records_on image' v.geometry (Some w.last.r) track

-- A writer stands as it did before, and the track of its last block ends after that.
pub record IsEnded (image : List ℕ) (v : Vol) (f : F1) (blocks : List Block) (w : Writer)
    (image' : List ℕ) (v' : Vol) : Type 0 where
  pub writing : IsWriting image' v' w
  pub same : writing.f ≡ f
  pub body : body_of_set image' v' f ≡ body_of_set image v f
  pub old : writing.old ≡ blocks
  pub puts : puts_in image' v' f w ≡ puts_in image v f w
  pub tracks : owned_in image' v' f ≡ owned_in image v f
  pub ended : (track : ℕ) → slice_get (owned_in image v f) w.last.tt ≡ Some track
      → records_on image' v.geometry None track ≡ records_on image' v.geometry (Some w.last.r) track

-- Images that differ after a record of a data set alone, on its tracks.
pub record DifferBehind (v : Vol) (f : F1) (last : Place) (before after : List ℕ) : Type 0 where
  pub size : length after ≡ length before
  pub header : take 512 after ≡ take 512 before
  pub others : (track : ℕ) → ((k : ℕ) → slice_get (owned_in before v f) k ≡ Some track → last.tt ≤ k → ⊥)
      → track_bytes after v.geometry track ≡ track_bytes before v.geometry track
  pub kept : (track : ℕ) → slice_get (owned_in before v f) last.tt ≡ Some track → 1 ≤ last.r
      → records_on after v.geometry (Some last.r) track ≡ records_on before v.geometry (Some last.r) track

-- Files that differ so in the image of this name alone.
pub record AreSpared (name : List ℕ) (v : Vol) (f : F1) (last : Place) (before files : List File) : Type 0 where
  pub image : DifferBehind v f last (image_named before name) (image_named files name)
  pub others : (other : List ℕ) → other ≢ name → file_of files other ≡ file_of before other

-- a data set of an image by an index, whatever its buffer holds
abbrev pub HasSetBy : List ℕ → Vol → F1 → Type 0
HasSetBy image v f = HasSet image (record v { buf = record (v.buf) { records = [] } }) f

-- Writes that no sync has made durable: where what is read and what a stop leaves differ after a record of a data set alone, they do so still.
abbrev pub Spares : {T E : Type 0} → List ℕ → Vol → F1 → Place → Meaning (List File) → Meaning (List File)
    → Result T E → Type 0
Spares name v f last old new result = (before : List File) → HasSetBy (image_named before name) v f
    → ((files : List File) → old.left files → AreSpared name v f last before files)
    → AreSpared name v f last before old.state
    → Keeps (AreSpared name v f last before) new.state old new result
    × AreSpared name v f last before new.state

-- so do those of a writer's call, of what isn't its set's
abbrev pub SparesOthers : {X T E : Type 0} → Ghosts X → Vol → Writer → X → X → Result T E → Type 0
SparesOthers g v w old new result = ImageHas g old v.unit (λ image.
    (is : IsWriting image v w)
    → Spares (unit_of (g.facts old).units v.unit).name v is.f (last_in image v is.f)
    (g.meaning old) (g.meaning new) result)

-- a writer's set still has the blocks that it has put
abbrev pub KeepsWritten : {X T E : Type 0} → Ghosts X → Vol → Vol → Writer → X → X → Result T E → Type 0
KeepsWritten g v v' w old new result = ImageHas g old v.unit (λ image.
    OnOk result ((is : IsWriting image v w)
    → HasBlocks (body_so_far (image_in (g.meaning new) (g.facts new) v.unit) v' is.f w) (written_by is)))

-- the image stands for the volume before the blocks are the set's, or for the one after
abbrev pub IsBeforeOrAfter : Volume → Result Volume Refusal → List ℕ → Type 0
IsBeforeOrAfter volume stepped image = (volume_of image ≡ Ok volume)
    ⊎ ((after : Volume) × (stepped ≡ Ok after) × (volume_of image ≡ Ok after))

-- What a stop leaves while blocks become the set's: the volume before or after, guarded where it was; other files are as before.
pub record IsLeftInCommit (name : List ℕ) (volume : Volume) (stepped : Result Volume Refusal)
    (before files : List File) : Type 0 where
  pub stands : IsBeforeOrAfter volume stepped (image_named files name)
  pub guarded : IsGuarded (image_named before name) → IsGuarded (image_named files name)
  pub others : (other : List ℕ) → other ≢ name → file_of files other ≡ file_of before other

-- Images that differ after the last record of a data set, which an index gives, and then in the VTOC alone.
pub record WrittenBehind (v : Vol) (before after : List ℕ) : Type 0 where
  pub old : Vol
  pub geometry : v.geometry ≡ old.geometry
  pub vtoc : v.vtoc ≡ old.vtoc
  pub f : F1
  pub set : IsSetIn before old f
  pub last : Place
  pub ends : IsLastOf before old f last
  pub between : List ℕ
  pub behind : DifferBehind old f last before between
  pub alone : DifferInVtoc old.geometry old.vtoc between after

-- Once the blocks are the set's, the image stands for that durably, is settled where it was, and the index is the image's; it differs after the set's last record and in the VTOC alone.
pub record IsCommitted (name : List ℕ) (stepped : Result Volume Refusal) (v' : Vol)
    (before : List File) (new : Meaning (List File)) : Type 0 where
  pub after : Volume
  pub step : stepped ≡ Ok after
  pub stands : volume_of (image_named new.state name) ≡ Ok after
  pub index : IsMounted (image_named new.state name) v'
  pub settled : IsSettledVtoc (image_named before name) → IsSettledVtoc (image_named new.state name)
  pub changes : WrittenBehind v' (image_named before name) (image_named new.state name)
  pub durable : IsDurable new

-- The blocks put by a writer become those of its set.
pub record Commits {T E : Type 0} (name : List ℕ) (volume : Volume) (stepped : Result Volume Refusal)
    (v' : Vol) (before : List File) (old new : Meaning (List File)) (result : Result T E) : Type 0 where
  pub done : OnOk result (IsCommitted name stepped v' before new)
  pub printed : new.printed ≡ old.printed
  pub moments : Elapses old new (λ files p. IsLeftInCommit name volume stepped before files
      × (p ≡ old.printed))
