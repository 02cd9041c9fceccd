-- A fill of no blocks leaves the shelf as it is, and a writer that put none has nothing else to fill in.
use Rattle.std.proofs.Common.{◌≡◌, ◌++◌, ℕ, Bool, true, false, cond, List, [], ◌∷◌, length, map, Option, Some, None, refl, sym, ap, ◌∙◌}
use Rattle.std.specs.Prelude.{Ok, drop, slice_get}
use Rattle.ckd_image.specs.declared.device.DiskType.{DiskType}
use Rattle.dscb_codec.specs.declared.F1.{F1}
use Rattle.ebcdic_names.specs.declared.names.Dsn.{Dsn}
use Rattle.pack_spec.specs.Volume.{attr_of}
use Rattle.vol_model.specs.declared.answers.Mode.{Mode}
use Rattle.vol_model.specs.declared.answers.Mode.TheVariants as modes
use Rattle.vol_model.specs.declared.contents.Block.{Block}
use Rattle.vol_model.specs.declared.contents.Body.{Body}
use Rattle.vol_model.specs.declared.contents.Body.TheVariants as bodies
use Rattle.vol_model.specs.declared.contents.DataSet.{DataSet}
use Rattle.vol_model.specs.declared.contents.Place.{Place}
use Rattle.vol_model.specs.declared.contents.Shelf.{Shelf}
use Rattle.vol_model.specs.declared.contents.Volume.{Volume}
use Rattle.vol_model.specs.declared.refusals.Refusal.{Refusal}
use Rattle.vol_model.specs.declared.refusals.Refusal.TheVariants.{WrongKind}
use Rattle.vol_model.specs.declared.requests.Op.TheVariants.{Fill}
use Rattle.vol_model.specs.Places.{content, placed, with_blocks}
use Rattle.vol_model.specs.Shelf.{blocks_of, changed, fits_mode, has_name, on_volume, step, step_on, unless_refused, unreadable, with_set, with_volume, with_written, write_on, write_refusal}
use Rattle.vol_model.specs.Writing.{begin_refusal, blocks_for, set_on, target_refusal, writes}
use Rattle.vtoc_index.specs.declared.vol.Vol.{Vol}
use Rattle.vtoc_index.specs.Last.{lstar_of}
use Rattle.vtoc_sets.specs.Sets.{volume_in}
use Rattle.seq_access.specs.declared.writer.Writer.{Writer as BlockWriter}
use Rattle.seq_access.specs.Bodies.{IsWritable, body_of_set, body_upto}
use Rattle.seq_access.specs.Writing.{body_so_far, front_in, has_put, puts_in}
use Rattle.shelf_machine.specs.Pending.{IsWritingBy}
use Rattle.pack_machine.specs.Reads.{HasVolume, IsSetOn}
use Rattle.pack_machine.proofs.ListPlaces.{set_itself}
use Rattle.pack_machine.proofs.ShelfReads.{begin_set, body_here}
use Rattle.pack_machine.proofs.WriteSteps.{to_set}

-- ---- a fill of no blocks

no_more : (bs : List Block) → bs ++ [] ≡ bs
no_more [] = refl
no_more (b ∷ bs) = ap (λ (l : List Block). b ∷ l) (no_more bs)

body_same : (b : Body) → with_blocks b [] ≡ b
body_same (bodies.Seq old) = ap bodies.Seq (no_more old)
body_same (bodies.Part dir end entries old) = ap (bodies.Part dir end entries) (no_more old)
body_same bodies.Catalog = refl
body_same bodies.Other = refl
body_same (bodies.Unreadable track) = refl

set_same : (device : DiskType) (x : DataSet) → with_written device modes.Fill [] x ≡ x
unfolding placed
set_same device x = ap (λ (b : Body). record x { body = b }) (body_same x.body)

sets_same : (device : DiskType) (name : List ℕ) (sets : List DataSet) → changed name (with_written device modes.Fill []) sets ≡ sets
sets_same device name [] = refl
sets_same device name (x ∷ sets) = ap (λ (y : DataSet). y ∷ changed name (with_written device modes.Fill []) sets) (by (has_name name x)) ∙ ap (λ (l : List DataSet). x ∷ l) (sets_same device name sets)
  where
    by : (b : Bool) → cond b (with_written device modes.Fill [] x) x ≡ x
    by true = set_same device x
    by false = refl

volume_same : (dsn : Dsn) (w : Volume) → write_refusal modes.Fill dsn w ≡ None → write_on modes.Fill dsn [] w ≡ Ok w
unfolding write_on
volume_same dsn w none =
    ap (λ (o : Option Refusal). unless_refused o (with_set w dsn.bytes (with_written w.geometry.device modes.Fill []))) none
    ∙ ap (λ (sets : List DataSet). Ok (record w { sets = sets })) (sets_same w.geometry.device dsn.bytes w.sets)

-- such an operation, where the set can be written to
pub step_same : (shelf : Shelf) (v : ℕ) (dsn : Dsn) (w : Volume) → slice_get shelf.volumes v ≡ Some w → write_refusal modes.Fill dsn w ≡ None → step shelf (writes (to_set v dsn modes.Fill) (blocks_for shelf (to_set v dsn modes.Fill) [])) ≡ Ok shelf
unfolding step step_on placed
step_same shelf v dsn w at none =
    ap (on_volume shelf v (step_on (Fill v dsn []))) at
    ∙ ap (with_volume shelf v) (volume_same dsn w none)
    ∙ ap (λ (ws : List Volume). Ok (record { volumes = ws })) (set_itself shelf.volumes v w at)

-- a body to which blocks may be added can be read
pub writable_read : (b : Body) → IsWritable b → unreadable b ≡ None
writable_read (bodies.Seq bs) writable = refl
writable_read (bodies.Part dir end entries bs) writable = refl
writable_read bodies.Catalog writable = absurd writable
writable_read bodies.Other writable = absurd writable
writable_read (bodies.Unreadable track) writable = absurd writable

-- the set of a writer can be written to
pub may_fill : (shelf : Shelf) (n : ℕ) (v : Vol) (has : HasVolume shelf n v) (dsn : Dsn) (f : F1) (set : IsSetOn has.image v (set_on shelf n dsn.bytes) (Some f)) (mode : Mode) → fits_mode mode f.name (attr_of f) ≡ true → IsWritable (body_of_set has.image v f)
    → write_refusal mode dsn (volume_in has.image v) ≡ None
unfolding begin_refusal
may_fill shelf n v has dsn f set mode fits writable =
    ap (target_refusal (record { v = n; dsn = dsn; mode = mode })) (sym has.there)
    ∙ begin_set shelf n v has dsn mode f set
    ∙ ap (λ (b : Bool). cond b (unreadable (body_here has.image v f)) (Some WrongKind)) fits
    ∙ writable_read (body_here has.image v f) writable

-- ---- a writer that put nothing

drop_all : (bs : List Block) → drop (length bs) bs ≡ []
drop_all [] = refl
drop_all (b ∷ bs) = drop_all bs

pub none_put : (image : List ℕ) (v : Vol) (f : F1) (w : BlockWriter) → IsWritingBy image v f w → has_put w ≡ false → puts_in image v f w ≡ []
unfolding puts_in
none_put image v f w by none =
    let old : List Block = blocks_of (front_in image v f) in
    let same : body_so_far image v f w ≡ front_in image v f = ap (λ (p : Place). body_upto image v f (lstar_of p)) (by.begun none) in
    ap (λ (b : Body). map content (drop (length old) (blocks_of b))) same ∙ ap (map content) (drop_all old)
