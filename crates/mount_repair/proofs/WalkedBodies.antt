-- The kinds of bodies as a walk over them finds them, and whether their directories are packed.
use Rattle.std.proofs.Common.{◌≡◌, ⊎_elim, ℕ, true, false, List, Option, Some, None, refl, sym, ap, subst, ◌∙◌}
use Rattle.std.specs.Prelude.{IfOk, OnOk, Result, Ok, Err, is_some, option_and_then, slice_get}
use Rattle.std.specs.Option.{option_map}
use Rattle.dscb_codec.specs.declared.Dscb.{Dscb}
use Rattle.dscb_codec.specs.declared.Dscb.TheVariants as formats
use Rattle.dscb_codec.specs.declared.F1.{F1}
use Rattle.pack_spec.specs.Rules.{set_in}
use Rattle.pack_spec.specs.Settled.{HasPacked}
use Rattle.pack_spec.specs.Volume.{data_set_of}
use Rattle.pack_spec.specs.declared.MountErr.{MountErr}
use Rattle.pds_directory.specs.declared.dir.Dir.{Dir}
use Rattle.pds_directory.specs.Directories.{IsPartIn, IsReadIn, IsReadUnless, ReadsDir, broken_in, data_in, directory_in, owned_in, part_in}
use Rattle.pds_directory.proofs.PackedTests.{packed_is, packed_of}
use Rattle.seq_access.specs.Bodies.{Checks, FindsBroken}
use Rattle.vol_model.specs.declared.answers.CheckErr.{CheckErr}
use Rattle.vol_model.specs.declared.answers.CheckErr.TheVariants as checks
use Rattle.vol_model.specs.declared.answers.Kind.{Kind}
use Rattle.vol_model.specs.declared.answers.Kind.TheVariants as kinds
use Rattle.vol_model.specs.declared.answers.ReadErr.{ReadErr}
use Rattle.vol_model.specs.declared.answers.ReadErr.TheVariants as reads
use Rattle.vol_model.specs.declared.contents.Block.{Block}
use Rattle.vol_model.specs.declared.contents.Body.{Body}
use Rattle.vol_model.specs.declared.contents.Body.TheVariants.{Seq, Part, Catalog, Other, Unreadable}
use Rattle.vol_model.specs.declared.contents.Entry.{Entry}
use Rattle.vol_model.specs.declared.contents.Place.{Place}
use Rattle.vol_model.specs.Reading.{kind_of}
use Rattle.vol_model.specs.Shelf.{unreadable}
use Rattle.stow_ops.specs.Packing.{IsSomePacking}
use Rattle.vtoc_index.specs.Index.{IsMounted}
use Rattle.vtoc_index.specs.Names.{name_at}
use Rattle.vtoc_index.specs.declared.vol.Vol.{Vol}
use Rattle.vtoc_sets.specs.Sets.{HasSet}
use Rattle.mount_repair.specs.Scans.{AreSound}
use Rattle.ebcdic_names.specs.declared.names.Dsn.{Dsn}
use Rattle.mount_repair.specs.Sets.{IsPackedSet, body_at, name_and_kind, set_by}
use Rattle.mount_repair.specs.Walks.{Holds, HoldsFrom, IsKindUnread, IsKindWalked, Notes, NotesDir, NotesLibrary, holds_none, holds_one, is_noted, is_packed, keeps_none, keeps_one, lists, passes}
use Rattle.mount_repair.specs.declared.library.Library.{Library}
use Rattle.mount_repair.specs.declared.scanned.Unpacked.{Unpacked}
use Rattle.mount_repair.proofs.Lists.{of_push}
use Rattle.mount_repair.proofs.MovedSets.{packed_blocks, packed_set}

-- ---- sequential sets and others

-- the kind that a walk over the records finds
pub seq_kind : (r : Result (Unit {0}) CheckErr) (k : Result Kind MountErr) (body : Body) → Checks r body → IsKindWalked kinds.Seq r k → IfOk k (λ (x : Kind). x ≡ kind_of body)
seq_kind (Ok x) (Ok y) body whole is = let same : y ≡ kinds.Seq = cc in same ∙ sym (ap kind_of whole.1)
seq_kind (Ok x) (Err e) body whole is = tt
seq_kind (Err (checks.Unreadable t)) (Ok y) body broken is = let same : y ≡ kinds.Unreadable t = cc in same ∙ sym (ap kind_of broken)
seq_kind (Err (checks.Unreadable t)) (Err e) body broken is = tt
seq_kind (Err checks.Device) (Ok y) body any is = cc
seq_kind (Err checks.Device) (Err e) body any is = tt

-- a set whose body has no directory
module _ (image : List ℕ) (v : Vol) (f : F1) where
  own_body : (set_by image v f).body ≡ body_at image v f
  unfolding data_set_of
  own_body = refl

  no_directory : (body : Body) → ((n : ℕ) (end : Place) (es : List Entry) (bs : List Block) → body ≡ Part n end es bs → ⊥) → HasPacked v.geometry (data_in image v) (set_by image v f).extents body
  no_directory (Seq bs) none = tt
  no_directory (Part n end es bs) none = absurd (none n end es bs refl)
  no_directory Catalog none = tt
  no_directory Other none = tt
  no_directory (Unreadable k) none = tt

  pub packed_other : ((n : ℕ) (end : Place) (es : List Entry) (bs : List Block) → body_at image v f ≡ Part n end es bs → ⊥) → IsPackedSet image v f
  packed_other none = subst (HasPacked v.geometry (data_in image v) (set_by image v f).extents) (sym own_body) (no_directory (body_at image v f) none)

  pub other_dir : (slot : ℕ) (old : List Unpacked) (body : Body) → body_at image v f ≡ body → ((n : ℕ) (end : Place) (es : List Entry) (bs : List Block) → body ≡ Part n end es bs → ⊥) → NotesDir image v slot f old old
  other_dir slot old body is none = is_packed (packed_other (λ n end es bs part. none n end es bs (sym is ∙ part))) refl

  pub seq_dir : (slot : ℕ) (old : List Unpacked) (r : Result (Unit {0}) CheckErr) (k : Result Kind MountErr) (body : Body) → body_at image v f ≡ body → Checks r body → IsKindWalked kinds.Seq r k → OnOk k (NotesDir image v slot f old old)
  seq_dir slot old (Ok x) (Ok y) body is whole kind = other_dir slot old (Seq whole.0) (is ∙ whole.1) (λ n end es bs part. cc)
  seq_dir slot old (Ok x) (Err e) body is whole kind = tt
  seq_dir slot old (Err (checks.Unreadable t)) (Ok y) body is broken kind = other_dir slot old (Unreadable t) (is ∙ broken) (λ n end es bs part. cc)
  seq_dir slot old (Err (checks.Unreadable t)) (Err e) body is broken kind = tt
  seq_dir slot old (Err checks.Device) (Ok y) body is any kind = cc
  seq_dir slot old (Err checks.Device) (Err e) body is any kind = tt

  -- no library is kept of it
  pub no_library : (slot : ℕ) (old : List Library) (r : Result Kind MountErr) → OnOk r (NotesLibrary image v slot f old old)
  no_library slot old (Ok y) = keeps_none refl
  no_library slot old (Err e) = tt

-- ---- partitioned sets

-- the track on which one begins, by an index that two calls gave other buffers
pub start_of : (image : List ℕ) (v w x : Vol) (f : F1) (start : Option ℕ) → w ≡ record v { buf = w.buf } → x ≡ record w { buf = x.buf } → IsMounted image x → IsPartIn image v f
    → ((i : List ℕ) → HasSet i x f → start ≡ slice_get (owned_in i x f) 0) → start ≡ slice_get (owned_in image v f) 0
start_of image v w x f start first second mounted part track =
    track image (subst (λ (y : Vol). HasSet image y f) (sym others) (record { mounted = subst (IsMounted image) others mounted; extents = part.set.extents }))
    ∙ ap (λ (y : Vol). slice_get (owned_in image y f) 0) others
  where
    others : x ≡ record v { buf = x.buf }
    others = second ∙ ap (λ (y : Vol). record y { buf = x.buf }) first

module _ (image : List ℕ) (v : Vol) (f : F1) (part : IsPartIn image v f) where
  -- one that can't be read has no directory to be packed
  pub packed_unread : (k : ℕ) → part_in image v f ≡ Unreadable k → IsPackedSet image v f
  packed_unread k is = packed_set image v f part.partitioned (λ readable. let wrong : unreadable (Unreadable k) ≡ None = ap unreadable (sym is) ∙ readable in cc)

  -- the directory can't be read
  pub unread_kind : (e : ReadErr) (r : Result Kind MountErr) → IsKindUnread e r → ReadsDir (Err e) image v f → IfOk r (λ (x : Kind). x ≡ kind_of (part_in image v f))
  unread_kind (reads.Unreadable k) (Ok y) is broken = let same : y ≡ kinds.Unreadable k = cc in same ∙ sym (ap kind_of broken)
  unread_kind (reads.Unreadable k) (Err e) is broken = tt
  unread_kind reads.Memory (Ok y) is any = cc
  unread_kind reads.Memory (Err e) is any = tt
  unread_kind reads.Device (Ok y) is any = cc
  unread_kind reads.Device (Err e) is any = tt

  pub unread_dir : (slot : ℕ) (old : List Unpacked) (e : ReadErr) (r : Result Kind MountErr) → IsKindUnread e r → ReadsDir (Err e) image v f → OnOk r (NotesDir image v slot f old old)
  unread_dir slot old (reads.Unreadable k) (Ok y) is broken = is_packed (packed_unread k broken) refl
  unread_dir slot old (reads.Unreadable k) (Err e) is broken = tt
  unread_dir slot old reads.Memory (Ok y) is any = cc
  unread_dir slot old reads.Memory (Err e) is any = tt
  unread_dir slot old reads.Device (Ok y) is any = cc
  unread_dir slot old reads.Device (Err e) is any = tt

  -- it is read, and then all records
  module _ (dir : Dir) (read : ReadsDir (Ok dir) image v f) where
    unless : (o : Option ℕ) → IsReadUnless o image v f dir → o ≡ None → IsReadIn image v f dir
    unless None is none = is
    unless (Some k) is none = cc

    broken_at : (o : Option ℕ) (t : ℕ) → IsReadUnless o image v f dir → o ≡ Some t → part_in image v f ≡ Unreadable t
    broken_at None t is some = cc
    broken_at (Some k) t is some = let same : k ≡ t = cc in is ∙ ap (λ (n : ℕ). Unreadable n) same

    pub read_whole : FindsBroken {T = Unit {0}} (Ok tt) (broken_in image v f) → IsReadIn image v f dir
    read_whole none = unless (broken_in image v f) read none

    pub read_broken : (t : ℕ) → FindsBroken {T = Unit {0}} (Err (checks.Unreadable t)) (broken_in image v f) → part_in image v f ≡ Unreadable t
    read_broken t some = broken_at (broken_in image v f) t read some

    pub noted_dir : (slot : ℕ) (old new : List Unpacked) → IsReadIn image v f dir → Notes slot dir old new → NotesDir image v slot f old new
    noted_dir slot old new is (passes all same) = is_packed (packed_set image v f part.partitioned (λ readable. packed_of (directory_in image v f) (all (directory_in image v f) is.read))) same
    noted_dir slot old new is (lists u all in_slot packing pushed) =
        let readable : unreadable (part_in image v f) ≡ None = ap unreadable is.body in
        is_noted u
        (λ packed. let wrong : true ≡ false = sym (packed_is (directory_in image v f) (packed_blocks image v f part.partitioned packed readable)) ∙ all (directory_in image v f) is.read in cc)
        in_slot (record { part = part; readable = readable }) (record { dir = dir; is = packing; read = is }) pushed

    -- its library is kept, if it begins on a track
    pub held_library : (slot : ℕ) (start : Option ℕ) (old new : List Library) → slice_get v.slots.items slot ≡ Some (formats.F1 f) → start ≡ slice_get (owned_in image v f) 0 → IsReadIn image v f dir → Holds start dir old new → NotesLibrary image v slot f old new
    held_library slot start old new there begins is (holds_none same) = keeps_none same
    held_library slot start old new there begins is (holds_one all from) = by start begins from
      where
        by : (o : Option ℕ) → o ≡ slice_get (owned_in image v f) 0 → HoldsFrom o dir old new → NotesLibrary image v slot f old new
        by None first same = keeps_none same
        by (Some s) first held =
            keeps_one held.0
            (record {
              set = f;
              there = there;
              part = record { part = part; readable = ap unreadable is.body };
              start = sym first ∙ ap (λ (t : ℕ). Some t) (sym held.2);
              read = subst (IsReadIn image v f) (sym held.1) is;
            })
            (packed_set image v f part.partitioned (λ readable. packed_of (directory_in image v f) (all (directory_in image v f) is.read)))
            held.3

-- ---- what is always known of those that are noted

pub sound_noted : (slots : List Dscb) (slot : ℕ) (dir : Dir) (old new : List Unpacked) → is_some (name_at slots slot) ≡ true → Notes slot dir old new → AreSound slots old → AreSound slots new
sound_noted slots slot dir old new set (passes all same) sound = subst (AreSound slots) (sym same) sound
sound_noted slots slot dir old new set (lists u all in_slot packing pushed) sound = λ k x there. ⊎_elim
    (λ was. sound k x was)
    (λ now. subst (λ (y : Unpacked). (is_some (name_at slots y.slot) ≡ true) × IsSomePacking y.packing) now.1 (ap (λ (s : ℕ). is_some (name_at slots s)) in_slot ∙ set, (dir, packing)))
    (of_push old u k x (ap (λ (l : List Unpacked). slice_get l k) (sym pushed) ∙ there))

-- a slot that holds a format 1 has its name
pub named_slot : (items : List Dscb) (slot : ℕ) (f : F1) → slice_get items slot ≡ Some (formats.F1 f) → is_some (name_at items slot) ≡ true
named_slot items slot f there = ap (λ (o : Option Dscb). is_some (option_and_then (λ (d : Dscb). option_map (λ (x : F1). x.name) (set_in (Ok d))) o)) there

pub one_set : (items : List Dscb) (slot : ℕ) (f x : F1) → slice_get items slot ≡ Some (formats.F1 f) → slice_get items slot ≡ Some (formats.F1 x) → f ≡ x
one_set items slot f x one other = let both : Some (formats.F1 f) ≡ Some (formats.F1 x) = sym one ∙ other in cc

-- what is listed of a data set
pub entry_is : (image : List ℕ) (v : Vol) (f : F1) (k : Kind) → k ≡ kind_of (body_at image v f) → (record { bytes = f.name }, k) ≡ name_and_kind (set_by image v f)
unfolding data_set_of
entry_is image v f k is = ap (λ (x : Kind). as_entry (record { bytes = f.name }) x) is
  where
    as_entry : Dsn → Kind → Dsn × Kind
    as_entry d x = (d, x)
