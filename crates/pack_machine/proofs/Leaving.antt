-- What an operation on a pack leaves of it, by what it leaves of its index and of its image.
use Rattle.std.proofs.Common.{◌≡◌, ◌≢◌, ◌∙◌, ℕ, Bool, true, IsTrue, List, refl, sym, ap, subst}
use Rattle.std.specs.Prelude.{OnErr, OnOk, IsErrOf, Result, Ok, Err}
use Rattle.dadsm_ops.proofs.PlannedOperates.{operates_memory}
use Rattle.dadsm_ops.specs.Operations.{InVtoc}
use Rattle.free_rebuild.specs.Operations.{IsDone, Operates, StoreCall}
use Rattle.free_rebuild.specs.Repairs.{image_named}
use Rattle.hall_core.specs.Facts.{Attached, Facts, unit_of}
use Rattle.pds_directory.proofs.PackedTracks.{KeepsDirectories}
use Rattle.pds_directory.specs.Packed.{are_packed}
use Rattle.pack_spec.specs.Volume.{volume_by, volume_of}
use Rattle.ckd_image.specs.declared.header.Geometry.{Geometry}
use Rattle.dadsm_ops.specs.Allocating.{HasDirectory, InNewSet, new_tracks}
use Rattle.ebcdic_names.specs.declared.names.Dsn.{Dsn}
use Rattle.seq_access.specs.declared.read_buf.Reach.TheVariants.{Nothing}
use Rattle.vol_model.specs.Shelf.{allocate_on, step_on}
use Rattle.vol_model.specs.declared.contents.Attr.{Attr}
use Rattle.vol_model.specs.declared.requests.Request.{Request}
use Rattle.stop_model.specs.Files.{File}
use Rattle.stop_model.specs.Moments.{IsDurable, Meaning}
use Rattle.stop_model.proofs.MomentLemmas.{CountsNow, elapses_weaker, same_none}
use Rattle.vol_model.specs.Calls.{sound_after}
use Rattle.vol_model.specs.declared.answers.StoreErr.{StoreErr}
use Rattle.vol_model.specs.declared.answers.StoreErr.TheVariants as store
use Rattle.vol_model.specs.declared.contents.Volume.{Volume}
use Rattle.vol_model.specs.declared.requests.Op.{Op}
use Rattle.vol_model.specs.declared.refusals.Refusal.{Refusal}
use Rattle.vtoc_index.specs.Index.{IsOfUnit}
use Rattle.vtoc_index.specs.Kept.{IsKept}
use Rattle.vtoc_index.specs.declared.vol.Vol.{Vol}
use Rattle.vtoc_index.proofs.KeptLemmas.{mounted_of}
use Rattle.vtoc_sets.specs.Sets.{volume_in}
use Rattle.pack_machine.specs.Entries.{InDirectory}
use Rattle.pack_machine.specs.Known.{HoldLibraries, HoldsPack, ListsBroken}
use Rattle.mount_repair.specs.Sets.{IsRoomed}
use Rattle.pack_machine.specs.Ready.{Anyhow, IsOfImage, IsReady, IsSamePack, Leaves, file_name, reported}
use Rattle.pack_machine.specs.Standing.{DirectoriesStay, IsDirectoryAt}
use Rattle.pack_machine.proofs.Following.{allocate_after}
use Rattle.pack_machine.proofs.KnownLemmas.{nothing_held}
use Rattle.pack_machine.proofs.OneVolume.{IsInOrder, kept_idle, order_kept}
use Rattle.pack_machine.proofs.Operating.{leaves_pack}
use Rattle.pack_machine.proofs.PackedImages.{IsStillPacked, new_still, vtoc_still}
use Rattle.pack_machine.proofs.StayingDirectories.{volume_mounted, vtoc_stays}
use Rattle.pack_machine.proofs.StayingNewSets.{libraries_stay, new_directories_stay}
use Rattle.pack_machine.specs.NewSets.{first_track, without_first}
use Rattle.pack_machine.specs.declared.pack.Pack.{Pack}
use Rattle.pack_machine.specs.declared.pack_cache.PackCache.{PackCache}
use Rattle.seq_access.proofs.SparedFiles.{on_ok}
use Rattle.std.proofs.lemmas.Result.{on_ok_weaker}
use Rattle.pack_machine.proofs.HeldEntries.{ChangesSet}

-- an operation whose changes are of a kind, of any kind
module _ (name : List ℕ) (operation : Volume → Result Volume Refusal) (v : Vol) (Changes : List ℕ → List ℕ → Type 0) (m m' : Meaning (List File)) where
  done_anyhow : {T E : Type 0} (stepped : Result Volume Refusal) (r : Result T E) → OnOk r (IsDone name stepped v Changes m.state m') → OnOk r (IsDone name stepped v Anyhow m.state m')
  done_anyhow stepped (Ok x) done = record {
    after = done.after;
    step = done.step;
    stands = done.stands;
    index = done.index;
    durable = done.durable;
    changes = record { others = done.changes.others; image = tt };
  }
  done_anyhow stepped (Err e) done = tt

  pub anyhow : {T : Type 0} (r : Result T StoreErr) → Operates name operation v Changes m m' r → Operates name operation v Anyhow m m' r
  anyhow r run = record {
    does = record {
      volume = run.does.volume;
      before = run.does.before;
      done = done_anyhow (operation run.does.volume) r run.does.done;
      settled = run.does.settled;
      printed = run.does.printed;
      moments = elapses_weaker run.does.moments (λ files p left. (record { stands = left.0.stands; guarded = left.0.guarded; changes = record { others = left.0.changes.others; image = tt } }, left.1));
    };
    refused = run.refused;
    idle = run.idle;
    memory = run.memory;
  }

-- what holds where a call succeeds, or where it fails, holds in any case where it always does
pub on_err : {T E : Type 0} {P : Type 0} (r : Result T E) → P → OnErr r P
on_err (Ok x) is = tt
on_err (Err e) is = is

-- and so does what follows where it fails from a value that is as before
pub on_failed : {T E X Y : Type 0} (f : X → Y) (x y : X) (r : Result T E) → OnErr r (x ≡ y) → OnErr r (f x ≡ f y)
on_failed f x y (Ok a) is = tt
on_failed f x y (Err e) is = ap f is

pub still : {T E : Type 0} (P Q : Type 0) (r : Result T E) → OnOk r Q → OnOk r (P → Q)
still P Q (Ok x) is = λ was. is
still P Q (Err e) is = tt

-- the volume of an image is the same by each index of its pack
pub same_volume : (image : List ℕ) (v v' : Vol) → IsSamePack v v' → volume_in image v' ≡ volume_in image v
same_volume image v v' same = ap (λ (g : Geometry). volume_by image g v'.vtoc) same.geometry ∙ ap (volume_by image v.geometry) same.vtoc

module _ {T : Type 0} (tells : Bool) (operation : Volume → Result Volume Refusal) (f f' : Facts) (m m' : Meaning (List File)) (p p' : Pack) (r : Result T StoreErr)
    (ready : IsReady tells f m p) (durable : IsTrue tells → IsDurable m) (same : IsSamePack p.vol p'.vol) (unit : IsOfUnit f'.units p'.vol) (faults : StoreCall f f' r) where
  abbrev v : Vol
  v = p.vol

  abbrev v' : Vol
  v' = p'.vol

  abbrev b : PackCache
  b = p.cache

  abbrev b' : PackCache
  b' = p'.cache

  abbrev name : List ℕ
  name = file_name f v

  abbrev image : List ℕ
  image = image_named m.state name

  abbrev image' : List ℕ
  image' = image_named m'.state name

  abbrev IsSound : Type 0
  IsSound = sound_after (reported r) ≡ true

  -- what follows the volume where the operation is done follows it in any case
  abbrev Lists : Type 0
  Lists = (w w' : Volume) → operation w ≡ Ok w' → ListsBroken w b.unread.items → ListsBroken w' b'.unread.items

  abbrev IsListed : Type 0
  IsListed = ListsBroken (volume_in image' v') b'.unread.items

  unlisted : m'.state ≡ m.state → b'.unread.items ≡ b.unread.items → ListsBroken (volume_in image v) b.unread.items → IsListed
  unlisted state unread lists = subst (λ (fs : List File). ListsBroken (volume_in (image_named fs name) v') b'.unread.items) (sym state)
      (subst (λ (w : Volume). ListsBroken w b'.unread.items) (sym (same_volume image v v' same))
      (subst (ListsBroken (volume_in image v)) (sym unread) lists))

  listed : (C : List ℕ → List ℕ → Type 0) (a : Result T StoreErr) → Operates name operation v' C m m' a → OnOk a Lists → OnErr a (b'.unread.items ≡ b.unread.items) → IsOfImage image p → sound_after (reported a) ≡ true → IsListed
  listed C (Ok x) run lists stays of sound =
      let done = run.does.done in
      subst (λ (w : Volume). ListsBroken w b'.unread.items) (volume_mounted image' v' done.after done.stands done.index)
      (lists run.does.volume done.after done.step
      (subst (λ (w : Volume). ListsBroken w b.unread.items) (sym (volume_mounted image v run.does.volume run.does.before (mounted_of image v of.kept.kept))) of.lists))
  listed C (Err (store.Refused why)) run lists stays of sound = unlisted (run.idle why (run.refused why refl)).state stays of.lists
  listed C (Err store.Memory) run lists stays of sound = unlisted (run.memory refl).state stays of.lists
  listed C (Err store.Device) run lists stays of sound = absurd cc

  same_name : file_name f' v' ≡ name
  same_name = ap (λ (us : List Attached). (unit_of us v'.unit).name) faults.units ∙ ap (λ (n : ℕ). (unit_of f.units n).name) same.unit

  pub leaves : (C : List ℕ → List ℕ → Type 0) → (IsSound → IsInOrder v') → (IsTrue tells → Operates name operation v' C m m' r)
      → (IsTrue tells → IsKept image v → (e : StoreErr) → r ≡ Err e → e ≢ store.Device → IsKept image v') → (IsTrue tells → OnOk r (IsStillPacked image image'))
      → OnOk r Lists → OnErr r (b'.unread.items ≡ b.unread.items) → (IsTrue tells → IsSound → HoldsPack image' v' b')
      → Leaves tells operation f f' m m' p p' r
  leaves C names run idle still lists stays held = record {
    step = λ told. anyhow name operation v' C m m' r (run told);
    ready = λ sound. record {
      unit = unit;
      names = names sound;
      image = λ told. subst (λ (n : List ℕ). IsOfImage (image_named m'.state n) p') (sym same_name) (record {
        kept = (leaves_pack name operation v v' C m m' (ready.image told).kept (durable told) r (run told) (idle told) (still told) sound).here;
        lists = listed C r (run told) lists stays (ready.image told) sound;
        held = held told sound;
      });
    };
    durable = λ sound told. (leaves_pack name operation v v' C m m' (ready.image told).kept (durable told) r (run told) (idle told) (still told) sound).durable;
    unit = unit;
    pack = same;
    faults = faults;
  }

  unchanged : m'.state ≡ m.state → DirectoriesStay image image' (volume_in image v) (volume_in image' v')
  unchanged state = subst (λ (fs : List File). DirectoriesStay image (image_named fs name) (volume_in image v) (volume_in (image_named fs name) v')) (sym state)
      (λ start dir at. subst (λ (w : Volume). IsDirectoryAt image w start dir) (sym (same_volume image v v' same)) at)

  -- where nothing changed, or else by the operation, the directories stay where they are
  stay : (C : List ℕ → List ℕ → Type 0) (a : Result T StoreErr) → Operates name operation v' C m m' a → OnOk a (DirectoriesStay image image' (volume_in image v) (volume_in image' v')) → sound_after (reported a) ≡ true
      → DirectoriesStay image image' (volume_in image v) (volume_in image' v')
  stay C (Ok x) run done sound = done
  stay C (Err (store.Refused why)) run done sound = unchanged (run.idle why (run.refused why refl)).state
  stay C (Err store.Memory) run done sound = unchanged (run.memory refl).state
  stay C (Err store.Device) run done sound = absurd cc

  held_stay : DirectoriesStay image image' (volume_in image v) (volume_in image' v') → b'.buf.reach ≡ Nothing → b'.libraries.items ≡ b.libraries.items → HoldsPack image v b → HoldsPack image' v' b'
  held_stay stays reach libraries held = record {
    track = nothing_held image' b' reach;
    libraries = subst (HoldLibraries image' v') (sym libraries) (λ n l at. stays l.start l.dir (held.libraries n l at));
  }

  -- an operation that changes the VTOC alone, and keeps the directories where they are
  pub leaves_vtoc : OnOk r (IsInOrder v') → ((why : Refusal) → IsErrOf r (store.Refused why) → v' ≡ v) → (IsErrOf r store.Memory → IsRoomed v v')
      → ((w w' : Volume) → operation w ≡ Ok w' → KeepsDirectories w w') → (IsTrue tells → Operates name operation v' (InVtoc v') m m' r)
      → OnOk r Lists → OnErr r (b'.unread.items ≡ b.unread.items) → b'.buf.reach ≡ Nothing → b'.libraries.items ≡ b.libraries.items
      → Leaves tells operation f f' m m' p p' r
  leaves_vtoc names refused memory keeps run lists stays reach libraries =
      leaves (InVtoc v') (order_kept v v' r refused memory names ready.names) run (λ told. kept_idle v v' r refused memory image) (λ told. vtoc_still name m m' v' operation r keeps (run told)) lists stays
      (λ told sound. held_stay (stay (InVtoc v') r (run told) (vtoc_stays name m m' v v' operation r (mounted_of image v (ready.image told).kept.kept) keeps (run told)) sound) reach libraries (ready.image told).held)

  -- an operation that changes the entries of a directory alone
  pub leaves_entries : v' ≡ record v { buf = v'.buf } → (IsTrue tells → ChangesSet name operation v v' m m' r b'.libraries.items)
      → OnOk r ((w w' : Volume) → operation w ≡ Ok w' → ListsBroken w b.unread.items → ListsBroken w' b.unread.items) → b'.unread ≡ b.unread → b'.buf.reach ≡ Nothing → Leaves tells operation f f' m m' p p' r
  leaves_entries others changed lists unread reach =
      let known : b'.unread.items ≡ b.unread.items = ap (λ us. us.items) unread in
      leaves (InDirectory v) (λ sound. subst IsInOrder (sym others) ready.names) (λ told. (changed told).files.operates) (λ told. (changed told).idle) (λ told. still (are_packed image ≡ true) (are_packed image' ≡ true) r (changed told).files.packed)
      (on_ok_weaker r (λ (after : (w w' : Volume) → operation w ≡ Ok w' → ListsBroken w b.unread.items → ListsBroken w' b.unread.items) w w' done was. subst (ListsBroken w') (sym known) (after w w' done was)) lists) (on_err r known)
      (λ told sound. record { track = nothing_held image' b' reach; libraries = (changed told).libraries sound })

-- a new data set, where those libraries are forgotten that begin where it does
module _ {T : Type 0} (tells : Bool) (dsn : Dsn) (attr : Attr) (q : Request) (dir : ℕ) (f f' : Facts) (m m' : Meaning (List File)) (p p' : Pack) (r : Result T StoreErr)
    (ready : IsReady tells f m p) (durable : IsTrue tells → IsDurable m) (same : IsSamePack p.vol p'.vol) (unit : IsOfUnit f'.units p'.vol) (faults : StoreCall f f' r) where
  abbrev set_name : List ℕ
  set_name = file_name f p.vol

  abbrev before : List ℕ
  before = image_named m.state set_name

  abbrev after : List ℕ
  after = image_named m'.state set_name

  abbrev IsLeft : Result T StoreErr → Type 0
  IsLeft a = OnOk a (p'.cache.libraries.items ≡ without_first (first_track dsn.bytes (volume_in after p'.vol)) p.cache.libraries.items)

  holds : (a : Result T StoreErr) → Operates set_name (allocate_on dsn attr q dir) p'.vol (InNewSet q dir p'.vol) m m' a → IsLeft a → OnErr a (p'.cache.libraries.items ≡ p.cache.libraries.items) → p'.cache.buf.reach ≡ Nothing → IsOfImage before p
      → sound_after (reported a) ≡ true → HoldsPack after p'.vol p'.cache
  holds (Ok x) run left failed reach of sound = record {
    track = nothing_held after p'.cache reach;
    libraries = subst (HoldLibraries after p'.vol) (sym left)
        (libraries_stay (first_track dsn.bytes (volume_in after p'.vol)) before after p.vol p'.vol (new_directories_stay set_name dsn attr q dir p.vol p'.vol m m' (Ok x) (mounted_of before p.vol of.kept.kept) run.does) p.cache.libraries.items of.held.libraries);
  }
  holds (Err e) run left failed reach of sound =
      let op : Volume → Result Volume Refusal = allocate_on dsn attr q dir in
      held_stay tells op f f' m m' p p' r ready durable same unit faults (stay tells op f f' m m' p p' r ready durable same unit faults (InNewSet q dir p'.vol) (Err e) run tt sound) reach failed of.held

  pub leaves_new : OnOk r (IsInOrder p'.vol) → ((why : Refusal) → IsErrOf r (store.Refused why) → p'.vol ≡ p.vol) → (IsErrOf r store.Memory → IsRoomed p.vol p'.vol) → (IsTrue tells → Operates set_name (allocate_on dsn attr q dir) p'.vol (InNewSet q dir p'.vol) m m' r)
      → (IsTrue tells → OnOk r (HasDirectory after p'.vol.geometry (new_tracks q dir (volume_of before)) dir)) → (IsTrue tells → IsLeft r) → OnErr r (p'.cache.libraries.items ≡ p.cache.libraries.items) → p'.cache.buf.reach ≡ Nothing → p'.cache.unread.items ≡ p.cache.unread.items
      → Leaves tells (allocate_on dsn attr q dir) f f' m m' p p' r
  leaves_new names refused memory run directory left failed reach unread =
      leaves tells (allocate_on dsn attr q dir) f f' m m' p p' r ready durable same unit faults
      (InNewSet q dir p'.vol) (order_kept p.vol p'.vol r refused memory names ready.names) run (λ told. kept_idle p.vol p'.vol r refused memory before) (λ told. new_still set_name m m' p'.vol dsn attr q dir r (directory told) (run told))
      (on_ok r (λ w w' done lists. subst (ListsBroken w') (sym unread) (allocate_after dsn attr q dir w w' done p.cache.unread.items lists))) (on_err r unread)
      (λ told sound. holds r (run told) (left told) failed reach (ready.image told) sound)

-- memory ran out before anything was called
pub leaves_none : {T : Type 0} (tells : Bool) (operation : Volume → Result Volume Refusal) (f : Facts) (m : Meaning (List File)) (p : Pack) → IsReady tells f m p → (IsTrue tells → IsDurable m) → CountsNow m → StoreCall {T = T} f f (Err store.Memory) → Leaves {T = T} tells operation f f m m p p (Err store.Memory)
leaves_none tells operation f m p ready durable counts faults = record {
  step = λ told. operates_memory (file_name f p.vol) operation p.vol Anyhow m (volume_in (image_named m.state (file_name f p.vol)) p.vol) (mounted_of _ _ (ready.image told).kept.kept).volume (same_none m counts);
  ready = λ sound. ready;
  durable = λ sound. durable;
  unit = ready.unit;
  pack = record { unit = refl; serial = refl; geometry = refl; vtoc = refl; room = refl };
  faults = faults;
}

-- it is that of an operation that is another's
pub leaves_same : {T : Type 0} {tells : Bool} {f f' : Facts} {m m' : Meaning (List File)} {p p' : Pack} {r : Result T StoreErr} (op same : Op) → op ≡ same → Leaves tells (step_on same) f f' m m' p p' r → Leaves tells (step_on op) f f' m m' p p' r
leaves_same {T} {tells} {f} {f'} {m} {m'} {p} {p'} {r} op same is leaves = subst (λ (o : Op). Leaves tells (step_on o) f f' m m' p p' r) (sym is) leaves
