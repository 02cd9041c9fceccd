-- What the change of a library leaves of its pack: where the library isn't taken, and where it is put back.
use Rattle.std.proofs.Common.{◌≡◌, ◌∙◌, ℕ, Bool, true, IsTrue, List, Some, refl, sym, ap, subst}
use Rattle.std.specs.Prelude.{IsErrOf, Result, Ok, Err, Vec, is_some, slice_get}
use Rattle.std.specs.declared.alloc.Global.{Global}
use Rattle.dscb_codec.specs.declared.Dscb.{Dscb}
use Rattle.dscb_codec.specs.declared.Dscb.TheVariants as formats
use Rattle.dscb_codec.specs.declared.F1.{F1}
use Rattle.ebcdic_names.specs.declared.names.Dsn.{Dsn}
use Rattle.free_rebuild.specs.Operations.{StoreCall}
use Rattle.free_rebuild.specs.Repairs.{image_named}
use Rattle.hall_core.specs.Facts.{Attached, Facts}
use Rattle.mount_repair.proofs.DeviceCalls.{reported_more, reported_none, unreported}
use Rattle.mount_repair.specs.declared.library.Library.{Library}
use Rattle.pack_spec.specs.Settled.{IsPacked}
use Rattle.pds_directory.specs.Directories.{IsLawfulDir, IsReadIn, IsReadablePart, directory_in}
use Rattle.pds_directory.specs.declared.dir.Dir.{Dir}
use Rattle.pds_directory.proofs.PackedSets.{packed_in}
use Rattle.pds_directory.proofs.PackedTests.{are_packed_of}
use Rattle.pds_directory.proofs.PackedTracks.{KeepsDirectories}
use Rattle.seq_access.proofs.SparedFiles.{on_ok}
use Rattle.seq_access.specs.declared.read_buf.Reach.TheVariants.{Nothing}
use Rattle.stop_model.specs.Files.{File}
use Rattle.stop_model.specs.Moments.{IsDurable, Meaning, Same}
use Rattle.stop_model.proofs.MomentLemmas.{CountsNow}
use Rattle.stow_ops.specs.Changes.{ChangesDir}
use Rattle.vol_model.specs.Shelf.{on_directory}
use Rattle.vol_model.specs.declared.answers.StoreErr.{StoreErr}
use Rattle.vol_model.specs.declared.answers.StoreErr.TheVariants as store
use Rattle.vol_model.specs.declared.contents.Entry.{Entry}
use Rattle.vol_model.specs.declared.contents.Volume.{Volume}
use Rattle.vol_model.specs.declared.refusals.Refusal.{Refusal}
use Rattle.vtoc_index.specs.Index.{IsOfUnit}
use Rattle.vtoc_index.specs.Names.{name_at}
use Rattle.vtoc_index.specs.declared.vol.Vol.{Vol}
use Rattle.vtoc_index.proofs.KeptLemmas.{mounted_of}
use Rattle.vtoc_sets.specs.Sets.{volume_in}
use Rattle.pack_machine.specs.Entries.{FailsOnDirectory, IsPutBack, TakesLibrary, answer_to}
use Rattle.pack_machine.specs.Known.{HoldLibraries}
use Rattle.pack_machine.specs.Libraries.{AreOthers, IsLibraryAt}
use Rattle.pack_machine.specs.Ready.{IsReady, Leaves, file_name}
use Rattle.pack_machine.specs.declared.pack.Pack.{Pack}
use Rattle.hall_core.specs.Images.{image_in}
use Rattle.pack_machine.proofs.DirectorySteps.{HasEntries}
use Rattle.pack_machine.proofs.EntryChanges.{refused_entries}
use Rattle.pack_machine.proofs.Following.{entries_after}
use Rattle.pack_machine.proofs.HeldEntries.{ChangesSet, set_changed, set_unread, still_set}
use Rattle.pack_machine.proofs.Leaving.{leaves_entries}
use Rattle.pack_machine.proofs.OneVolume.{same_pack}

-- an answer is a fault of the device where that of the change is
fault_of : {T : Type 0} (r : Result T StoreErr) (a : Result (Unit {0}) StoreErr) → a ≡ answer_to r → (IsErrOf a store.Device → IsErrOf r store.Device) × (IsErrOf r store.Device → IsErrOf a store.Device)
fault_of (Ok x) a is = (λ failed. absurd (let wrong : Ok tt ≡ Err store.Device = sym is ∙ failed in cc), λ failed. absurd cc)
fault_of (Err e) a is = (λ failed. let both : ◌≡◌ {A = Result (Unit {0}) StoreErr} (Err e) (Err store.Device) = sym is ∙ failed in let same : e ≡ store.Device = cc in ap (λ (x : StoreErr). Err x) same, λ failed. let same : e ≡ store.Device = cc in is ∙ ap (λ (x : StoreErr). Err x) same)

-- a slot that holds a format 1 has the name of a set
named_slot : (ds : List Dscb) (slot : ℕ) (f : F1) → slice_get ds slot ≡ Some (formats.F1 f) → is_some (name_at ds slot) ≡ true
named_slot ds slot f there = rw there refl

module _ (tells : Bool) (dsn : Dsn) (f0 : Facts) (m0 : Meaning (List File)) (p : Pack) (ready : IsReady tells f0 m0 p) (durable : IsTrue tells → IsDurable m0) where
  abbrev v : Vol
  v = p.vol

  abbrev name : List ℕ
  name = file_name f0 v

  abbrev image : List ℕ
  image = image_named m0.state name

  only_buffer : (w : Vol) → w ≡ v → w ≡ record v { buf = w.buf }
  only_buffer w is = is ∙ ap (λ b. record v { buf = b }) (sym (ap (λ (x : Vol). x.buf) is))

  -- there is no library to take
  pub fails_refused : CountsNow m0 → (p1 : Pack) → p1.vol ≡ v → p1.cache.libraries.items ≡ p.cache.libraries.items → p1.cache.unread ≡ p.cache.unread → p1.cache.buf.reach ≡ Nothing → (why : Refusal)
      → (IsTrue tells → (change : ℕ → List Entry → Result Volume Refusal) → on_directory dsn (volume_in image v) change ≡ Err why) → FailsOnDirectory tells dsn f0 f0 m0 m0 p p1 (store.Refused why)
  fails_refused counts p1 vol libraries unread reach why refused operation on =
      leaves_entries {T = Unit {0}} tells operation f0 f0 m0 m0 p p1 (Err (store.Refused why)) ready durable (same_pack v p1.vol (only_buffer p1.vol vol)) (subst (λ (w : Vol). IsOfUnit f0.units w) (sym vol) ready.unit)
      (reported_more f0 f0 f0 (unreported f0) (unreported f0) (λ failed. cc) (λ never. absurd never)) (only_buffer p1.vol vol)
      (λ told.
      let its = ready.image told in
      let mounted = mounted_of image v its.kept.kept in
      let change = on (volume_in image v) in
      subst (λ (w : Vol). ChangesSet {T = Unit {0}} name operation v w m0 m0 (Err (store.Refused why)) p1.cache.libraries.items) (sym vol) (record {
        files = refused_entries name operation v m0 counts (volume_in image v) mounted.volume why (change.1 ∙ refused told change.0);
        idle = λ kept e is differs. kept;
        libraries = λ sound. subst (HoldLibraries image v) (sym libraries) its.held.libraries;
      }))
      tt unread reach

  module _ (f1 : Facts) (m1 : Meaning (List File)) (same : IsTrue tells → Same m0 m1) where
    -- it isn't read
    pub fails_unread : (p1 : Pack) → p1.vol ≡ v → p1.cache.libraries.items ≡ p.cache.libraries.items → p1.cache.unread ≡ p.cache.unread → p1.cache.buf.reach ≡ Nothing → (set : F1) (e : StoreErr)
        → ((why : Refusal) → e ≡ store.Refused why → ⊥) → StoreCall {T = Library} f0 f1 (Err e) → FailsOnDirectory tells dsn f0 f1 m0 m1 p p1 e
    fails_unread p1 vol libraries unread reach set e unrefused faults operation on =
        let others : p1.vol ≡ record v { buf = p1.vol.buf } = only_buffer p1.vol vol in
        let unit = subst (λ (w : Vol). IsOfUnit f1.units w) (sym vol) (subst (λ (us : List Attached). IsOfUnit us v) (sym faults.units) ready.unit) in
        leaves_entries {T = Unit {0}} tells operation f0 f1 m0 m1 p p1 (Err e) ready durable (same_pack v p1.vol others) unit
        (reported_more f0 f0 f1 (unreported f0) faults (λ failed. let this : e ≡ store.Device = cc in ap (λ (x : StoreErr). Err x) this) (λ failed. let this : e ≡ store.Device = cc in ap (λ (x : StoreErr). Err x) this)) others
        (λ told. set_unread m0 m1 f0 f1 v p1.vol (same told) faults.units vol (durable told) (λ d. operation) dsn set (Unit {0}) (volume_in image v) (mounted_of image v (ready.image told).kept.kept).volume e unrefused p.cache.libraries.items p1.cache.libraries.items libraries (ready.image told).held.libraries)
        tt unread reach

    -- it is taken
    pub takes_library : (p1 : Pack) → p1.vol ≡ v → p1.cache.unread ≡ p.cache.unread → p1.cache.buf.reach ≡ Nothing → (set : F1) (slot : ℕ) → slice_get v.slots.items slot ≡ Some (formats.F1 set)
        → (IsTrue tells → (set.name ≡ dsn.bytes) × IsReadablePart image v set) → (l : Library) → (IsTrue tells → IsLibraryAt image v set l) → IsLawfulDir l.dir → AreOthers l.start p.cache.libraries.items p1.cache.libraries.items → StoreCall f0 f1 (Ok l) → TakesLibrary tells dsn f0 f1 m0 m1 p p1 slot l
    takes_library p1 vol unread reach set slot there part l library lawful others faults =
        let at : (f : F1) → slice_get p1.vol.slots.items slot ≡ Some (formats.F1 f) → (P : List ℕ → Vol → F1 → Type 0) → IsTrue tells → P image v set → P (image_in m1 f1 p1.vol.unit) p1.vol f = λ f is P told holds. still_set P m0 m1 f0 f1 v p1.vol slot set f (same told) faults.units vol there is holds in
        record {
          set = set;
          there = there;
          named = λ told. (part told).0;
          part = λ told. (part told).1;
          library = library;
          dir = record {
            unit = subst (λ (w : Vol). IsOfUnit f1.units w) (sym vol) (subst (λ (us : List Attached). IsOfUnit us v) (sym faults.units) ready.unit);
            set = named_slot p1.vol.slots.items slot set (ap (λ (w : Vol). slice_get w.slots.items slot) vol ∙ there);
            part = λ told f is. at f is IsReadablePart told (part told).1;
            packed = λ told f is.
                let its = ready.image told in
                let mounted = mounted_of image v its.kept.kept in
                let readable = (part told).1 in
                at f is (λ i w x. IsPacked (directory_in i w x)) told
                (packed_in image v (volume_in image v) mounted mounted.volume (are_packed_of image (volume_in image v) mounted.volume its.kept.packed) set slot there readable.part.partitioned readable.readable);
            lawful = lawful;
            read = λ told f is. at f is (λ i w x. IsReadIn i w x l.dir) told (library told).dir;
            durable = λ told files left. durable told files (((same told).left files).0 left) ∙ sym (same told).state;
          };
          others = others;
          unread = unread;
          reach = reach;
          vol = vol;
          same = same;
          faults = reported_none f0 f0 f1 (unreported f0) faults (λ failed. cc);
        }

    -- it is put back
    pub leaves_changed : (operation : Dsn → Volume → Result Volume Refusal) → ((d : Dsn) (w w' : Volume) → operation d w ≡ Ok w' → KeepsDirectories w w') → ((w w' : Volume) → operation dsn w ≡ Ok w' → HasEntries dsn w w')
        → (p1 p2 : Pack) (slot : ℕ) (l : Library) → TakesLibrary tells dsn f0 f1 m0 m1 p p1 slot l → (f2 : Facts) (m2 : Meaning (List File)) (dir : Dir) (r : Result (Vec Entry Global) StoreErr) → ChangesDir tells operation f1 f2 m1 m2 p1.vol p2.vol slot l.dir dir r
        → IsPutBack l.start dir p1.cache.libraries.items p2.cache.libraries.items → p2.cache.unread ≡ p1.cache.unread → p2.cache.buf ≡ p1.cache.buf → (answer : Result (Unit {0}) StoreErr) → answer ≡ answer_to r → Leaves tells (operation dsn) f0 f2 m0 m2 p p2 answer
    leaves_changed operation keeps has p1 p2 slot l taken f2 m2 dir r change put unread buf answer is =
        let others : p2.vol ≡ record v { buf = p2.vol.buf } = change.others ∙ ap (λ (w : Vol). record w { buf = p2.vol.buf }) taken.vol in
        let there : slice_get p1.vol.slots.items slot ≡ Some (formats.F1 taken.set) = ap (λ (w : Vol). slice_get w.slots.items slot) taken.vol ∙ taken.there in
        let fault = fault_of r answer is in
        leaves_entries {T = Unit {0}} tells (operation dsn) f0 f2 m0 m2 p p2 answer ready durable (same_pack v p2.vol others) change.unit (reported_more f0 f1 f2 taken.faults change.faults fault.0 fault.1) others
        (λ told. set_changed m0 m1 f0 f1 v p1.vol (taken.same told) taken.faults.units taken.vol (durable told) operation dsn taken.set m2 f2 p2.vol change.faults.units r change.others (change.files told taken.set there) (taken.named told) (taken.part told) (ready.image told).kept.packed
        keeps (change.packed told taken.set there) (change.mounted told) l.start (taken.library told).start l.dir dir (taken.library told).dir (change.read told taken.set there) change.stays
        p.cache.libraries.items p1.cache.libraries.items p2.cache.libraries.items (ready.image told).held.libraries taken.others put answer is)
        (on_ok answer (λ w w' done. entries_after dsn w w' (has w w' done) p.cache.unread.items)) (unread ∙ taken.unread) (ap (λ b. b.reach) buf ∙ taken.reach)
