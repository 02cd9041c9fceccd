-- A writer that is closed on one of several packs: what it put becomes its set's, as one operation of their shelf.
use Rattle.std.proofs.Common.{◌≡◌, ◌≢◌, ◌⊎◌, ℕ, true, false, List, [], ◌∷◌, ◌++◌, set, Some, None, inl, refl, sym, ap, ◌∙◌, subst}
use Rattle.std.specs.Prelude.{OnOk, Result, Ok, slice_get}
use Rattle.free_rebuild.specs.Repairs.{image_named}
use Rattle.free_rebuild.proofs.SettledBool.{settled_true, settled_vtoc}
use Rattle.hall_core.specs.Facts.{Attached, Facts, unit_of}
use Rattle.stop_model.specs.Files.{File, file_of}
use Rattle.stop_model.specs.Moments.{Elapses, IsDurable, Meaning}
use Rattle.stop_model.specs.Steps.{seen}
use Rattle.stop_model.proofs.MomentLemmas.{CountsNow, OnlyNow, elapses_from_exactly, elapses_seen, elapses_weaker, leaves_now}
use Rattle.pack_spec.specs.Volume.{attr_of, volume_of}
use Rattle.vol_model.specs.Calls.{Keeps}
use Rattle.vol_model.specs.declared.answers.Mode.{Mode}
use Rattle.vol_model.specs.declared.answers.Mode.TheVariants as modes
use Rattle.vol_model.specs.declared.contents.Body.{Body}
use Rattle.vol_model.specs.declared.contents.Place.{Place}
use Rattle.vol_model.specs.declared.contents.Shelf.{Shelf}
use Rattle.vol_model.specs.declared.contents.Volume.{Volume}
use Rattle.vol_model.specs.declared.refusals.Refusal.{Refusal}
use Rattle.vol_model.specs.declared.requests.Op.{Op}
use Rattle.vol_model.specs.Places.{Content, end_of_file}
use Rattle.vol_model.specs.Shelf.{fits_mode, put_first, step, step_on, write_on, write_refusal, written}
use Rattle.vol_model.specs.Writing.{Target, blocks_for, set_on, target_body, writes}
use Rattle.vtoc_index.proofs.KeptLemmas.{kept_of}
use Rattle.vtoc_index.proofs.NameOrder.{same_names}
use Rattle.vtoc_index.specs.Names.{AreByName, name_at}
use Rattle.vtoc_index.specs.declared.vol.Vol.{Vol}
use Rattle.vtoc_sets.specs.Sets.{volume_in}
use Rattle.pds_directory.proofs.PackedTracks.{write_keeps}
use Rattle.dadsm_ops.proofs.FoundSets.{FoundSet, set_found}
use Rattle.seq_access.specs.Bodies.{body_of_set, last_in}
use Rattle.seq_access.specs.Writing.{AreSpared, Commits, HasSetBy, IsBeforeOrAfter, IsCommitted, IsLeftInCommit, IsWriting, has_put, puts_in}
use Rattle.seq_access.proofs.SparedCalls.{differ_none}
use Rattle.seq_access.proofs.SparedFiles.{on_ok}
use Rattle.seq_access.proofs.WritersKept.{set_by}
use Rattle.shelf_machine.specs.Committing.{CommitsOn}
use Rattle.shelf_machine.specs.Known.{AreHeld, ForgetsOn, KnowsBodies}
use Rattle.shelf_machine.specs.Machine.{AreIndexes, AreKept, KeepsSafe, shelf_under, units_of}
use Rattle.shelf_machine.specs.Opening.{names_of}
use Rattle.pack_machine.specs.Ready.{IsSamePack}
use Rattle.shelf_machine.specs.Pending.{IsInSlot, IsWriterOn, IsWritingBy, LeavesSpared, Settles, puts_on}
use Rattle.pack_machine.specs.Reads.{HasVolume, IsSetOn}
use Rattle.shelf_machine.specs.SparedShelves.{shelf_spared}
use Rattle.pack_machine.specs.Standing.{DirectoriesStay}
use Rattle.pack_machine.specs.declared.pack.Pack.{Pack}
use Rattle.pack_machine.specs.declared.pack_cache.PackCache.{PackCache}
use Rattle.shelf_machine.specs.ReadyPacks.{caches_of, vols_of}
use Rattle.shelf_machine.proofs.ReadyPacks.{caches_set, vols_set}
use Rattle.shelf_machine.specs.declared.writer.Writer.{Writer}
use Rattle.shelf_machine.proofs.EmptyFills.{may_fill, none_put, step_same}
use Rattle.shelf_machine.proofs.FilledBodies.{knows_written}
use Rattle.shelf_machine.proofs.ForgottenTracks.{held_forgot, held_still, knows_still, pack_still}
use Rattle.shelf_machine.proofs.Holding.{held_stand, kept_mounted, serials_apart, volume_held, volume_there, volumes_held}
use Rattle.pack_machine.proofs.ListPlaces.{get_map}
use Rattle.shelf_machine.proofs.Operating.{kept_after, name_there, names_same}
use Rattle.pack_machine.proofs.PackedBlocks.{committed_packed}
use Rattle.pack_machine.proofs.PackedImages.{image_packed, packed_image}
use Rattle.shelf_machine.proofs.Pendings.{writing_of}
use Rattle.shelf_machine.proofs.Promises.{keeps_safe_by, settled_guarded}
use Rattle.shelf_machine.proofs.PutAnswers.{puts_are}
use Rattle.shelf_machine.proofs.PutRooms.{body_is}
use Rattle.shelf_machine.proofs.ReadMachines.{both_same}
use Rattle.shelf_machine.proofs.Settling.{keeps_time}
use Rattle.pack_machine.proofs.ShelfReads.{is_set}
use Rattle.shelf_machine.proofs.ShelfSteps.{stands_after, stands_before_or_after}
use Rattle.pack_machine.proofs.StayingBlocks.{committed_stays}
use Rattle.pack_machine.proofs.WriteSteps.{step_written, to_set, write_keeps_serial, written_number}
use Rattle.std.proofs.lemmas.Result.{on_ok_weaker}

-- by the lists of packs of which one is set
pub commits_set : {E : Type 0} (packs : List Pack) (k : ℕ) (p : Pack) (op : Op) (names : List (List ℕ)) (attached : List Attached) (m m' : Meaning (List File)) (r : Result (Unit {0}) E)
    → CommitsOn op names (names_of attached (units_of (set (vols_of packs) k p.vol))) attached (vols_of packs) (set (vols_of packs) k p.vol) (set (caches_of packs) k p.cache) m m' r
    → CommitsOn op names (names_of attached (units_of (vols_of (set packs k p)))) attached (vols_of packs) (vols_of (set packs k p)) (caches_of (set packs k p)) m m' r
commits_set {E} packs k p op names attached m m' r commits =
    subst (λ (vs : List Vol). CommitsOn op names (names_of attached (units_of vs)) attached (vols_of packs) vs (caches_of (set packs k p)) m m' r) (sym (vols_set packs k p))
    (subst (λ (bs : List PackCache). CommitsOn op names (names_of attached (units_of (set (vols_of packs) k p.vol))) attached (vols_of packs) (set (vols_of packs) k p.vol) bs m m' r) (sym (caches_set packs k p)) commits)

-- and has its data sets in the order of their names, where these stay
pub order_same : (v v' : Vol) → v' ≡ record v { slots = v'.slots; buf = v'.buf } → ((k : ℕ) → name_at v'.slots.items k ≡ name_at v.slots.items k) → AreByName (name_at v.slots.items) v.by_name.items → AreByName (name_at v'.slots.items) v'.by_name.items
order_same v v' others same order =
    subst (AreByName (name_at v'.slots.items)) (sym (ap (λ (x : Vol). x.by_name.items) others)) (same_names (name_at v.slots.items) (name_at v'.slots.items) v.by_name.items (λ k. sym (same k)) order)

-- an end-of-file block is something
ends_some : (front cs : List Content) → front ++ cs ++ end_of_file ∷ [] ≡ [] → ⊥
ends_some [] [] is = cc
ends_some [] (c ∷ cs) is = cc
ends_some (c ∷ front) cs is = cc

-- where nothing is written it is no area, and no contents
only_fill : (mode : Mode) (body : Body) (cs : List Content) → written mode body cs ≡ [] → (mode ≡ modes.Fill) × (cs ≡ [])
only_fill modes.Fill body [] none = (refl, refl)
only_fill modes.Fill body (c ∷ cs) none = cc
only_fill modes.Area body cs none = absurd (ends_some (put_first modes.Area body) cs none)

module _ (old new : Facts) (vols : List Vol) (indexes : AreIndexes old.units vols) (m m' : Meaning (List File)) (counts : CountsNow m) (left : m.left m.state) (kept : AreKept m.state old.units vols)
    (w : Writer) (v : Vol) (at : slice_get vols w.v ≡ Some v) (slot : IsInSlot v w) (units : new.units ≡ old.units) (on : IsWriterOn (image_named m.state (unit_of old.units v.unit).name) v w)
    (spared : LeavesSpared (unit_of old.units v.unit).name m v w) (known known' : List PackCache) (forgot : ForgetsOn w.v known known') (held : AreHeld m.state old.units vols known)
    (knows : KnowsBodies (shelf_under (names_of old.units (units_of vols)) m.state) known) (cs : List Content) where
  abbrev name : List ℕ
  name = (unit_of old.units v.unit).name

  abbrev names : List (List ℕ)
  names = names_of old.units (units_of vols)

  abbrev image : List ℕ
  image = image_named m.state name

  abbrev shelf : Shelf
  shelf = shelf_under names m.state

  pub found : FoundSet w.dsn.bytes v.slots.items w.inner.slot
  found = set_found w.dsn.bytes v.slots.items w.inner.slot slot.0

  by : IsWritingBy image v found.f w.inner
  by = on.writing found.f found.set

  abbrev t : Target
  t = to_set w.v w.dsn w.mode

  abbrev op : Op
  op = writes t (blocks_for shelf t cs)

  volume_is : slice_get (volumes_held m.state old.units vols) w.v ≡ Some (volume_in image v)
  volume_is = get_map (volume_held m.state old.units) vols w.v v at

  -- by what it leaves of the shelf
  closed_on : {E : Type 0} (vols' : List Vol) (r : Result (Unit {0}) E) → names_of new.units (units_of vols') ≡ names → m'.printed ≡ m.printed
      → Elapses (seen (shelf_under names) m) (seen (shelf_under names) m') (λ s p. ((s ≡ shelf) ⊎ (step shelf op ≡ Ok s)) × (p ≡ m.printed)) → OnOk r (step shelf op ≡ Ok (shelf_under names m'.state))
      → Keeps m.clock (KeepsSafe names vols m) (KeepsSafe names vols' m') → OnOk r (AreKept m'.state new.units vols') → OnOk r (IsDurable m') → OnOk r (AreHeld m'.state new.units vols' known')
      → CommitsOn op names (names_of new.units (units_of vols')) new.units vols vols' known' m m' r
  closed_on {E} vols' r same printed moments stepped safe kept' durable held' =
      let run : CommitsOn op names names new.units vols vols' known' m m' r = record {
        stepped = stepped;
        printed = printed;
        moments = moments;
        safe = safe;
        kept = kept';
        durable = durable;
        held = held';
        bodies = on_ok_weaker r (λ is. knows_written w.v w.dsn w.mode (blocks_for shelf t cs) shelf (shelf_under names m'.state) known' is (knows_still w.v known known' forgot shelf knows)) stepped;
      } in
      subst (λ (ns : List (List ℕ)). CommitsOn op names ns new.units vols vols' known' m m' r) (sym same) run

  -- ---- blocks were put

  module _ (v' : Vol) (same : IsSamePack v v') {E : Type 0} (r : Result (Unit {0}) E) (commits : Commits name (volume_in image v) (write_on w.mode w.dsn cs (volume_in image v)) v' m.state m m' r)
      (only : OnlyNow m) (counts' : CountsNow m') (left' : m'.left m'.state) where
    -- the other files are as they were
    others_stay : (other : List ℕ) → other ≢ name → file_of m'.state other ≡ file_of m.state other
    others_stay = leaves_now {P = λ files p. (other : List ℕ) → other ≢ name → file_of files other ≡ file_of m.state other} only counts' (λ files now. (spared found.f found.set files now).others)
        (elapses_weaker commits.moments (λ files p stop. stop.0.others)) m'.state left'

    keeps_serial : (x after : Volume) → step_on op x ≡ Ok after → after.serial.bytes ≡ x.serial.bytes
    keeps_serial x after is = write_keeps_serial w.mode w.dsn cs x after (sym (step_written shelf w.v w.dsn w.mode cs x) ∙ is)

    stepped_is : write_on w.mode w.dsn cs (volume_in image v) ≡ step_on op (volume_in image v)
    stepped_is = sym (step_written shelf w.v w.dsn w.mode cs (volume_in image v))

    -- the shelf at a stop, and once it is done
    shelf_at : (files : List File) → IsLeftInCommit name (volume_in image v) (write_on w.mode w.dsn cs (volume_in image v)) m.state files → (shelf_under names files ≡ shelf) ⊎ (step shelf op ≡ Ok (shelf_under names files))
    shelf_at files stop =
        let mounted = kept_mounted m.state old.units vols kept in
        stands_before_or_after names (volumes_held m.state old.units vols) m m' (held_stand m.state old.units vols mounted) indexes.names (serials_apart m.state old.units vols mounted indexes.serials) w.v name (name_there old.units vols w.v v at)
        op (written_number w.v w.dsn w.mode (blocks_for shelf t cs)) keeps_serial v (λ before after. Unit {0}) (volume_in image v) volume_is files stop.others
        (subst (λ (s : Result Volume Refusal). IsBeforeOrAfter (volume_in image v) s (image_named files name)) stepped_is stop.stands)

    shelf_done : IsCommitted name (write_on w.mode w.dsn cs (volume_in image v)) v' m.state m' → step shelf op ≡ Ok (shelf_under names m'.state)
    shelf_done done =
        let mounted = kept_mounted m.state old.units vols kept in
        stands_after names (volumes_held m.state old.units vols) m m' (held_stand m.state old.units vols mounted) indexes.names (serials_apart m.state old.units vols mounted indexes.serials) w.v name (name_there old.units vols w.v v at)
        op (written_number w.v w.dsn w.mode (blocks_for shelf t cs)) keeps_serial v (λ before after. Unit {0}) (volume_in image v) done.after volume_is m'.state others_stay (sym stepped_is ∙ done.step) done.stands

    directories_stay : IsCommitted name (write_on w.mode w.dsn cs (volume_in image v)) v' m.state m' → DirectoriesStay image (image_named m'.state name) (volume_in image v) (volume_in (image_named m'.state name) v')
    directories_stay =
        committed_stays name (write_on w.mode w.dsn cs (volume_in image v)) v' m.state m' (volume_in image v) (kept_mounted m.state old.units vols kept w.v v at).volume
        (λ after is. write_keeps w.mode w.dsn cs (volume_in image v) after is)

    held_now : IsCommitted name (write_on w.mode w.dsn cs (volume_in image v)) v' m.state m' → AreHeld m'.state new.units (set vols w.v v') known'
    held_now done = subst (λ (us : List Attached). AreHeld m'.state us (set vols w.v v') known') (sym units)
        (held_still m.state m'.state old.units vols known known' w.v v v' at indexes.names same.unit others_stay forgot.others
        (pack_still image (image_named m'.state name) v v' known known' w.v forgot (directories_stay done) (λ a is. held w.v v a at is)) held)

    kept_now : IsCommitted name (write_on w.mode w.dsn cs (volume_in image v)) v' m.state m' → AreKept m'.state new.units (set vols w.v v')
    kept_now done = kept_after old new vols w.v v v' at same units m.state m'.state indexes kept others_stay (record {
      kept = kept_of (image_named m'.state name) v' done.index;
      settled = settled_true (image_named m'.state name) (done.settled (settled_vtoc image (kept w.v v at).settled));
      packed = image_packed (image_named m'.state name)
          (committed_packed name (write_on w.mode w.dsn cs (volume_in image v)) v' m.state m' (volume_in image v) (kept_mounted m.state old.units vols kept w.v v at).volume
          (λ after is. write_keeps w.mode w.dsn cs (volume_in image v) after is) done (packed_image image (kept w.v v at).packed));
    })

    pub committed_on : CommitsOn op names (names_of new.units (units_of (set vols w.v v'))) new.units vols (set vols w.v v') known' m m' r
    committed_on = closed_on (set vols w.v v') r (names_same old new vols w.v v v' at same units) commits.printed
        (elapses_seen (shelf_under names) (elapses_weaker commits.moments (λ files p stop. (shelf_at files stop.0, stop.1))))
        (on_ok_weaker r shelf_done commits.done)
        (keeps_safe_by names vols indexes.names w.v name (name_there old.units vols w.v v at) v v' at same.geometry same.vtoc
        (IsLeftInCommit name (volume_in image v) (write_on w.mode w.dsn cs (volume_in image v)) m.state) m m' counts left commits.moments
        (λ files stop. stop.guarded (settled_guarded image (settled_vtoc image (kept w.v v at).settled))) (λ files stop. stop.others))
        (on_ok_weaker r kept_now commits.done) (on_ok_weaker r (λ done. done.durable) commits.done) (on_ok_weaker r held_now commits.done)

  abbrev last : Place
  last = last_in image v found.f

  abbrev has : HasVolume shelf w.v v
  has = record {
    image = image;
    mounted = kept_mounted m.state old.units vols kept w.v v at;
    there = volume_there m.state old.units vols (kept_mounted m.state old.units vols kept) indexes.serials w.v v at;
  }

  abbrev set_there : IsSetOn image v (set_on shelf w.v w.dsn.bytes) (Some found.f)
  set_there = is_set shelf w.v v has w.dsn.bytes w.inner.slot found.f slot.0 found.set

  -- all that was placed is what is to be written
  module _ (all : puts_on m.state old.units vols w ≡ written w.mode (target_body shelf t) cs) where
    all_here : puts_in image v found.f w.inner ≡ written w.mode (body_of_set image v found.f) cs
    all_here =
        sym (puts_are m.state old.units vols w v found.f at found.set) ∙ all
        ∙ ap (λ (b : Body). written w.mode b cs) (body_is shelf w.v v has w.dsn found.f set_there)

    -- by the clause of the writer's commit
    pub commits_by : {E : Type 0} (v' : Vol) (r : Result (Unit {0}) E)
        → ((is : IsWriting image v w.inner) (before : List File) (volume : Volume) → HasSetBy (image_named before name) v is.f → volume_of (image_named before name) ≡ Ok volume
        → ((files : List File) → m.left files → AreSpared name v is.f (last_in image v is.f) before files) → AreSpared name v is.f (last_in image v is.f) before m.state
        → (mode : Mode) (cs : List Content) → fits_mode mode is.f.name (attr_of is.f) ≡ true → written mode (body_of_set image v is.f) cs ≡ puts_in image v is.f w.inner
        → Commits name volume (write_on mode (record { bytes = is.f.name }) cs volume) v' before m m' r)
        → Commits name (volume_in image v) (write_on w.mode w.dsn cs (volume_in image v)) v' m.state m m' r
    commits_by v' r run =
        let mounted = kept_mounted m.state old.units vols kept w.v v at in
        let set_here : HasSetBy image v found.f = set_by image v (record (v.buf) { records = [] }) found.f (record { mounted = mounted; extents = by.extents }) refl in
        let none : AreSpared name v found.f last m.state m.state = record { image = differ_none v found.f last image; others = λ other apart. refl } in
        subst (λ (name_bytes : List ℕ). Commits name (volume_in image v) (write_on w.mode (record { bytes = name_bytes }) cs (volume_in image v)) v' m.state m m' r) found.named
        (run (writing_of image v found.f w.inner (kept w.v v at).kept found.set by) m.state (volume_in image v) set_here mounted.volume (spared found.f found.set) none w.mode cs (on.fits found.f found.set) (sym all_here))

    -- ---- none was put, and all is made durable

    pub synced_on : {E : Type 0} (r : Result (Unit {0}) E) → Settles m m' r → has_put w.inner ≡ false → CommitsOn op names (names_of new.units (units_of vols)) new.units vols vols known' m m' r
    synced_on {E} r s none = closed_on vols r (ap (λ (us : List Attached). names_of us (units_of vols)) units) s.printed
        (elapses_seen (shelf_under names) (elapses_from_exactly s.time (λ files p now. (inl (stays files now.0), now.1))))
        (on_ok r (same_step ∙ ap (λ (fs : List File). Ok (shelf_under names fs)) (sym s.state)))
        (keeps_time counts s.time)
        (on_ok r (both_same (λ (fs : List File) (us : List Attached). AreKept fs us vols) s.state units kept))
        s.done
        (on_ok r (subst (λ (us : List Attached). AreHeld m'.state us vols known') (sym units) held_here))
      where
        stays : (files : List File) → m.left files → shelf_under names files ≡ shelf
        stays files now = shelf_spared name m.state v found.f w.inner.slot found.set (kept w.v v at).kept by.extents last (by.writable, refl) files (spared found.f found.set files now) names

        nothing : written w.mode (body_of_set image v found.f) cs ≡ []
        nothing = sym all_here ∙ none_put image v found.f w.inner by none

        -- so it is a fill of no blocks
        same_step : step shelf op ≡ Ok shelf
        same_step =
            let is = only_fill w.mode (body_of_set image v found.f) cs nothing in
            let well : write_refusal modes.Fill w.dsn (volume_in image v) ≡ None = may_fill shelf w.v v has w.dsn found.f set_there modes.Fill (subst (λ (mode : Mode). fits_mode mode found.f.name (attr_of found.f) ≡ true) is.0 (on.fits found.f found.set)) by.writable in
            ap (λ (mode : Mode). step shelf (writes (to_set w.v w.dsn mode) (blocks_for shelf (to_set w.v w.dsn mode) cs))) is.0
            ∙ ap (λ (l : List Content). step shelf (writes (to_set w.v w.dsn modes.Fill) (blocks_for shelf (to_set w.v w.dsn modes.Fill) l))) is.1
            ∙ step_same shelf w.v w.dsn (volume_in image v) has.there well

        held_here : AreHeld m'.state old.units vols known'
        held_here = subst (λ (fs : List File). AreHeld fs old.units vols known') (sym s.state) (held_forgot m.state old.units vols w.v known known' forgot held)
