-- The libraries that are held of a pack after a change of the entries of one of them.
use Rattle.std.proofs.Common.{◌≡◌, ◌≢◌, ⊎_elim, inl, inr, ℕ, zero, suc, Bool, true, false, cond, List, [], ◌∷◌, Some, refl, sym, ap, ◌∙◌, subst}
use Rattle.std.specs.Prelude.{◌==◌, not, filter, IsErrOf, OnErr, OnOk, Result, Ok, Err, slice_get}
use Rattle.std.proofs.lemmas.Bool.{eq-eqb}
use Rattle.dscb_codec.specs.declared.Dscb.TheVariants as formats
use Rattle.dscb_codec.specs.declared.F1.{F1}
use Rattle.ebcdic_names.specs.declared.names.Dsn.{Dsn}
use Rattle.free_rebuild.specs.Operations.{IsDone, Operates}
use Rattle.free_rebuild.specs.Repairs.{image_named}
use Rattle.hall_core.specs.Facts.{Attached, Facts, unit_of}
use Rattle.mount_repair.proofs.Lists.{of_push}
use Rattle.pack_spec.specs.declared.slot.VtocSlot.{VtocSlot}
use Rattle.pack_spec.specs.Rules.{has_extents}
use Rattle.pack_spec.specs.Settled.{IsPacked}
use Rattle.pack_spec.specs.Volume.{volume_of}
use Rattle.pds_directory.specs.declared.dir.Dir.{Dir}
use Rattle.pds_directory.specs.Directories.{IsReadIn, IsReadablePart, directory_in, owned_in}
use Rattle.pds_directory.specs.Packed.{are_packed}
use Rattle.pds_directory.proofs.PackedTracks.{KeepsDirectories}
use Rattle.stop_model.specs.Files.{File}
use Rattle.stop_model.specs.Moments.{IsDurable, Meaning, Same}
use Rattle.stow_ops.specs.Stores.{DifferOn, directory_tracks}
use Rattle.stow_ops.proofs.DirectoryImages.{DifferOnOwned, same_owned, slots_kept}
use Rattle.stow_ops.proofs.WrittenDirectories.{on_owned}
use Rattle.vol_model.specs.Calls.{sound_after}
use Rattle.vol_model.specs.Shelf.{unreadable}
use Rattle.vol_model.specs.declared.answers.StoreErr.{StoreErr}
use Rattle.vol_model.specs.declared.answers.StoreErr.TheVariants as store
use Rattle.vol_model.specs.declared.contents.Volume.{Volume}
use Rattle.vol_model.specs.declared.refusals.Refusal.{Refusal}
use Rattle.vtoc_index.specs.Index.{IsMounted}
use Rattle.vtoc_index.specs.Kept.{IsKept}
use Rattle.vtoc_index.specs.declared.vol.Vol.{Vol}
use Rattle.vtoc_sets.specs.Sets.{volume_in}
use Rattle.pack_machine.specs.Entries.{ChangesEntries, IsPutBack, answer_to}
use Rattle.pack_machine.specs.Known.{HoldLibraries}
use Rattle.pack_machine.specs.Libraries.{AreOthers, IsKeptBehind}
use Rattle.pack_machine.specs.Ready.{reported}
use Rattle.pack_machine.specs.Standing.{IsDirectoryAt}
use Rattle.mount_repair.specs.declared.library.Library.{Library}
use Rattle.pack_machine.proofs.EntryChanges.{changes_entries, entries_answered, entries_idle, entries_later, entries_unread, error_answered, sound_answered}
use Rattle.pack_machine.proofs.StandingDirectories.{directory_read}
use Rattle.pack_machine.proofs.StayingEntries.{operation_stays}
use Rattle.pack_machine.proofs.StillPacks.{stays}
use Rattle.hall_core.specs.Images.{image_in}

-- an element that is kept is one of the list, and passes the test
pub of_filter : {X : Type 0} (p : X → Bool) (xs : List X) (k : ℕ) (x : X) → slice_get (filter p xs) k ≡ Some x → (j : ℕ) × (slice_get xs j ≡ Some x) × (p x ≡ true)
of_filter p [] k x at = absurd cc
of_filter {X} p (y ∷ xs) k x at = by (p y) refl (λ n there. of_filter p xs n x there) k at
  where
    by : (b : Bool) → p y ≡ b → ((n : ℕ) → slice_get (filter p xs) n ≡ Some x → (j : ℕ) × (slice_get xs j ≡ Some x) × (p x ≡ true)) → (n : ℕ) → slice_get (cond b (y ∷ filter p xs) (filter p xs)) n ≡ Some x
        → (j : ℕ) × (slice_get (y ∷ xs) j ≡ Some x) × (p x ≡ true)
    by true is more zero there = let same : y ≡ x = cc in (0, there, ap p (sym same) ∙ is)
    by true is more (suc n) there = let rest = more n there in (suc rest.0, rest.1, rest.2)
    by false is more n there = let rest = more n there in (suc rest.0, rest.1, rest.2)

-- those of another data set
other_start : (start : ℕ) (old others : List Library) → AreOthers start old others → (n : ℕ) (l : Library) → slice_get others n ≡ Some l → (j : ℕ) × (slice_get old j ≡ Some l) × (l.start ≢ start)
other_start start old others left n l there =
    let was = of_filter (λ (x : Library). not (x.start == start)) old n l (ap (λ (ls : List Library). slice_get ls n) (sym left) ∙ there) in
    (was.0, was.1, λ same. contradicts (l.start == start) (eq-eqb l.start start same) was.2)
  where
    contradicts : (b : Bool) → b ≡ true → not b ≡ true → ⊥
    contradicts true is other = cc
    contradicts false is other = cc

module _ {T : Type 0} (name : List ℕ) (operation : Volume → Result Volume Refusal) (v v' : Vol) (same : v' ≡ record v { buf = v'.buf }) (f : F1) (m m' : Meaning (List File)) (r : Result T StoreErr)
    (part : IsReadablePart (image_named m.state name) v f) (keeps : (w w' : Volume) → operation w ≡ Ok w' → KeepsDirectories w w') (run : Operates name operation v' (DifferOn v.geometry (directory_tracks (image_named m.state name) v f)) m m' r)
    (start : ℕ) (first : slice_get (owned_in (image_named m.state name) v f) 0 ≡ Some start) (dir dir' : Dir) (was : IsReadIn (image_named m.state name) v f dir) (now : OnOk r (IsReadIn (image_named m'.state name) v' f dir')) (stays : OnErr r (dir' ≡ dir)) where
  abbrev image : List ℕ
  image = image_named m.state name

  abbrev image' : List ℕ
  image' = image_named m'.state name

  abbrev Stays : ℕ → Dir → Type 0
  Stays s d = IsDirectoryAt image (volume_in image v) s d → IsDirectoryAt image' (volume_in image' v') s d

  unchanged : m'.state ≡ m.state → (s : ℕ) (d : Dir) → Stays s d
  unchanged state s d at =
      subst (λ (fs : List File). IsDirectoryAt (image_named fs name) (volume_in (image_named fs name) v') s d) (sym state)
      (subst (λ (w : Vol). IsDirectoryAt image (volume_in image w) s d) (sym same) at)

  -- those of the other data sets stay
  others_stay : (a : Result T StoreErr) → Operates name operation v' (DifferOn v.geometry (directory_tracks image v f)) m m' a → sound_after (reported a) ≡ true → (s : ℕ) (d : Dir) → s ≢ start → Stays s d
  others_stay (Ok x) does sound s d apart = operation_stays name operation v v' same f m m' (Ok x) part.part keeps does.does s d (λ is. apart (let both : Some s ≡ Some start = sym is ∙ first in cc))
  others_stay (Err (store.Refused why)) does sound s d apart = unchanged (does.idle why (does.refused why refl)).state s d
  others_stay (Err store.Memory) does sound s d apart = unchanged (does.memory refl).state s d
  others_stay (Err store.Device) does sound s d apart = absurd cc

  abbrev with_buffer : Vol
  with_buffer = record v { buf = v'.buf }

  -- the data set that is changed, on the image after it
  module _ (volume : Volume) (done : IsDone name (operation volume) v' (DifferOn v.geometry (directory_tracks image v f)) m.state m') where
    differ : DifferOnOwned v f image image'
    differ = on_owned v f image image' done.changes.image

    readable : IsReadIn image' with_buffer f dir' → IsReadablePart image' with_buffer f
    readable read = record {
      part = record {
        set = record {
          mounted = subst (IsMounted image') same done.index;
          extents = ap (λ (ss : List VtocSlot). has_extents v.geometry ss f) (slots_kept image image' v f part.part differ) ∙ part.part.set.extents;
        };
        slot = part.part.slot;
        dscb = part.part.dscb;
        partitioned = part.part.partitioned;
      };
      readable = ap unreadable read.body;
    }

    own_stays : IsReadIn image' v' f dir' → IsDirectoryAt image' (volume_in image' v') start dir'
    own_stays read =
        let read' : IsReadIn image' with_buffer f dir' = subst (λ (w : Vol). IsReadIn image' w f dir') same read in
        subst (λ (w : Vol). IsDirectoryAt image' (volume_in image' w) start dir') (sym same)
        (directory_read image' with_buffer f (readable read') start dir' (ap (λ (ts : List ℕ). slice_get ts 0) (same_owned image image' v f part.part differ f) ∙ first) read')

  -- where nothing changed
  own_unchanged : m'.state ≡ m.state → dir' ≡ dir → IsDirectoryAt image' (volume_in image' v') start dir'
  own_unchanged state is = subst (λ (d : Dir). IsDirectoryAt image' (volume_in image' v') start d) (sym is) (unchanged state start dir (directory_read image v f part start dir first was))

  -- and the one that is changed is that of its data set still
  mine : (a : Result T StoreErr) → (does : Operates name operation v' (DifferOn v.geometry (directory_tracks image v f)) m m' a) → OnOk a (IsReadIn image' v' f dir') → OnErr a (dir' ≡ dir) → sound_after (reported a) ≡ true
      → IsDirectoryAt image' (volume_in image' v') start dir'
  mine (Ok x) does read left sound = own_stays does.does.volume does.does.done read
  mine (Err (store.Refused why)) does read left sound = own_unchanged (does.idle why (does.refused why refl)).state left
  mine (Err store.Memory) does read left sound = own_unchanged (does.memory refl).state left
  mine (Err store.Device) does read left sound = absurd cc

  pub libraries_put : (old others new : List Library) → sound_after (reported r) ≡ true → HoldLibraries image v old → AreOthers start old others → IsPutBack start dir' others new → HoldLibraries image' v' new
  libraries_put old others new sound held left put = ⊎_elim
      (λ back. subst (HoldLibraries image' v') (sym back.3) (λ n l at. ⊎_elim (λ there. left_there n l there)
      (λ last. subst (λ (x : Library). IsDirectoryAt image' (volume_in image' v') x.start x.dir) last.1
      (subst (λ (s : ℕ). IsDirectoryAt image' (volume_in image' v') s back.0.dir) (sym back.1)
      (subst (λ (d : Dir). IsDirectoryAt image' (volume_in image' v') start d) (sym back.2) (mine r run now stays sound))))
      (of_push others back.0 n l at)))
      (λ none. subst (HoldLibraries image' v') (sym none) left_there)
      put
    where
      left_there : HoldLibraries image' v' others
      left_there n l there =
          let one = other_start start old others left n l there in
          others_stay r run sound l.start l.dir one.2 (held one.0 l one.1)

-- the library is put back
pub put_behind : (start : ℕ) (dir : Dir) (l : Library) (old new : List Library) → l.start ≡ start → l.dir ≡ dir → IsKeptBehind l old new → IsPutBack start dir old new
put_behind start dir l old new begins is behind = ⊎_elim (λ put. inl (l, begins, is, put)) (λ none. inr none) behind

-- one slot has one format 1
pub one_f1 : (v v' : Vol) (slot : ℕ) (f f' : F1) → v' ≡ v → slice_get v.slots.items slot ≡ Some (formats.F1 f) → slice_get v'.slots.items slot ≡ Some (formats.F1 f') → f ≡ f'
one_f1 v v' slot f f' same there there' = let both : Some (formats.F1 f) ≡ Some (formats.F1 f') = sym there ∙ ap (λ (w : Vol). slice_get w.slots.items slot) (sym same) ∙ there' in cc

-- ---- what a call leaves that takes the library, changes its directory and puts it back

-- what holds of the data set in a slot holds after a call that left the image and the index
pub still_set : (P : List ℕ → Vol → F1 → Type 0) (m mid : Meaning (List File)) (f0 f1 : Facts) (v v1 : Vol) (slot : ℕ) (set f : F1) → Same m mid → f1.units ≡ f0.units → v1 ≡ v → slice_get v.slots.items slot ≡ Some (formats.F1 set) → slice_get v1.slots.items slot ≡ Some (formats.F1 f)
    → P (image_in m f0 v.unit) v set → P (image_in mid f1 v1.unit) v1 f
still_set P m mid f0 f1 v v1 slot set f same units is at there holds =
    subst (P (image_in mid f1 v1.unit) v1) (one_f1 v v1 slot set f is at there) (stays m mid f0 f1 v v1 same.state units is (λ (i : List ℕ) (w : Vol). P i w set) holds)

-- A change of the entries of a data set of an index leaves this: of the image that was there before, and of the libraries.
pub record ChangesSet {T : Type 0} (name : List ℕ) (operation : Volume → Result Volume Refusal) (v v' : Vol) (m m' : Meaning (List File)) (result : Result T StoreErr) (held : List Library) : Type 0 where
  pub files : ChangesEntries name operation v v' m m' result
  pub idle : IsKept (image_named m.state name) v → (e : StoreErr) → result ≡ Err e → e ≢ store.Device → IsKept (image_named m.state name) v'
  pub libraries : sound_after (reported result) ≡ true → HoldLibraries (image_named m'.state name) v' held

no_device : {T : Type 0} (r : Result T StoreErr) (e : StoreErr) → r ≡ Err e → (e ≡ store.Device → ⊥) → IsErrOf r store.Device → ⊥
no_device (Err x) e is differs device = let this : x ≡ e = cc in let that : x ≡ store.Device = cc in differs (sym this ∙ that)
no_device (Ok x) e is differs device = absurd cc

module _ (m mid : Meaning (List File)) (f0 f1 : Facts) (v v1 : Vol) (same : Same m mid) (units : f1.units ≡ f0.units) (is : v1 ≡ v) (durable : IsDurable m) (operation : Dsn → Volume → Result Volume Refusal) (dsn : Dsn) (f : F1) where
  abbrev its_name : List ℕ
  its_name = (unit_of f0.units v.unit).name

  abbrev its_image : List ℕ
  its_image = image_named m.state its_name

  -- the library wasn't read
  pub set_unread : (T : Type 0) (volume : Volume) → volume_of its_image ≡ Ok volume → (e : StoreErr) → ((why : Refusal) → e ≡ store.Refused why → ⊥) → (old new : List Library) → new ≡ old → HoldLibraries its_image v old
      → ChangesSet {T = T} its_name (operation dsn) v v1 m mid (Err e) new
  set_unread T volume stands e unrefused old new stay held = record {
    files = entries_unread m mid f0 f1 v v1 same units is durable (operation dsn) f T volume stands e unrefused;
    idle = λ kept d error differs. subst (IsKept its_image) (sym is) kept;
    libraries = λ sound. subst (HoldLibraries (image_named mid.state its_name) v1) (sym stay)
        (subst (λ (fs : List File). HoldLibraries (image_named fs its_name) v1 old) (sym same.state) (subst (λ (w : Vol). HoldLibraries its_image w old) (sym is) held));
  }

  module _ {T : Type 0} (m' : Meaning (List File)) (f2 : Facts) (v' : Vol) (units' : f2.units ≡ f1.units) (r : Result T StoreErr) (others : v' ≡ record v1 { buf = v'.buf })
      (run : Operates (unit_of f1.units v1.unit).name (operation (record { bytes = f.name })) v' (DifferOn v1.geometry (directory_tracks (image_named mid.state (unit_of f1.units v1.unit).name) v1 f)) mid m' r)
      (named : f.name ≡ dsn.bytes) (part : IsReadablePart its_image v f) (was_packed : are_packed its_image ≡ true) (keeps : (d : Dsn) (w w' : Volume) → operation d w ≡ Ok w' → KeepsDirectories w w') where
    abbrev now_image : List ℕ
    now_image = image_named m'.state (unit_of f2.units v1.unit).name

    abbrev image_after : List ℕ
    image_after = image_named m'.state its_name

    same_image : now_image ≡ image_after
    same_image = ap (λ (us : List Attached). image_named m'.state (unit_of us v1.unit).name) (units' ∙ units) ∙ ap (λ (w : Vol). image_named m'.state (unit_of f0.units w.unit).name) is

    others_before : v' ≡ record v { buf = v'.buf }
    others_before = others ∙ ap (λ (w : Vol). record w { buf = v'.buf }) is

    abbrev its_operation : Volume → Result Volume Refusal
    its_operation = operation (record { bytes = f.name })

    run_before : Operates its_name its_operation v' (DifferOn v.geometry (directory_tracks its_image v f)) m m' r
    run_before = entries_later m mid f0 f1 v v1 same units is durable its_operation f v' m' r run

    one_set : ◌≡◌ {A = Dsn} (record { bytes = f.name }) dsn
    one_set = ap (λ (n : List ℕ). let d : Dsn = record { bytes = n } in d) named

    pub set_changed : OnOk r (IsPacked (directory_in now_image v' f)) → ((IsErrOf r store.Device → ⊥) → IsMounted now_image v') → (start : ℕ) → slice_get (owned_in its_image v f) 0 ≡ Some start → (dir dir' : Dir) → IsReadIn its_image v f dir
        → OnOk r (IsReadIn now_image v' f dir') → OnErr r (dir' ≡ dir) → (old others new : List Library) → HoldLibraries its_image v old → AreOthers start old others → IsPutBack start dir' others new
        → (answer : Result (Unit {0}) StoreErr) → answer ≡ answer_to r → ChangesSet its_name (operation dsn) v v' m m' answer new
    set_changed packs mounted start first dir dir' was now stays old left new held others_left put answer answer_is =
        let packs_after = subst (λ (i : List ℕ). OnOk r (IsPacked (directory_in i v' f))) same_image packs in
        record {
          files = entries_answered its_name (operation dsn) v v' m m' r answer answer_is
              (subst (λ (d : Dsn). ChangesEntries its_name (operation d) v v' m m' r) one_set
              (changes_entries its_name its_operation v v' others_before f m m' r part.part (keeps (record { bytes = f.name })) packs_after was_packed run_before));
          idle = λ kept e error differs.
              let failed = error_answered r answer answer_is e error in
              entries_idle its_name its_operation v v' others_before f m m' r part.part (keeps (record { bytes = f.name })) packs_after was_packed run_before
              (no_device r e failed differs) (subst (λ (i : List ℕ). (IsErrOf r store.Device → ⊥) → IsMounted i v') same_image mounted) e failed differs;
          libraries = λ sound. libraries_put its_name its_operation v v' others_before f m m' r part (keeps (record { bytes = f.name })) run_before start first dir dir' was
              (subst (λ (i : List ℕ). OnOk r (IsReadIn i v' f dir')) same_image now) stays old left new (sound_answered r answer answer_is sound) held others_left put;
        }
