-- A change of the entries of a directory, as the machine sees it.
use Rattle.std.proofs.Common.{◌≡◌, ◌≢◌, ◌∙◌, ℕ, true, List, refl, sym, ap, subst}
use Rattle.std.specs.Prelude.{IsErrOf, OnOk, Result, Ok, Err}
use Rattle.dscb_codec.specs.declared.F1.{F1}
use Rattle.free_rebuild.specs.Operations.{ChangesImage, DoesOperation, Operates}
use Rattle.free_rebuild.specs.Repairs.{image_named}
use Rattle.hall_core.specs.Facts.{Attached, Facts, unit_of}
use Rattle.pack_spec.specs.Settled.{IsPacked}
use Rattle.pds_directory.specs.Directories.{IsPartIn, directory_in}
use Rattle.pds_directory.specs.Packed.{are_packed}
use Rattle.pds_directory.proofs.PackedDirectories.{directory_in_is}
use Rattle.pds_directory.proofs.PackedTracks.{KeepsDirectories}
use Rattle.stop_model.specs.Files.{File}
use Rattle.stop_model.specs.Moments.{IsDurable, Meaning, Same}
use Rattle.stop_model.proofs.MomentLemmas.{CountsNow, elapses_weaker}
use Rattle.stow_ops.specs.Stores.{DifferOn, directory_tracks}
use Rattle.stow_ops.proofs.StoreSteps.{differ_none}
use Rattle.vol_model.specs.Calls.{sound_after}
use Rattle.vol_model.specs.declared.answers.StoreErr.{StoreErr}
use Rattle.vol_model.specs.declared.answers.StoreErr.TheVariants as store
use Rattle.vol_model.specs.declared.contents.Volume.{Volume}
use Rattle.vol_model.specs.declared.refusals.Refusal.{Refusal}
use Rattle.pack_spec.specs.Volume.{volume_of}
use Rattle.vtoc_index.specs.Index.{IsMounted}
use Rattle.vtoc_index.specs.Kept.{IsKept}
use Rattle.vtoc_index.specs.declared.vol.Vol.{Vol}
use Rattle.vtoc_index.proofs.KeptLemmas.{kept_of}
use Rattle.pack_machine.specs.Entries.{ChangesEntries, InDirectory, answer_to}
use Rattle.pack_machine.specs.Ready.{reported}
use Rattle.pack_machine.proofs.OperationsLater.{not_operated, operated_later}
use Rattle.pack_machine.proofs.PackedEntries.{entries_packed}
use Rattle.pack_machine.proofs.PackedImages.{image_packed, packed_image}
use Rattle.pack_machine.proofs.Scratching.{operates_refused}
use Rattle.std.proofs.lemmas.Result.{on_ok_weaker}

module _ {T : Type 0} (name : List ℕ) (operation : Volume → Result Volume Refusal) (v v' : Vol) (same : v' ≡ record v { buf = v'.buf }) (f : F1) (m m' : Meaning (List File)) (r : Result T StoreErr)
    (part : IsPartIn (image_named m.state name) v f) (keeps : (w w' : Volume) → operation w ≡ Ok w' → KeepsDirectories w w') (packs : OnOk r (IsPacked (directory_in (image_named m'.state name) v' f)))
    (was : are_packed (image_named m.state name) ≡ true) (run : Operates name operation v' (DifferOn v.geometry (directory_tracks (image_named m.state name) v f)) m m' r) where
  on_files : (files : List File) → ChangesImage name (DifferOn v.geometry (directory_tracks (image_named m.state name) v f)) m.state files → ChangesImage name (InDirectory v) m.state files
  on_files files changes = record { others = changes.others; image = (f, changes.image) }

  does : DoesOperation name operation v' (InDirectory v) m m' r
  does = record {
    volume = run.does.volume;
    before = run.does.before;
    done = on_ok_weaker r (λ done. record {
      after = done.after;
      step = done.step;
      stands = done.stands;
      index = done.index;
      durable = done.durable;
      changes = on_files m'.state done.changes;
    }) run.does.done;
    settled = run.does.settled;
    printed = run.does.printed;
    moments = elapses_weaker run.does.moments (λ files p at. (record { stands = at.0.stands; guarded = at.0.guarded; changes = on_files files at.0.changes }, at.1));
  }

  pub changes_entries : ChangesEntries name operation v v' m m' r
  unfolding does
  changes_entries = record {
    operates = record { does = does; refused = run.refused; idle = run.idle; memory = run.memory };
    packed = on_ok_weaker r (λ law. image_packed (image_named m'.state name) (law (packed_image (image_named m.state name) was)))
        (entries_packed name operation v v' same f m m' r part keeps
        (on_ok_weaker r (λ (packed : IsPacked (directory_in (image_named m'.state name) v' f)) readable. subst IsPacked (directory_in_is (image_named m'.state name) v' f readable) packed) packs) run.does);
  }

  -- where it isn't done, the index is that of the image that was there
  pub entries_idle : (IsErrOf r store.Device → ⊥) → ((IsErrOf r store.Device → ⊥) → IsMounted (image_named m'.state name) v') → (e : StoreErr) → r ≡ Err e → e ≢ store.Device → IsKept (image_named m.state name) v'
  entries_idle sound mounted e is differs = subst (λ (files : List File). IsKept (image_named files name) v') (by e is differs).state (kept_of _ _ (mounted sound))
    where
      by : (e : StoreErr) → r ≡ Err e → e ≢ store.Device → Same m m'
      by (store.Refused why) is differs = run.idle why (run.refused why (subst (λ (s : Result T StoreErr). IsErrOf s (store.Refused why)) (sym is) refl))
      by store.Memory is differs = run.memory (subst (λ (s : Result T StoreErr). IsErrOf s store.Memory) (sym is) refl)
      by store.Device is differs = absurd (differs refl)

-- one that is refused before anything is called
pub refused_entries : {T : Type 0} (name : List ℕ) (operation : Volume → Result Volume Refusal) (v : Vol) (m : Meaning (List File)) → CountsNow m → (volume : Volume) → volume_of (image_named m.state name) ≡ Ok volume
    → (why : Refusal) → operation volume ≡ Err why → ChangesEntries {T = T} name operation v v m m (Err (store.Refused why))
refused_entries name operation v m counts volume stands why is = record { operates = operates_refused name operation v (InDirectory v) m counts volume stands why is; packed = tt }

-- ---- a change after the reading of its library

-- its entries aren't given
answered : {T : Type 0} {name : List ℕ} {operation : Volume → Result Volume Refusal} {v' : Vol} {Changes : List ℕ → List ℕ → Type 0} {m m' : Meaning (List File)} (r : Result T StoreErr) → Operates name operation v' Changes m m' r → Operates name operation v' Changes m m' (answer_to r)
answered (Ok x) run = record {
  does = record { volume = run.does.volume; before = run.does.before; done = run.does.done; settled = run.does.settled; printed = run.does.printed; moments = run.does.moments };
  refused = λ why is. absurd cc;
  idle = run.idle;
  memory = λ is. absurd cc;
}
answered (Err e) run = record {
  does = record { volume = run.does.volume; before = run.does.before; done = tt; settled = tt; printed = run.does.printed; moments = run.does.moments };
  refused = λ why is. let same : e ≡ store.Refused why = cc in run.refused why (ap (λ (d : StoreErr). Err d) same);
  idle = run.idle;
  memory = λ is. let same : e ≡ store.Memory = cc in run.memory (ap (λ (d : StoreErr). Err d) same);
}

packed_answer : {T : Type 0} (P : Type 0) (r : Result T StoreErr) → OnOk r P → OnOk (answer_to r) P
packed_answer P (Ok x) is = is
packed_answer P (Err e) is = tt

pub entries_answered : {T : Type 0} (name : List ℕ) (operation : Volume → Result Volume Refusal) (v v' : Vol) (m m' : Meaning (List File)) (r : Result T StoreErr) (answer : Result (Unit {0}) StoreErr) → answer ≡ answer_to r → ChangesEntries name operation v v' m m' r
    → ChangesEntries name operation v v' m m' answer
entries_answered name operation v v' m m' r answer is changes =
    subst (ChangesEntries name operation v v' m m') (sym is) (record { operates = answered r changes.operates; packed = packed_answer (are_packed (image_named m'.state name) ≡ true) r changes.packed })

-- an answer that is no fault of the device is none of the change either
pub error_answered : {T : Type 0} (r : Result T StoreErr) (answer : Result (Unit {0}) StoreErr) → answer ≡ answer_to r → (e : StoreErr) → answer ≡ Err e → r ≡ Err e
error_answered (Ok x) answer is e error = absurd (let both : Ok tt ≡ Err e = sym is ∙ error in cc)
error_answered (Err d) answer is e error = let both : ◌≡◌ {A = Result (Unit {0}) StoreErr} (Err d) (Err e) = sym is ∙ error in let same : d ≡ e = cc in ap (λ (x : StoreErr). Err x) same

pub sound_answered : {T : Type 0} (r : Result T StoreErr) (answer : Result (Unit {0}) StoreErr) → answer ≡ answer_to r → sound_after (reported answer) ≡ true → sound_after (reported r) ≡ true
sound_answered r answer is sound = by r (subst (λ (a : Result (Unit {0}) StoreErr). sound_after (reported a) ≡ true) is sound)
  where
    by : {T : Type 0} (x : Result T StoreErr) → sound_after (reported (answer_to x)) ≡ true → sound_after (reported x) ≡ true
    by (Ok x) still = refl
    by (Err (store.Refused why)) still = refl
    by (Err store.Memory) still = refl
    by (Err store.Device) still = absurd cc

module _ (m mid : Meaning (List File)) (f0 f1 : Facts) (v v1 : Vol) (same : Same m mid) (units : f1.units ≡ f0.units) (is : v1 ≡ v) (durable : IsDurable m) (operation : Volume → Result Volume Refusal) (f : F1) where
  abbrev its_name : List ℕ
  its_name = (unit_of f0.units v.unit).name

  abbrev OnDirectory : List ℕ → List ℕ → Type 0
  OnDirectory = DifferOn v.geometry (directory_tracks (image_named m.state its_name) v f)

  -- it is one of the image that was there before
  pub entries_later : {T : Type 0} (v' : Vol) (m' : Meaning (List File)) (r : Result T StoreErr)
      → Operates (unit_of f1.units v1.unit).name operation v' (DifferOn v1.geometry (directory_tracks (image_named mid.state (unit_of f1.units v1.unit).name) v1 f)) mid m' r → Operates its_name operation v' OnDirectory m m' r
  entries_later v' m' r run =
      let by_units = subst (λ (us : List Attached). Operates (unit_of us v1.unit).name operation v' (DifferOn v1.geometry (directory_tracks (image_named mid.state (unit_of us v1.unit).name) v1 f)) mid m' r) units run in
      let by_index = subst (λ (w : Vol). Operates (unit_of f0.units w.unit).name operation v' (DifferOn w.geometry (directory_tracks (image_named mid.state (unit_of f0.units w.unit).name) w f)) mid m' r) is by_units in
      operated_later its_name operation v' OnDirectory m durable (differ_none v f (image_named m.state its_name)) mid m' same r
      (subst (λ (fs : List File). Operates its_name operation v' (DifferOn v.geometry (directory_tracks (image_named fs its_name) v f)) mid m' r) same.state by_index)

  -- the library wasn't read, for want of memory or by a fault
  pub entries_unread : (T : Type 0) (volume : Volume) → volume_of (image_named m.state its_name) ≡ Ok volume → (e : StoreErr) → ((why : Refusal) → e ≡ store.Refused why → ⊥) → ChangesEntries {T = T} its_name operation v v1 m mid (Err e)
  entries_unread T volume stands e unrefused = subst (λ (w : Vol). ChangesEntries {T = T} its_name operation v w m mid (Err e)) (sym is) (record {
    operates = not_operated its_name operation v (InDirectory v) m durable (f, differ_none v f (image_named m.state its_name)) mid e volume stands same (λ why is. absurd (unrefused why is));
    packed = tt;
  })
