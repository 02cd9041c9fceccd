-- An operation on the volume of one image, as one of the shelf of several.
use Rattle.std.proofs.Common.{◌≡◌, ◌≢◌, ⊎_elim, inl, inr, ℕ, List, [], set, Option, Some, refl, sym, ap, subst, ◌∙◌}
use Rattle.std.specs.Prelude.{◌⊎◌, Result, Ok, Err, slice_get, unwrap_or}
use Rattle.dadsm_ops.specs.Operations.{ChangesImage, IsBeforeOrAfter, Operates}
use Rattle.free_rebuild.specs.Repairs.{image_named}
use Rattle.stop_model.specs.Files.{File, file_of}
use Rattle.stop_model.specs.Moments.{Elapses, Meaning, Same}
use Rattle.stop_model.specs.Steps.{seen}
use Rattle.stop_model.proofs.MomentLemmas.{elapses_seen, elapses_weaker, same_seen}
use Rattle.pack_spec.specs.Shelf.{shelf_of}
use Rattle.pack_spec.specs.Volume.{volume_of}
use Rattle.vol_model.specs.Calls.{Applies, IsIdle}
use Rattle.vol_model.specs.Shelf.{on_volume, step, step_on, volume_number, with_volume}
use Rattle.vol_model.specs.declared.answers.StoreErr.{StoreErr}
use Rattle.vol_model.specs.declared.answers.StoreErr.TheVariants as store
use Rattle.vol_model.specs.declared.contents.Shelf.{Shelf}
use Rattle.vol_model.specs.declared.contents.Volume.{Volume}
use Rattle.vol_model.specs.declared.refusals.Refusal.{Refusal}
use Rattle.vol_model.specs.declared.requests.Op.{Op}
use Rattle.vtoc_index.specs.declared.vol.Vol.{Vol}
use Rattle.shelf_machine.specs.Machine.{shelf_or_none, shelf_under}
use Rattle.shelf_machine.specs.Opening.{AreApart, images_named}
use Rattle.pack_machine.specs.Ready.{reported}
use Rattle.pack_machine.proofs.ListPlaces.{get_map, map_set_same, set_itself}
use Rattle.shelf_machine.proofs.ShelfLemmas.{AllStand, one_set, serials_in, shelf_there, stands_at}
use Rattle.pack_machine.proofs.OneVolume.{one_volume}

-- the shelf of these names, some of whose volumes are these, and of which one has this place
module _ (names : List (List ℕ)) (volumes : List Volume) (before : List File) (stand : AllStand (images_named before names) volumes)
    (apart : AreApart names) (serials : AreApart (serials_in volumes)) (k : ℕ) (name : List ℕ) (at : slice_get names k ≡ Some name) where
  -- another place has another name
  pub another : (j : ℕ) (other : List ℕ) → slice_get names j ≡ Some other → j ≢ k → other ≢ name
  another j other there differs same = differs (apart j k name (there ∙ ap (λ (n : List ℕ). Some n) same) at)

  -- the volume at this place
  pub volume_here : (w : Volume) → volume_of (image_named before name) ≡ Ok w → slice_get volumes k ≡ Some w
  volume_here w stands =
      let found = stands_at (images_named before names) volumes k (image_named before name) stand (get_map (image_named before) names k name at) in
      found.1 ∙ ap (λ (v : Volume). Some v) (one_volume (image_named before name) found.2 stands)

  -- files of which this image alone may be another, which stands for a volume of the same serial
  pub shelf_set : (files : List File) (w after : Volume) → slice_get volumes k ≡ Some w → after.serial.bytes ≡ w.serial.bytes
      → ((other : List ℕ) → other ≢ name → file_of files other ≡ file_of before other) → volume_of (image_named files name) ≡ Ok after
      → shelf_of (images_named files names) ≡ Ok (record { volumes = set volumes k after })
  shelf_set files w after here serial others stands = shelf_there (images_named files names) (set volumes k after)
      (one_set names before files volumes k name after stand at (λ j other there differs. ap (λ (o : Option (List ℕ)). unwrap_or o []) (others other (another j other there differs))) stands)
      (subst AreApart (sym (map_set_same (λ (v : Volume). v.serial.bytes) volumes k w after here serial)) serials)

  -- or for the same volume
  pub shelf_same : (files : List File) (w : Volume) → slice_get volumes k ≡ Some w → ((other : List ℕ) → other ≢ name → file_of files other ≡ file_of before other) → volume_of (image_named files name) ≡ Ok w
      → shelf_of (images_named files names) ≡ Ok (record { volumes = volumes })
  shelf_same files w here others stands = shelf_set files w w here refl others stands ∙ ap (λ (vs : List Volume). Ok (record { volumes = vs })) (set_itself volumes k w here)

-- an operation on the volume of this number, which keeps its serial, on the image of this name
module _ (names : List (List ℕ)) (volumes : List Volume) (m m' : Meaning (List File)) (stand : AllStand (images_named m.state names) volumes)
    (apart : AreApart names) (serials : AreApart (serials_in volumes)) (k : ℕ) (name : List ℕ) (at : slice_get names k ≡ Some name)
    (op : Op) (number : volume_number op ≡ k) (keeps : (w after : Volume) → step_on op w ≡ Ok after → after.serial.bytes ≡ w.serial.bytes) (v : Vol) (Changes : List ℕ → List ℕ → Type 0) where
  abbrev shelf : Shelf
  shelf = record { volumes = volumes }

  shelf_before : shelf_under names m.state ≡ shelf
  shelf_before = ap shelf_or_none (shelf_there (images_named m.state names) volumes stand serials)

  -- a step of the volume is one of the shelf
  step_by : (w : Volume) → slice_get volumes k ≡ Some w → (r : Result Volume Refusal) → step_on op w ≡ r → step (shelf_under names m.state) op ≡ with_volume shelf k r
  unfolding step
  step_by w here r is =
      ap (λ (s : Shelf). step s op) shelf_before
      ∙ ap (λ (n : ℕ). on_volume shelf n (step_on op) (slice_get volumes n)) number
      ∙ ap (λ (o : Option Volume). on_volume shelf k (step_on op) o) here
      ∙ ap (with_volume shelf k) is

  -- files of which this image alone may be another, which stands for the volume before the operation or after it
  pub stands_after : (w after : Volume) → slice_get volumes k ≡ Some w → (files : List File) → ((other : List ℕ) → other ≢ name → file_of files other ≡ file_of m.state other) → step_on op w ≡ Ok after → volume_of (image_named files name) ≡ Ok after
      → step (shelf_under names m.state) op ≡ Ok (shelf_under names files)
  stands_after w after here files others is stands =
      step_by w here (Ok after) is
      ∙ ap (λ r. Ok (shelf_or_none r)) (sym (shelf_set names volumes m.state stand apart serials k name at files w after here (keeps w after is) others stands))

  pub stands_before_or_after : (w : Volume) → slice_get volumes k ≡ Some w → (files : List File) → ((other : List ℕ) → other ≢ name → file_of files other ≡ file_of m.state other) → IsBeforeOrAfter w (step_on op w) (image_named files name)
      → (shelf_under names files ≡ shelf_under names m.state) ⊎ (step (shelf_under names m.state) op ≡ Ok (shelf_under names files))
  stands_before_or_after w here files others stands = ⊎_elim
      (λ same. inl (ap shelf_or_none (shelf_same names volumes m.state stand apart serials k name at files w here others same) ∙ sym shelf_before))
      (λ after. inr (stands_after w after.0 here files others after.1 after.2))
      stands

  module _ {T : Type 0} (r : Result T StoreErr) (run : Operates name (step_on op) v Changes m m' r) where
    here : slice_get volumes k ≡ Some run.does.volume
    here = volume_here names volumes m.state stand apart serials k name at run.does.volume run.does.before

    -- the shelf at a stop
    shelf_at : (files : List File) → ChangesImage name Changes m.state files → IsBeforeOrAfter run.does.volume (step_on op run.does.volume) (image_named files name)
        → (shelf_under names files ≡ shelf_under names m.state) ⊎ (step (shelf_under names m.state) op ≡ Ok (shelf_under names files))
    shelf_at files changes stands = stands_before_or_after run.does.volume here files changes.others stands

    -- where the step of the shelf is refused, nothing but the time changes
    idle : (why : Refusal) → step (shelf_under names m.state) op ≡ Err why → Same m m'
    idle why refused = by_step (step_on op run.does.volume) refl
      where
        by_step : (s : Result Volume Refusal) → step_on op run.does.volume ≡ s → Same m m'
        by_step (Err e) is = run.idle e is
        by_step (Ok after) is = let never = sym (step_by run.does.volume here (Ok after) is) ∙ refused in absurd (cc never)

    moments : Elapses (seen (shelf_under names) m) (seen (shelf_under names) m')
        (λ s p. ((s ≡ shelf_under names m.state) ⊎ (step (shelf_under names m.state) op ≡ Ok s)) × (p ≡ m.printed))
    moments = elapses_seen (shelf_under names) (elapses_weaker run.does.moments (λ files p stop. (shelf_at files stop.0.changes stop.0.stands, stop.1)))

  -- so the operation is one of the shelf
  pub applies : {T : Type 0} (r : Result T StoreErr) → Operates name (step_on op) v Changes m m' r → Applies op (seen (shelf_under names) m) (seen (shelf_under names) m') (reported r)
  applies (Ok x) run = record {
    answer = done_step;
    idle = λ none. ⊎_elim (λ refused. same_seen (shelf_under names) (idle (Ok x) run refused.0 refused.1)) (λ short. absurd (let wrong = short in cc)) none;
    printed = run.does.printed;
    moments = moments (Ok x) run;
  }
    where
      done_step : step (shelf_under names m.state) op ≡ Ok (shelf_under names m'.state)
      done_step =
          let done = run.does.done in
          step_by run.does.volume (here (Ok x) run) (Ok done.after) done.step
          ∙ ap (λ r. Ok (shelf_or_none r)) (sym (shelf_set names volumes m.state stand apart serials k name at m'.state run.does.volume done.after (here (Ok x) run) (keeps run.does.volume done.after done.step) done.changes.others done.stands))
  applies (Err (store.Refused why)) run =
      let refused = run.refused why refl in record {
        answer = (step_by run.does.volume (here (Err (store.Refused why)) run) (Err why) refused, ap (shelf_under names) (run.idle why refused).state);
        idle = λ none. same_seen (shelf_under names) (run.idle why refused);
        printed = run.does.printed;
        moments = moments (Err (store.Refused why)) run;
      }
  applies (Err store.Memory) run = record {
    answer = ap (shelf_under names) (run.memory refl).state;
    idle = λ none. same_seen (shelf_under names) (run.memory refl);
    printed = run.does.printed;
    moments = moments (Err store.Memory) run;
  }
  applies (Err store.Device) run = record {
    answer = tt;
    idle = λ none. ⊎_elim (λ refused. same_seen (shelf_under names) (idle (Err store.Device) run refused.0 refused.1)) (λ short. absurd (let wrong = short in cc)) none;
    printed = run.does.printed;
    moments = moments (Err store.Device) run;
  }

  -- where it is idle, nothing but the time changes in the files too
  pub idle_files : {T : Type 0} (r : Result T StoreErr) → Operates name (step_on op) v Changes m m' r → IsIdle (step (shelf_under names m.state) op) (reported r) → Same m m'
  idle_files (Ok x) run none = ⊎_elim (λ refused. idle (Ok x) run refused.0 refused.1) (λ short. absurd (let wrong = short in cc)) none
  idle_files (Err (store.Refused why)) run none = run.idle why (run.refused why refl)
  idle_files (Err store.Memory) run none = run.memory refl
  idle_files (Err store.Device) run none = ⊎_elim (λ refused. idle (Err store.Device) run refused.0 refused.1) (λ short. absurd (let wrong = short in cc)) none
