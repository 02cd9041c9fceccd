-- Items on the shelf of images, from the machine's words to those of the files.
use Rattle.std.proofs.Common.{◌≡◌, ◌≢◌, ⊎_elim, inr, ℕ, suc, ◌<◌, ◌≤◌, ◌+◌, ◌++◌, Bool, List, [], ◌∷◌, length, refl, sym, ◌∙◌, ap, subst, arith}
use Rattle.std.specs.Prelude.{◌⊎◌, IsErrAnd, IsTrue, Option, Some, None, Result, Ok, Err, slice_get, take}
use Rattle.std.proofs.lemmas.List.{append-nil, length-set}
use Rattle.std.proofs.lemmas.Result.{err_from_is_err_and}
use Rattle.free_rebuild.specs.Repairs.{image_named}
use Rattle.stop_model.specs.Files.{File}
use Rattle.stop_model.specs.Moments.{IsDurable, Meaning, Same}
use Rattle.stop_model.specs.Steps.{seen}
use Rattle.stop_model.proofs.MomentLemmas.{CountsNow, OnlyNow}
use Rattle.pack_spec.specs.declared.MountErr.{MountErr}
use Rattle.pack_spec.specs.Shelf.{UnitRefusal, shelf_of, volume_then, volumes_from}
use Rattle.pack_spec.specs.Volume.{volume_of}
use Rattle.shelf_machine.specs.Opening.{AreSafe, AreSettledImages, IsSafeImage, OpensSafely, images_named}
use Rattle.vol_model.specs.Events.{Item, StopsIn, after_operations, behind, code_of, events_of, listing, operations_of, shelf_behind}
use Rattle.vol_model.specs.Runs.{Runs}
use Rattle.vol_model.specs.Shelf.{on_volume, step, step_on, volume_number, with_volume}
use Rattle.vol_model.specs.declared.contents.Shelf.{Shelf}
use Rattle.vol_model.specs.declared.contents.Volume.{Volume}
use Rattle.vol_model.specs.declared.refusals.Refusal.{Refusal}
use Rattle.vol_model.specs.declared.requests.Op.{Op}
use Rattle.vol_model.proofs.Stops.{stands, stops_start}
use Rattle.volume_manager.specs.Run.{AllItemsDone, FollowsTask, IsFinal, IsStopIn, LeavesShelf, LeftOnlyNow, OnlySynced, RunsItems, status_of}
use Rattle.volume_manager.specs.declared.cause.Cause.{Cause}
use Rattle.volume_manager.specs.declared.cause.Cause.TheVariants as cause
use Rattle.volume_manager.specs.Task.{Works}

-- ---- the number of volumes

-- a volume in the place of another keeps their number
one_volume : (shelf : Shelf) (v : ℕ) (r : Result Volume Refusal) (after : Shelf) → with_volume shelf v r ≡ Ok after → length after.volumes ≡ length shelf.volumes
one_volume shelf v (Ok volume) after is = ap (λ (r : Result Shelf Refusal). length (behind shelf r).volumes) (sym is) ∙ length-set shelf.volumes v volume
one_volume shelf v (Err r) after is = absurd (cc is)

one_found : (shelf : Shelf) (op : Op) (found : Option Volume) (after : Shelf) → on_volume shelf (volume_number op) (step_on op) found ≡ Ok after → length after.volumes ≡ length shelf.volumes
one_found shelf op None after is = absurd (cc is)
one_found shelf op (Some volume) after is = one_volume shelf (volume_number op) (step_on op volume) after is

-- an operation keeps the number of volumes
one_step : (shelf : Shelf) (op : Op) (r : Result Shelf Refusal) → step shelf op ≡ r → length (behind shelf r).volumes ≡ length shelf.volumes
unfolding step
one_step shelf op (Ok after) is = one_found shelf op (slice_get shelf.volumes (volume_number op)) after is
one_step shelf op (Err r) is = refl

volumes_stay : (ops : List Op) (shelf : Shelf) → length (after_operations shelf ops).volumes ≡ length shelf.volumes
volumes_stay [] shelf = refl
volumes_stay (op ∷ ops) shelf = volumes_stay ops (behind shelf (step shelf op)) ∙ one_step shelf op (step shelf op) refl

-- images stand for as many volumes
then_many : (unit n : ℕ) (r : Result Volume MountErr) (others : Result (List Volume) UnitRefusal) (volumes : List Volume) → ((vs : List Volume) → others ≡ Ok vs → length vs ≡ n) → volume_then unit r others ≡ Ok volumes → length volumes ≡ suc n
then_many unit n (Err e) others volumes many is = absurd (cc is)
then_many unit n (Ok volume) (Err r) volumes many is = absurd (cc is)
then_many unit n (Ok volume) (Ok vs) volumes many is = ap (λ (r : Result (List Volume) UnitRefusal). count r) (sym is) ∙ ap suc (many vs refl)
  where
    count : Result (List Volume) UnitRefusal → ℕ
    count (Ok l) = length l
    count (Err r) = 0

pub many_volumes : (unit : ℕ) (images : List (List ℕ)) (volumes : List Volume) → volumes_from unit images ≡ Ok volumes → length volumes ≡ length images
many_volumes unit [] volumes is = ap count (sym is)
  where
    count : Result (List Volume) UnitRefusal → ℕ
    count (Ok l) = length l
    count (Err r) = 0
many_volumes unit (image ∷ images) volumes is = then_many unit (length images) (volume_of image) (volumes_from (unit + 1) images) volumes (many_volumes (unit + 1) images) is

-- ---- a stop in items

-- The shelf that a machine shows of files is that of the images, where they stand for one; and they do where it shows as many volumes.
pub record Shows (names : List (List ℕ)) (shown : List File → Shelf) (shelf : Shelf) : Type 0 where
  pub given : (files : List File) (s : Shelf) → shelf_of (images_named files names) ≡ Ok s → shown files ≡ s
  pub back : (files : List File) → length (shown files).volumes ≡ length shelf.volumes → shelf_of (images_named files names) ≡ Ok (shown files)

-- an image is safe against itself
same_image : (volume : Volume) (image : List ℕ) → IsSafeImage volume image image
same_image volume image = record { guarded = inr (λ track inside. refl) }

-- files as they were are safe
pub safe_same : (names : List (List ℕ)) (volumes : List Volume) (files : List File) → AreSafe names volumes files files
safe_same names volumes files = record {
  images = λ k name volume named stood. same_image volume (image_named files name);
  others = λ other apart. refl;
}

safe_as : (names : List (List ℕ)) (volumes : List Volume) (before files : List File) → files ≡ before → AreSafe names volumes before files
safe_as names volumes before files is = subst (λ (all : List File). AreSafe names volumes before all) (sym is) (safe_same names volumes before)

-- a stop while no item has begun
pub stopped_before : (names : List (List ℕ)) (shelf : Shelf) (items : List Item) (before : List File) (start : List ℕ) (files : List File) (printed : List ℕ) → shelf_of (images_named files names) ≡ Ok shelf → AreSafe names shelf.volumes before files → printed ≡ start
    → IsStopIn names shelf items before start files printed
stopped_before names shelf items before start files printed stood safe text = record {
  left = shelf;
  stands = stood;
  front = [];
  text = text ∙ sym (append-nil start);
  place = stands shelf (events_of items) shelf [] (stops_start shelf (events_of items));
  safe = safe;
}

-- since now a stop left what is there
pub calm_now : (m : Meaning (List File)) → OnlyNow m → IsDurable m → LeftOnlyNow m m.clock
calm_now m only durable files printed left = let now = only files printed left in (durable files now.0, now.1)

-- and since a moment before calls that change nothing
pub calm_then : {old mid : Meaning (List File)} (t : ℕ) → Same old mid → t ≤ old.clock → LeftOnlyNow old t → IsDurable old → LeftOnlyNow mid t
calm_then t same early calm durable files printed left =
    ⊎_elim (λ before. let is = calm files printed before in (is.0 ∙ sym same.state, is.1 ∙ sym same.printed))
    (λ now. (durable files now.0 ∙ sym same.state, now.1 ∙ sym same.printed))
    ((same.time.since t files printed early).0 left)

-- want of memory that a `?` hands on
pub out_of_memory : (ended : Result ℕ Cause) → IsErrAnd ended (λ e. e ≡ cause.Memory) → status_of ended ≡ 25
out_of_memory ended given = let p = err_from_is_err_and ended given in ap status_of (p.1 ∙ ap Err p.2)

-- the outcome of items is a status with which the program ends, and no fault
pub not_final : (status fault : ℕ) → status ≡ fault → 21 < fault → fault < 26 → ¬ IsFinal status
not_final status fault is low high final = ⊎_elim (λ (few : status ≤ 21). omega (arith, is, low, few)) (λ (deck : status ≡ 26). omega (arith, is, high, deck)) final

-- ---- an opening

-- a stop since a moment, up to the end of an opening, left images of this shelf
pub opened_stop : {names : List (List ℕ)} {shelf : Shelf} {old mid : Meaning (List File)} (t : ℕ) → t ≤ old.clock → LeftOnlyNow old t → shelf_of (images_named old.state names) ≡ Ok shelf → OpensSafely names shelf old mid → (files : List File) (printed : List ℕ) → mid.left_since t files printed
    → (shelf_of (images_named files names) ≡ Ok shelf) × (AreSafe names shelf.volumes old.state files × (printed ≡ old.printed))
opened_stop {names} {shelf} {old} t early calm stood opens files printed left =
    ⊎_elim (λ before.
    let is = calm files printed before in
    (ap (λ (all : List File). shelf_of (images_named all names)) is.0 ∙ stood, (safe_as names shelf.volumes old.state files is.0, is.1)))
    (λ now. now)
    (opens.moments.moments t files printed early left)

-- an opening that wasn't done
pub opening_failed : {names : List (List ℕ)} {shelf : Shelf} {items : List Item} {old new : Meaning (List File)} (t status : ℕ) → t ≤ old.clock → LeftOnlyNow old t → shelf_of (images_named old.state names) ≡ Ok shelf → OpensSafely names shelf old new → ¬ IsFinal status
    → RunsItems names shelf items t old.state old.printed new status
opening_failed {names} {shelf} {items} {old} {new} t status early calm stood opens other = record {
  ends = λ final. absurd (other final);
  later = omega (arith, early, opens.moments.later);
  stops = λ files printed left.
      let stop = opened_stop t early calm stood opens files printed left in
      stopped_before names shelf items old.state old.printed files printed stop.0 stop.1.0 stop.1.1;
}

-- ---- items on a shelf that is open

-- All items were done, and what that left may be pending still: AllItemsDone but for a last sync.
pub record AllItemsRun (names : List (List ℕ)) (shelf : Shelf) (items : List Item) (before : List File) (printed : List ℕ) (new : Meaning (List File)) (status : ℕ) : Type 0 where
  pub code : status ≡ code_of items
  pub few : status ≤ 16
  pub listed : new.printed ≡ printed ++ listing (events_of items)
  pub stands : shelf_of (images_named new.state names) ≡ Ok (shelf_behind shelf (events_of items))
  pub settled : AreSettledImages names new.state
  pub safe : AreSafe names shelf.volumes before new.state

module _ (names : List (List ℕ)) (shelf : Shelf) (items : List Item) (t : ℕ) (before : List File)
    (shown : List File → Shelf) (shows : Shows names shown shelf) (mid new : Meaning (List File)) (early : t ≤ mid.clock) (begun : LeavesShelf names shelf mid t) (state : shown mid.state ≡ shelf)
    (safe : (files : List File) (printed : List ℕ) → new.left_since t files printed → AreSafe names shelf.volumes before files) where
  -- where a stop stands, by the machine's shelf
  stopped : (files : List File) (printed q : List ℕ) → new.left_since t files printed → printed ≡ mid.printed ++ q → StopsIn shelf (events_of items) (shown files) q → IsStopIn names shelf items before mid.printed files printed
  stopped files printed q left text stop =
      let place = stands shelf (events_of items) (shown files) q stop in
      record {
        left = shown files;
        stands = shows.back files (ap (λ (s : Shelf). length s.volumes) place.state ∙ volumes_stay (take place.count (operations_of (events_of items))) shelf);
        front = q;
        text = text;
        place = place;
        safe = safe files printed left;
      }

  -- a stop since the moment
  pub stops_worked : {T E : Type 0} {tells : Bool} {result : Result T E} → IsTrue tells → Runs tells (events_of items) (seen shown mid) (seen shown new) result
      → (files : List File) (printed : List ℕ) → new.left_since t files printed → IsStopIn names shelf items before mid.printed files printed
  stops_worked told runs files printed left =
      ⊎_elim
      (λ earlier.
      let was = begun earlier.0 printed earlier.1 in
      let as_then : shown files ≡ shelf = sym earlier.2 ∙ shows.given earlier.0 shelf was.0 in
      stopped files printed [] left (was.1 ∙ sym (append-nil mid.printed))
      (subst (λ (s : Shelf). StopsIn shelf (events_of items) s []) (sym as_then) (stops_start shelf (events_of items))))
      (λ stop. stopped files printed stop.0 left (stop.1 told)
      (subst (λ (s : Shelf). StopsIn s (events_of items) (shown files) stop.0) state stop.2))
      (runs.moments.moments t (shown files) printed early (files, left, refl))

  -- all was done
  pub has_worked : {T E : Type 0} {tells : Bool} {x : T} (code : ℕ) → IsTrue tells → CountsNow new → new.left new.state → AreSettledImages names new.state → code ≡ code_of items → code ≤ 16
      → Runs {E = E} tells (events_of items) (seen shown mid) (seen shown new) (Ok x) → AllItemsRun names shelf items before mid.printed new code
  has_worked code told counts left settled is few runs =
      let after : shown new.state ≡ shelf_behind shelf (events_of items) = runs.shelf ∙ ap (λ (s : Shelf). shelf_behind s (events_of items)) state in
      record {
        code = is;
        few = few;
        listed = runs.printed told;
        stands = shows.back new.state (ap (λ (s : Shelf). length s.volumes) after ∙ volumes_stay (operations_of (events_of items)) shelf) ∙ ap Ok after;
        settled = settled;
        safe = safe new.state new.printed (counts t new.state (omega (arith, early, runs.moments.later)) left);
      }

-- ---- a sync at the end

stops_synced : {names : List (List ℕ)} {shelf : Shelf} {items : List Item} {before : List File} {start : List ℕ} {mid new : Meaning (List File)} {status : ℕ} (t : ℕ) → CountsNow mid → t ≤ mid.clock → OnlySynced mid new status
    → ((files : List File) (printed : List ℕ) → mid.left_since t files printed → IsStopIn names shelf items before start files printed)
    → (files : List File) (printed : List ℕ) → new.left_since t files printed → IsStopIn names shelf items before start files printed
stops_synced {mid = mid} t counts early synced worked files printed left =
    ⊎_elim (λ before. worked files printed before)
    (λ now. worked files printed (subst (λ (p : List ℕ). mid.left_since t files p) (sym now.1) (counts t files early now.0)))
    (synced.moments.moments t files printed early left)

done_synced : {names : List (List ℕ)} {shelf : Shelf} {items : List Item} {before : List File} {start : List ℕ} {mid new : Meaning (List File)} {code status : ℕ} → OnlySynced mid new status → status ≢ 22 → AllItemsRun names shelf items before start mid code → AllItemsDone names shelf items before start new code
done_synced {names} {shelf} {items} {before} synced ends done = record {
  code = done.code;
  few = done.few;
  listed = synced.printed ∙ done.listed;
  stands = ap (λ (all : List File). shelf_of (images_named all names)) synced.state ∙ done.stands;
  settled = subst (λ (all : List File). AreSettledImages names all) (sym synced.state) done.settled;
  durable = synced.durable ends;
  safe = subst (λ (all : List File). AreSafe names shelf.volumes before all) (sym synced.state) done.safe;
}

-- items that a fault ended
pub works_failed : {names : List (List ℕ)} {shelf : Shelf} {items : List Item} {t : ℕ} {before : List File} {start : List ℕ} {new : Meaning (List File)} (status fault : ℕ) → status ≡ fault → 21 < fault → fault < 26 → t ≤ new.clock
    → ((files : List File) (printed : List ℕ) → new.left_since t files printed → IsStopIn names shelf items before start files printed) → RunsItems names shelf items t before start new status
works_failed status fault is low high later stops = record {
  ends = λ final. absurd (not_final status fault is low high final);
  later = later;
  stops = stops;
}

-- items that came to their end, and then a sync, done or failed
pub works_finished : {names : List (List ℕ)} {shelf : Shelf} {items : List Item} {t : ℕ} {before : List File} {start : List ℕ} {mid new : Meaning (List File)} (status code : ℕ) → (status ≡ code) ⊎ (status ≡ 22) → CountsNow mid → t ≤ mid.clock → OnlySynced mid new status
    → AllItemsRun names shelf items before start mid code → ((files : List File) (printed : List ℕ) → mid.left_since t files printed → IsStopIn names shelf items before start files printed) → RunsItems names shelf items t before start new status
works_finished {names} {shelf} {items} {t} {before} {start} {mid} {new} status code which counts early synced done stops = record {
  ends = λ final. ⊎_elim
      (λ (is : status ≡ code). subst (λ (n : ℕ). AllItemsDone names shelf items before start new n) (sym is) (done_synced synced (λ (failed : status ≡ 22). omega (arith, is, failed, done.few)) done))
      (λ (failed : status ≡ 22). absurd (not_final status 22 failed (omega arith) (omega arith) final)) which;
  later = omega (arith, early, synced.moments.later);
  stops = stops_synced t counts early synced stops;
}

-- items that want of memory ended, and then a sync, done or failed
pub works_short : {names : List (List ℕ)} {shelf : Shelf} {items : List Item} {t : ℕ} {before : List File} {start : List ℕ} {mid new : Meaning (List File)} (status : ℕ) → (status ≡ 25) ⊎ (status ≡ 22) → CountsNow mid → t ≤ mid.clock → OnlySynced mid new status
    → ((files : List File) (printed : List ℕ) → mid.left_since t files printed → IsStopIn names shelf items before start files printed) → RunsItems names shelf items t before start new status
works_short {t = t} status which counts early synced stops = record {
  ends = λ final. absurd (⊎_elim
      (λ (short : status ≡ 25). not_final status 25 short (omega arith) (omega arith) final)
      (λ (failed : status ≡ 22). not_final status 22 failed (omega arith) (omega arith) final) which);
  later = omega (arith, early, synced.moments.later);
  stops = stops_synced t counts early synced stops;
}

-- ---- items as a task

-- items none of which was begun
pub nothing_worked : (names : List (List ℕ)) (shelf : Shelf) (items : List Item) {old new : Meaning (List File)} (status : ℕ) → shelf_of (images_named old.state names) ≡ Ok shelf → IsDurable old → OnlyNow old → Same old new → ¬ IsFinal status
    → FollowsTask (Works names shelf items) old new status
nothing_worked names shelf items {old} status stood durable only same other = record {
  ends = λ final. absurd (other final);
  silent = λ short. tt;
  stops = record {
    later = same.time.later;
    stops = λ files printed left.
        let is = ⊎_elim (λ before. only files printed before) (λ now. now) ((same.time.since old.clock files printed (omega arith)).0 left) in
        let here = durable files is.0 in
        stopped_before names shelf items old.state old.printed files printed (ap (λ (all : List File). shelf_of (images_named all names)) here ∙ stood) (safe_as names shelf.volumes old.state files here) is.1;
  };
}

-- items after calls that change nothing
pub worked_then : (names : List (List ℕ)) (shelf : Shelf) (items : List Item) {old mid new : Meaning (List File)} (status : ℕ) → Same old mid → RunsItems names shelf items old.clock mid.state mid.printed new status → FollowsTask (Works names shelf items) old new status
worked_then names shelf items {old} {mid} {new} status same works =
    let here : RunsItems names shelf items old.clock old.state old.printed new status =
    subst (λ (files : List File). RunsItems names shelf items old.clock files old.printed new status) same.state
    (subst (λ (start : List ℕ). RunsItems names shelf items old.clock mid.state start new status) same.printed works) in
    record {
      ends = here.ends;
      silent = λ short. tt;
      stops = record { later = here.later; stops = here.stops };
    }
