-- A shelf that is opened over the files of a run, or isn't.
use Rattle.std.proofs.Common.{◌≡◌, ◌≢◌, ⊎_elim, ℕ, zero, suc, ◌≤◌, List, [], ◌∷◌, length, refl, sym, ◌∙◌, ap, subst, arith}
use Rattle.std.proofs.lemmas.List.{get_or-map, length-map}
use Rattle.std.proofs.lemmas.List.FromFn.{fill_by_all}
use Rattle.std.specs.List.{range_with_len}
use Rattle.std.specs.Prelude.{◌⊎◌, Option, Some, None, Result, Ok, Err, slice_get, take}
use Rattle.free_rebuild.specs.Repairs.{image_named}
use Rattle.hall_core.specs.Facts.{Attached, unit_of}
use Rattle.pack_spec.specs.declared.MountErr.{MountErr}
use Rattle.pack_spec.specs.declared.MountErr.TheVariants as mount
use Rattle.pack_spec.specs.Shelf.{UnitRefusal, serial_faults, shelf_of, shelf_unless, shelf_with, volumes_from}
use Rattle.shelf_machine.specs.Opening.{AreApart, AreUnits, LeavesSafe, images_named, names_of}
use Rattle.stop_model.specs.Files.{File}
use Rattle.stop_model.specs.Moments.{Meaning, Same}
use Rattle.vol_model.specs.declared.contents.Shelf.{Shelf}
use Rattle.vol_model.specs.declared.contents.Volume.{Volume}
use Rattle.vol_model.specs.Events.{Item}
use Rattle.volume_manager.specs.Lines.{unit_line}
use Rattle.volume_manager.specs.Run.{FollowsTask, IsFinal, LeftOnlyNow, RunsItems}
use Rattle.volume_manager.specs.Task.{Says, name_of}
use Rattle.volume_manager.proofs.Attaching.{names_in}
use Rattle.volume_manager.proofs.FileTasks.{said_then, silent_or_not}
use Rattle.volume_manager.proofs.Tasks.{nothing_said}
use Rattle.volume_manager.proofs.Works.{many_volumes, not_final, opening_failed}

-- ---- units

-- the numbers of the units that a run may have
abbrev pub all_units : List ℕ
all_units = 0 ∷ 1 ∷ 2 ∷ 3 ∷ 4 ∷ 5 ∷ 6 ∷ 7 ∷ []

pub first_units : (n : ℕ) → n ≤ 8 → take n all_units ≡ range_with_len 0 n
first_units zero few = refl
first_units (suc zero) few = refl
first_units (suc (suc zero)) few = refl
first_units (suc (suc (suc zero))) few = refl
first_units (suc (suc (suc (suc zero)))) few = refl
first_units (suc (suc (suc (suc (suc zero))))) few = refl
first_units (suc (suc (suc (suc (suc (suc zero)))))) few = refl
first_units (suc (suc (suc (suc (suc (suc (suc zero))))))) few = refl
first_units (suc (suc (suc (suc (suc (suc (suc (suc zero)))))))) few = refl
first_units (suc (suc (suc (suc (suc (suc (suc (suc (suc n))))))))) few = absurd (omega (arith, few))

-- the names of all units are those that are attached
pub names_all : (attached : List Attached) (n : ℕ) → length attached ≡ n → names_of attached (range_with_len 0 n) ≡ names_in attached
names_all attached n many =
    let none : Attached = record { name = []; size = 0 } in
    sym (fill_by_all (λ k. (unit_of attached k).name) (names_in attached) n [] (length-map attached (λ (u : Attached). u.name) ∙ many)
    (λ k below. get_or-map (λ (u : Attached). u.name) attached k none [] (omega (arith, below, many))))

-- and those of the first units, where as many are attached
pub first_names : (attached : List Attached) (names : List (List ℕ)) (n : ℕ) → names_in attached ≡ names → length names ≡ n → n ≤ 8 → names_of attached (take n all_units) ≡ names
first_names attached names n named many few =
    let held : length attached ≡ n = sym (length-map attached (λ (u : Attached). u.name)) ∙ ap length named ∙ many in
    ap (names_of attached) (first_units n few) ∙ names_all attached n held ∙ named

-- the files of a run as the units of its shelf
pub are_units : (attached : List Attached) (names : List (List ℕ)) (units : List ℕ) (n : ℕ) → names_in attached ≡ names → length names ≡ n → n ≤ 8 → AreApart names → units ≡ range_with_len 0 n → length units ≡ n → AreUnits attached units
are_units attached names units n named many few apart numbered count =
    let held : length attached ≡ n = sym (length-map attached (λ (u : Attached). u.name)) ∙ ap length named ∙ many in
    record {
      numbered = numbered ∙ ap (range_with_len 0) (sym count);
      attached = omega (arith, held, count);
      few = omega (arith, count, few);
      apart = subst AreApart (sym (ap (names_of attached) numbered ∙ names_all attached n held ∙ named)) apart;
    }

-- ---- what a machine shows of files

many_shelf : (images : List (List ℕ)) (shelf : Shelf) → shelf_of images ≡ Ok shelf → length shelf.volumes ≡ length images
unfolding shelf_of
many_shelf images shelf is = by_volumes (volumes_from 0 images) refl is
  where
    by_first : (o : Option UnitRefusal) (vs : List Volume) → shelf_unless o vs ≡ Ok shelf → vs ≡ shelf.volumes
    by_first None vs same = cc
    by_first (Some r) vs same = absurd (cc same)

    by_volumes : (r : Result (List Volume) UnitRefusal) → volumes_from 0 images ≡ r → shelf_with r ≡ Ok shelf → length shelf.volumes ≡ length images
    by_volumes (Err e) given same = absurd (cc same)
    by_volumes (Ok vs) given same = ap length (sym (by_first (slice_get (serial_faults vs) 0) vs same)) ∙ many_volumes 0 images vs given

pub many_named : (names : List (List ℕ)) (files : List File) (shelf : Shelf) → shelf_of (images_named files names) ≡ Ok shelf → length shelf.volumes ≡ length names
many_named names files shelf is = many_shelf (images_named files names) shelf is ∙ length-map names (image_named files)

-- no image stands for a shelf without volumes
pub none_named : (names : List (List ℕ)) (files : List File) (e : UnitRefusal) → length names ≡ 0 → shelf_of (images_named files names) ≡ Err e → ⊥
unfolding shelf_of serial_faults
none_named [] files e none is = cc is
none_named (name ∷ names) files e none is = omega (arith, none)

-- what is opened isn't refused
pub opened_text : {names given : List (List ℕ)} {shelf : Shelf} {r : UnitRefusal} (files : List File) → given ≡ names → shelf_of (images_named files given) ≡ Ok shelf → shelf_of (images_named files names) ≡ Err r → ⊥
opened_text {names} {given} files same stands is =
    let no = sym stands ∙ ap (λ (n : List (List ℕ)). shelf_of (images_named files n)) same ∙ is in
    cc no

-- ---- an opening that isn't done

unfinished : (why : MountErr) (status : ℕ) → (why ≡ mount.Device → status ≡ 22) → (why ≡ mount.Memory → status ≡ 25) → (why ≡ mount.Memory) ⊎ (why ≡ mount.Device) → ¬ IsFinal status
unfinished why status device memory = ⊎_elim (λ is. not_final status 25 (memory is) (omega arith) (omega arith)) (λ is. not_final status 22 (device is) (omega arith) (omega arith))

module _ (names : List (List ℕ)) {old mid new : Meaning (List File)} (unit status : ℕ) (why : MountErr) (safe : LeavesSafe names old mid)
    (refused : why ≢ mount.Memory → why ≢ mount.Device → shelf_of (images_named old.state names) ≡ Err (record { unit = unit; why = why }))
    (device : why ≡ mount.Device → status ≡ 22) (memory : why ≡ mount.Memory → status ≡ 25) where
  -- items on the shelf that the images stand for
  pub unopened_items : {items : List Item} (shelf : Shelf) (t : ℕ)
      → ((why ≡ mount.Memory) ⊎ (why ≡ mount.Device) → RunsItems names shelf items t old.state old.printed mid status → RunsItems names shelf items t old.state old.printed new status)
      → shelf_of (images_named old.state names) ≡ Ok shelf → t ≤ old.clock → LeftOnlyNow old t → RunsItems names shelf items t old.state old.printed new status
  unopened_items shelf t stay stood early calm =
      ⊎_elim
      (λ silent. stay silent (opening_failed t status early calm stood (safe.some shelf stood) (unfinished why status device memory silent)))
      (λ loud. let no = sym stood ∙ refused loud.0 loud.1 in absurd (cc no))
      (silent_or_not why)

  -- the refusal that they come to
  pub unopened_text : (r : UnitRefusal) → ((why ≡ mount.Memory) ⊎ (why ≡ mount.Device) → Same old mid → Same old new) → (why ≢ mount.Memory → why ≢ mount.Device → FollowsTask (Says 21 (unit_line (name_of names unit) why)) mid new status)
      → shelf_of (images_named old.state names) ≡ Err r → FollowsTask (Says 21 (unit_line (name_of names r.unit) r.why)) old new status
  unopened_text r quiet does is =
      ⊎_elim
      (λ silent. nothing_said _ 21 status (quiet silent (safe.none r is)) (unfinished why status device memory silent))
      (λ loud.
      let same : (let e : UnitRefusal = record { unit = unit; why = why } in e) ≡ r = meant (sym (refused loud.0 loud.1) ∙ is) in
      subst (λ (e : UnitRefusal). FollowsTask (Says 21 (unit_line (name_of names e.unit) e.why)) old new status) same (said_then (safe.none r is) (does loud.0 loud.1)))
      (silent_or_not why)
    where
      meant : {a b : UnitRefusal} → ◌≡◌ {A = Result Shelf UnitRefusal} (Err a) (Err b) → a ≡ b
      meant equal = cc
