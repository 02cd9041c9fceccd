-- An operation on one of several packs, by their shelf.
use Rattle.std.proofs.Common.{◌≡◌, ◌≢◌, ⊎_elim, ℕ, zero, suc, Bool, List, [], ◌∷◌, ◌++◌, set, Option, Some, None, sym, ap, subst, ◌∙◌, arith}
use Rattle.std.specs.Prelude.{◌==◌, nat_lt, OnOk, Result, Ok, Err, filter, if◌then◌else◌, not, slice_get, unwrap_or}
use Rattle.std.proofs.lemmas.Bool.{cases_eq}
use Rattle.dadsm_ops.specs.Operations.{Operates}
use Rattle.free_rebuild.specs.Repairs.{image_named}
use Rattle.free_rebuild.proofs.SettledBool.{settled_vtoc}
use Rattle.hall_core.specs.Facts.{Attached, Facts, unit_of}
use Rattle.stop_model.specs.Files.{File, file_of}
use Rattle.stop_model.specs.Moments.{IsDurable, Meaning}
use Rattle.stop_model.proofs.MomentLemmas.{CountsNow}
use Rattle.ebcdic_names.specs.declared.names.Dsn.{Dsn}
use Rattle.vol_model.specs.Places.{tracks_in}
use Rattle.vol_model.specs.Shelf.{allocate_on, emptied, empty_on, empty_set, has_name, has_set, if_readable, if_room, is_catalog, is_partitioned, lacks_room, may_empty, on_choice, on_found, refuse, rename_on, rename_refusal, renamed, scratch_on, set_of, step_on, unless_refused, volume_number, with_new, with_set}
use Rattle.vol_model.specs.Slots.{slots_needed}
use Rattle.vol_model.specs.Space.{choice}
use Rattle.vol_model.specs.declared.contents.Attr.{Attr}
use Rattle.vol_model.specs.declared.contents.DataSet.{DataSet}
use Rattle.vol_model.specs.declared.contents.Run.{Run}
use Rattle.vol_model.specs.declared.answers.StoreErr.{StoreErr}
use Rattle.vol_model.specs.declared.answers.StoreErr.TheVariants as store
use Rattle.vol_model.specs.declared.contents.Volume.{Volume}
use Rattle.vol_model.specs.declared.refusals.Refusal.{Refusal}
use Rattle.vol_model.specs.declared.refusals.Refusal.TheVariants.{NoRoom, NoVolume, SetExists, VtocFull, WrongKind}
use Rattle.vol_model.specs.declared.requests.Op.{Op}
use Rattle.vol_model.specs.declared.requests.Op.TheVariants.{Allocate, Empty, Extend, Rename, Scratch}
use Rattle.vol_model.specs.declared.requests.Request.{Request}
use Rattle.vtoc_index.specs.Index.{IsOfUnit}
use Rattle.vtoc_index.specs.Kept.{IsKept}
use Rattle.vtoc_index.specs.Names.{AreByName, name_at}
use Rattle.vtoc_index.specs.declared.vol.Vol.{Vol}
use Rattle.shelf_machine.specs.Machine.{AreIndexes, AreInOrder, AreKept, base_of, numbers_of, plans_of, texts_of, units_of}
use Rattle.pack_machine.specs.Ready.{IsKeptSettled, IsSamePack}
use Rattle.shelf_machine.specs.Opening.{AreApart, names_of}
use Rattle.shelf_machine.specs.Operating.{OperatesOnShelf}
use Rattle.shelf_machine.proofs.Holding.{has_volumes, held_stand, kept_mounted, serials_apart, volumes_held}
use Rattle.pack_machine.proofs.ListPlaces.{get_map, get_other, get_set, map_set_same, set_size}
use Rattle.shelf_machine.proofs.Machines.{applies_memory, applies_nowhere, just_same, keeps_all}
use Rattle.pack_machine.proofs.PackedImages.{IsStillPacked}
use Rattle.shelf_machine.proofs.Promises.{keeps_safe}
use Rattle.shelf_machine.proofs.ShelfSteps.{applies, idle_files}
use Rattle.pack_machine.proofs.Operating.{extend_is, leaves_pack, ok_volume, read_through, unrefused}
use Rattle.std.proofs.lemmas.Option.{same_Some}

-- the plan of one index is that of another of its pack
plans_set : (vols : List Vol) (k : ℕ) (v v' : Vol) → slice_get vols k ≡ Some v → IsSamePack v v' → plans_of (set vols k v') ≡ plans_of vols
plans_set [] k v v' at same = absurd cc
plans_set (u ∷ vols) zero v v' at same =
    let this : u ≡ v = cc in
    let geometry : v'.geometry ≡ u.geometry = same.geometry ∙ ap (λ (w : Vol). w.geometry) (sym this) in
    let vtoc : v'.vtoc ≡ u.vtoc = same.vtoc ∙ ap (λ (w : Vol). w.vtoc) (sym this) in
    ap (λ g. numbers_of g ∷ (v'.vtoc.start ∷ v'.vtoc.len ∷ []) ∷ plans_of vols) geometry
    ∙ ap (λ r. numbers_of u.geometry ∷ (r.start ∷ r.len ∷ []) ∷ plans_of vols) vtoc
plans_set (u ∷ vols) (suc k) v v' at same = ap (λ rest. numbers_of u.geometry ∷ (u.vtoc.start ∷ u.vtoc.len ∷ []) ∷ rest) (plans_set vols k v v' at same)

-- the name of an index's unit stands at its place
pub name_there : (attached : List Attached) (vols : List Vol) (k : ℕ) (v : Vol) → slice_get vols k ≡ Some v → slice_get (names_of attached (units_of vols)) k ≡ Some (unit_of attached v.unit).name
name_there attached vols k v at = get_map (λ (unit : ℕ). (unit_of attached unit).name) (units_of vols) k v.unit (get_map (λ (w : Vol). w.unit) vols k v at)

module _ (old new : Facts) (vols : List Vol) (k : ℕ) (v v' : Vol) (there : slice_get vols k ≡ Some v) (same : IsSamePack v v') (units : new.units ≡ old.units) where
  units_same : units_of (set vols k v') ≡ units_of vols
  units_same = map_set_same (λ (w : Vol). w.unit) vols k v v' there same.unit

  pub names_same : names_of new.units (units_of (set vols k v')) ≡ names_of old.units (units_of vols)
  names_same = ap (λ (us : List Attached). names_of us (units_of (set vols k v'))) units ∙ ap (names_of old.units) units_same

  -- the indexes are those of the same packs
  pub base_same : new.references ≡ old.references → base_of new (set vols k v') ≡ base_of old vols
  base_same references =
      ap (λ r. r ∷ units_of (set vols k v') ∷ plans_of (set vols k v') ++ texts_of new.units) references
      ∙ ap (λ ns. old.references ∷ ns ∷ plans_of (set vols k v') ++ texts_of new.units) units_same
      ∙ ap (λ ps. old.references ∷ units_of vols ∷ ps ++ texts_of new.units) (plans_set vols k v v' there same)
      ∙ ap (λ us. old.references ∷ units_of vols ∷ plans_of vols ++ texts_of us) units

  pub indexes_after : AreIndexes old.units vols → IsOfUnit new.units v' → AreIndexes new.units (set vols k v')
  indexes_after indexes unit = record {
    each = λ j u at. ⊎_elim
        (λ here. subst (IsOfUnit new.units) (same_Some _ _ (sym (get_set vols k v v' there) ∙ ap (slice_get (set vols k v')) (sym here) ∙ at)) unit)
        (λ differs. subst (λ (us : List Attached). IsOfUnit us u) (sym units) (indexes.each j u (sym (get_other vols j k v' differs) ∙ at)))
        (cases_eq j k);
    names = subst AreApart (sym names_same) indexes.names;
    serials = subst AreApart (sym (map_set_same (λ (w : Vol). w.serial.bytes) vols k v v' there same.serial)) indexes.serials;
    few = omega (arith, set_size vols k v', indexes.few);
  }

  pub order_after : AreInOrder vols → AreByName (name_at v'.slots.items) v'.by_name.items → AreInOrder (set vols k v')
  order_after order here j u at = ⊎_elim
      (λ is. subst (λ (w : Vol). AreByName (name_at w.slots.items) w.by_name.items) (same_Some _ _ (sym (get_set vols k v v' there) ∙ ap (slice_get (set vols k v')) (sym is) ∙ at)) here)
      (λ differs. order j u (sym (get_other vols j k v' differs) ∙ at))
      (cases_eq j k)

  -- each index is that of its image, where this one is and the other files are as before
  pub kept_after : (files after : List File) → AreIndexes old.units vols → AreKept files old.units vols → ((other : List ℕ) → other ≢ (unit_of old.units v.unit).name → file_of after other ≡ file_of files other)
      → IsKeptSettled (image_named after (unit_of old.units v.unit).name) v' → AreKept after new.units (set vols k v')
  kept_after files after indexes kept others here j u at = subst (λ (us : List Attached). IsKeptSettled (image_named after (unit_of us u.unit).name) u) (sym units) (⊎_elim
      (λ is. let this : v' ≡ u = same_Some _ _ (sym (get_set vols k v v' there) ∙ ap (slice_get (set vols k v')) (sym is) ∙ at) in
      subst (λ (w : Vol). IsKeptSettled (image_named after (unit_of old.units w.unit).name) w) this
      (subst (λ (n : ℕ). IsKeptSettled (image_named after (unit_of old.units n).name) v') (sym same.unit) here))
      (λ differs. let was : slice_get vols j ≡ Some u = sym (get_other vols j k v' differs) ∙ at in
      let another : (unit_of old.units u.unit).name ≢ (unit_of old.units v.unit).name =
      λ is. differs (indexes.names j k (unit_of old.units v.unit).name (name_there old.units vols j u was ∙ ap (λ (n : List ℕ). Some n) is) (name_there old.units vols k v there)) in
      let image : image_named after (unit_of old.units u.unit).name ≡ image_named files (unit_of old.units u.unit).name =
      ap (λ (o : Option (List ℕ)). unwrap_or o []) (others (unit_of old.units u.unit).name another) in
      subst (λ (i : List ℕ). IsKeptSettled i u) (sym image) (kept j u was))
      (cases_eq j k))

-- an operation of the shelf on the pack of its number
module _ (op : Op) (keeps : (w after : Volume) → step_on op w ≡ Ok after → after.serial.bytes ≡ w.serial.bytes) (old new : Facts) (vols : List Vol) (k : ℕ) (number : volume_number op ≡ k)
    (v v' : Vol) (there : slice_get vols k ≡ Some v) (same : IsSamePack v v') (units : new.units ≡ old.units) (indexes : AreIndexes old.units vols) (Changes : List ℕ → List ℕ → Type 0) (m m' : Meaning (List File)) where
  abbrev names : List (List ℕ)
  names = names_of old.units (units_of vols)

  pub operates_here : {T : Type 0} (r : Result T StoreErr) → CountsNow m → m.left m.state → AreKept m.state old.units vols → IsDurable m → Operates (unit_of old.units v.unit).name (step_on op) v' Changes m m' r
      → (IsKept (image_named m.state (unit_of old.units v.unit).name) v → (e : StoreErr) → r ≡ Err e → e ≢ store.Device → IsKept (image_named m.state (unit_of old.units v.unit).name) v')
      → OnOk r (IsStillPacked (image_named m.state (unit_of old.units v.unit).name) (image_named m'.state (unit_of old.units v.unit).name))
      → OperatesOnShelf op names (names_of new.units (units_of (set vols k v'))) new.units vols (set vols k v') m m' r
  operates_here r counts left kept durable run idle still =
      let mounted = kept_mounted m.state old.units vols kept in
      let name : List ℕ = (unit_of old.units v.unit).name in
      let at : slice_get names k ≡ Some name = name_there old.units vols k v there in
      let volumes : List Volume = volumes_held m.state old.units vols in
      let stand = held_stand m.state old.units vols mounted in
      let serials = serials_apart m.state old.units vols mounted indexes.serials in
      let leaves = leaves_pack name (step_on op) v v' Changes m m' (kept k v there) durable r run idle still in
      subst (λ (ns : List (List ℕ)). OperatesOnShelf op names ns new.units vols (set vols k v') m m' r) (sym (names_same old new vols k v v' there same units)) (record {
        applies = applies names volumes m m' stand indexes.names serials k name at op number keeps v' Changes r run;
        safe = keeps_safe names vols indexes.names k name at v v' there same.geometry same.vtoc m m' counts left (settled_vtoc (image_named m.state name) (kept k v there).settled) run;
        idle = λ none. just_same counts (idle_files names volumes m m' stand indexes.names serials k name at op number keeps v' Changes r run none);
        kept = λ sound. kept_after old new vols k v v' there same units m.state m'.state indexes kept (leaves sound).others (leaves sound).here;
        durable = λ sound. (leaves sound).durable;
      })

  -- the same, where the index stays that of any image
  pub operates : {T : Type 0} (r : Result T StoreErr) → CountsNow m → m.left m.state → AreKept m.state old.units vols → IsDurable m → Operates (unit_of old.units v.unit).name (step_on op) v' Changes m m' r
      → ((image : List ℕ) → IsKept image v → (e : StoreErr) → r ≡ Err e → e ≢ store.Device → IsKept image v')
      → OnOk r (IsStillPacked (image_named m.state (unit_of old.units v.unit).name) (image_named m'.state (unit_of old.units v.unit).name))
      → OperatesOnShelf op names (names_of new.units (units_of (set vols k v'))) new.units vols (set vols k v') m m' r
  operates r counts left kept durable run idle still = operates_here r counts left kept durable run (idle (image_named m.state (unit_of old.units v.unit).name)) still

-- one that changes nothing: there is no such pack, or memory ran out
pub operates_nowhere : {T : Type 0} (op : Op) (attached : List Attached) (vols : List Vol) (m : Meaning (List File)) → AreIndexes attached vols → CountsNow m → AreKept m.state attached vols → IsDurable m
    → slice_get vols (volume_number op) ≡ None
    → OperatesOnShelf {T = T} op (names_of attached (units_of vols)) (names_of attached (units_of vols)) attached vols vols m m (Err (store.Refused NoVolume))
operates_nowhere op attached vols m indexes counts kept durable none = record {
  applies = applies_nowhere _ m counts op ((has_volumes m.state attached vols (kept_mounted m.state attached vols kept) indexes.serials).none (volume_number op) none);
  safe = keeps_all _;
  idle = λ _. keeps_all _;
  kept = λ _. kept;
  durable = λ _. durable;
}

pub operates_memory : {T : Type 0} (op : Op) (attached : List Attached) (vols : List Vol) (m : Meaning (List File)) → CountsNow m → AreKept m.state attached vols → IsDurable m
    → OperatesOnShelf {T = T} op (names_of attached (units_of vols)) (names_of attached (units_of vols)) attached vols vols m m (Err store.Memory)
operates_memory op attached vols m counts kept durable = record {
  applies = applies_memory _ m counts op;
  safe = keeps_all _;
  idle = λ _. keeps_all _;
  kept = λ _. kept;
  durable = λ _. durable;
}

pub rename_keeps : (n : ℕ) (old new : Dsn) (w after : Volume) → step_on (Rename n old new) w ≡ Ok after → after.serial.bytes ≡ w.serial.bytes
unfolding step_on rename_on renamed
rename_keeps n old new w after is = by_refusal (rename_refusal w old.bytes new.bytes) is
  where
    by_refusal : (o : Option Refusal) → unless_refused o (renamed w old.bytes new) ≡ Ok after → after.serial.bytes ≡ w.serial.bytes
    by_refusal None done = ap (λ (x : Volume). x.serial.bytes) (sym (ok_volume done))
    by_refusal (Some r) done = absurd cc

pub scratch_keeps : (n : ℕ) (dsn : Dsn) (w after : Volume) → step_on (Scratch n dsn) w ≡ Ok after → after.serial.bytes ≡ w.serial.bytes
unfolding step_on scratch_on
scratch_keeps n dsn w after is = by_set (set_of dsn.bytes w) is
  where
    without : DataSet → Result Volume Refusal
    without x = Ok (record w { sets = filter (λ (y : DataSet). not (has_name dsn.bytes y)) w.sets; catalog = if is_catalog dsn.bytes then None else w.catalog })

    by_set : (o : Option DataSet) → on_found o without ≡ Ok after → after.serial.bytes ≡ w.serial.bytes
    by_set None done = absurd cc
    by_set (Some x) done = ap (λ (y : Volume). y.serial.bytes) (sym (ok_volume done))

pub allocate_keeps : (n : ℕ) (dsn : Dsn) (attr : Attr) (q : Request) (dir : ℕ) (w after : Volume) → step_on (Allocate n dsn attr q dir) w ≡ Ok after → after.serial.bytes ≡ w.serial.bytes
unfolding step_on allocate_on
allocate_keeps n dsn attr q dir w after is =
    let wants_dir = is_partitioned dsn.bytes attr in
    by_choice (choice w q.unit q.contig q.primary) (unrefused (if dir == 0 then wants_dir else not wants_dir) WrongKind _ after (unrefused (has_set w dsn.bytes) SetExists _ after is))
  where
    with_runs : List Run → Result Volume Refusal
    with_runs runs = if_room (lacks_room w.geometry.device dsn.bytes dir (tracks_in runs)) (with_new dsn attr q dir w runs)

    by_choice : (o : Option (List Run)) → on_choice q.primary o with_runs ≡ Ok after → after.serial.bytes ≡ w.serial.bytes
    by_choice None done = absurd cc
    by_choice (Some runs) done =
        let new : Volume = with_new dsn attr q dir w runs in
        let room : Bool = lacks_room w.geometry.device dsn.bytes dir (tracks_in runs) in
        let free = unrefused (nat_lt new.slots (slots_needed new)) (VtocFull (slots_needed new)) (refuse room NoRoom (Ok new)) after done in
        ap (λ (y : Volume). y.serial.bytes) (sym (ok_volume (unrefused room NoRoom (Ok new) after free)))

pub empty_keeps : (n : ℕ) (dsn : Dsn) (attr : Attr) (w after : Volume) → step_on (Empty n dsn attr) w ≡ Ok after → after.serial.bytes ≡ w.serial.bytes
unfolding step_on empty_on
empty_keeps n dsn attr w after is = by_set (set_of dsn.bytes w) is
  where
    by_set : (o : Option DataSet) → on_found o (empty_set dsn attr w) ≡ Ok after → after.serial.bytes ≡ w.serial.bytes
    by_set None done = absurd cc
    by_set (Some x) done =
        let read = unrefused (not (may_empty dsn.bytes x.attr x.body)) WrongKind (if_readable x.body (Ok (with_set w dsn.bytes (emptied attr)))) after done in
        ap (λ (y : Volume). y.serial.bytes) (sym (ok_volume (read_through x.body (Ok (with_set w dsn.bytes (emptied attr))) after read).0))

pub extend_keeps : (n : ℕ) (dsn : Dsn) (w after : Volume) → step_on (Extend n dsn) w ≡ Ok after → after.serial.bytes ≡ w.serial.bytes
unfolding step_on
extend_keeps n dsn w after is = ap (λ (y : Volume). y.serial.bytes) (sym (extend_is dsn w after is).1)
