-- A writer of a machine after an extension of its set, done or not: it stands on the images as before, and has put the same.
use Rattle.std.proofs.Common.{◌≡◌, ◌<◌, ℕ, true, List, [], length, get_or, Option, Some, refl, sym, ap, ◌∙◌, subst, arith}
use Rattle.std.specs.Prelude.{Ok, Err, Result, slice_get}
use Rattle.std.specs.Option.{option_map_or}
use Rattle.std.proofs.lemmas.List.{length-map}
use Rattle.std.proofs.lemmas.Option.{slice_get-get_or}
use Rattle.dadsm_ops.specs.Operations.{InVtoc, Operates}
use Rattle.dadsm_ops.proofs.FoundSets.{FoundSet, set_found}
use Rattle.dscb_codec.specs.declared.Dscb.TheVariants as formats
use Rattle.dscb_codec.specs.declared.F1.{F1}
use Rattle.ebcdic_names.specs.declared.names.Dsn.{Dsn}
use Rattle.free_rebuild.specs.Repairs.{image_named}
use Rattle.hall_core.specs.Facts.{Attached, Facts, unit_of}
use Rattle.pack_spec.specs.Volume.{attr_of}
use Rattle.seq_access.specs.Bodies.{body_of_set, last_in}
use Rattle.seq_access.specs.Writing.{AreSpared, puts_in}
use Rattle.seq_access.proofs.SparedCalls.{differ_none}
use Rattle.stop_model.specs.Files.{File}
use Rattle.stop_model.specs.Moments.{IsDurable, Meaning}
use Rattle.vol_model.specs.Calls.{IsUndone, sound_after}
use Rattle.vol_model.specs.declared.contents.Place.{Place}
use Rattle.vol_model.specs.Shelf.{extend_on, fits_mode, put_first}
use Rattle.vol_model.specs.declared.answers.StoreErr.{StoreErr}
use Rattle.vol_model.specs.declared.answers.StoreErr.TheVariants as store
use Rattle.vol_model.specs.declared.contents.Volume.{Volume}
use Rattle.vol_model.specs.declared.refusals.Refusal.{Refusal}
use Rattle.vtoc_index.specs.Index.{first_named}
use Rattle.vtoc_index.specs.Kept.{IsKept}
use Rattle.vtoc_index.specs.declared.vol.Vol.{Vol}
use Rattle.vtoc_index.proofs.KeptLemmas.{mounted_of}
use Rattle.vtoc_sets.specs.Sets.{volume_in}
use Rattle.shelf_machine.specs.Fronts.{BeginsWell, firsts}
use Rattle.shelf_machine.proofs.Machines.{same_base}
use Rattle.shelf_machine.specs.Machine.{base_of, placed_in}
use Rattle.pack_machine.specs.Ready.{IsSamePack, reported}
use Rattle.shelf_machine.specs.Pending.{HasSlot, IsInSlot, IsPendingBy, IsWriterOn, IsWritingBy, puts_by, puts_on}
use Rattle.shelf_machine.specs.declared.writer.Writer.{Writer}
use Rattle.shelf_machine.proofs.ExtendedWriters.{body_now, fits_extended, puts_extended, still_named, writing_extended}
use Rattle.pack_machine.proofs.ListPlaces.{there}
use Rattle.mount_repair.proofs.RepairSteps.{one_volume}

-- A writer stands on a new image by the index of that, as it stood on the old one.
pub record StandsAgain (image image' : List ℕ) (v v' : Vol) (w w' : Writer) : Type 0 where
  pub stands : IsWriterOn image' v' w'
  pub puts : puts_by image' v' w'.inner (slice_get v'.slots.items w'.inner.slot)
      ≡ puts_by image v w.inner (slice_get v.slots.items w.inner.slot)

-- a writer in the slot of its set in another index
abbrev pub in_slot : Writer → ℕ → Writer
in_slot w slot = record w { inner = record (w.inner) { slot = slot } }

-- it writes to the same set
pub in_slot_same : (w w' : Writer) (slot : ℕ) → w' ≡ in_slot w slot → (w'.v ≡ w.v) × (w'.dsn ≡ w.dsn) × (w'.mode ≡ w.mode)
in_slot_same w w' slot moved = (ap (λ (x : Writer). x.v) moved, ap (λ (x : Writer). x.dsn) moved, ap (λ (x : Writer). x.mode) moved)

-- ---- the extension isn't done

-- one that answers an error wasn't done, unless the device failed
pub undone_by : (T : Type 0) (e : StoreErr) → sound_after (reported {T = T} (Err e)) ≡ true → IsUndone (reported {T = T} (Err e))
undone_by T (store.Refused why) sound = tt
undone_by T store.Memory sound = tt
undone_by T store.Device sound = absurd cc

-- and leaves what is read
pub state_undone : {T : Type 0} (name : List ℕ) (operation : Volume → Result Volume Refusal) (v : Vol) (Changes : List ℕ → List ℕ → Type 0) (m m' : Meaning (List File)) (e : StoreErr) → Operates {T = T} name operation v Changes m m' (Err e) → IsUndone (reported {T = T} (Err e)) → m'.state ≡ m.state
state_undone name operation v Changes m m' (store.Refused why) run undone = (run.idle why (run.refused why refl)).state
state_undone name operation v Changes m m' store.Memory run undone = (run.memory refl).state
state_undone name operation v Changes m m' store.Device run undone = absurd undone

-- so the writer stands as before
pub stands_undone : (us us' : List Attached) (v v' : Vol) (files files' : List File) (w : Writer) → us' ≡ us → v'.unit ≡ v.unit → files' ≡ files → v' ≡ v → IsWriterOn (image_named files (unit_of us v.unit).name) v w
    → StandsAgain (image_named files (unit_of us v.unit).name) (image_named files' (unit_of us' v'.unit).name) v v' w w
stands_undone us us' v v' files files' w units unit state index on =
    let image : List ℕ = image_named files (unit_of us v.unit).name in
    let same : image ≡ image_named files' (unit_of us' v'.unit).name = λ i. image_named (sym state i) (unit_of (sym units i) (sym unit i)).name in
    subst (λ (x : List ℕ). StandsAgain image x v v' w w) same (subst (λ (u : Vol). StandsAgain image image v u w w) (sym index) (record { stands = on; puts = refl }))

-- ---- it is done

one_format : {a b : F1} → Some (formats.F1 a) ≡ Some (formats.F1 b) → a ≡ b
one_format same = cc

module _ {T : Type 0} (name : List ℕ) (dsn : Dsn) (v v' : Vol) (m m' : Meaning (List File)) (x : T) (run : Operates name (extend_on dsn) v' (InVtoc v') m m' (Ok x)) (kept : IsKept (image_named m.state name) v)
    (slot : ℕ) (first : first_named dsn.bytes v.slots.items ≡ Some slot) where
  abbrev image : List ℕ
  image = image_named m.state name

  abbrev image' : List ℕ
  image' = image_named m'.state name

  abbrev found : FoundSet dsn.bytes v.slots.items slot
  found = set_found dsn.bytes v.slots.items slot first

  step_now : extend_on dsn (volume_in image v) ≡ Ok (volume_in image' v')
  step_now =
      let done = run.does.done in
      let before : run.does.volume ≡ volume_in image v = one_volume (sym run.does.before ∙ (mounted_of image v kept).volume) in
      let after : done.after ≡ volume_in image' v' = one_volume (sym done.stands ∙ done.index.volume) in
      ap (extend_on dsn) (sym before) ∙ done.step ∙ ap (λ (w : Volume). Ok w) after

  -- the set stands in the new index
  pub named_now : (k : ℕ) × (first_named dsn.bytes v'.slots.items ≡ Some k)
  named_now = still_named image image' v v' (mounted_of image v kept) run.does.done.index dsn slot found.f found.set found.named step_now

  -- and by its slot there the writer stands as before
  stands_extended : IsSamePack v v' → (w : Writer) → w.inner.slot ≡ slot → IsWriterOn image v w → (slot' : ℕ) → first_named dsn.bytes v'.slots.items ≡ Some slot' → StandsAgain image image' v v' w (in_slot w slot')
  stands_extended same w at on slot' first' =
      let there' = set_found dsn.bytes v'.slots.items slot' first' in
      let here : slice_get v.slots.items w.inner.slot ≡ Some (formats.F1 found.f) = ap (slice_get v.slots.items) at ∙ found.set in
      let by : IsWritingBy image v found.f w.inner = on.writing found.f here in
      record {
        stands = record {
          fits = λ f' is. subst (λ (g : F1). fits_mode w.mode g.name (attr_of g) ≡ true) (one_format (sym there'.set ∙ is))
              (fits_extended image image' v v' (mounted_of image v kept) run.does.done.index dsn slot found.f found.set found.named step_now same run.does.done.changes.image slot' there'.f there'.set there'.named w.mode (on.fits found.f here));
          first = λ f' is. subst (λ (g : F1). put_first w.mode (body_of_set image' v' g) ≡ firsts w.owes_end_of_file) (one_format (sym there'.set ∙ is))
              (ap (put_first w.mode) (body_now image image' v v' (mounted_of image v kept) run.does.done.index dsn slot found.f found.set found.named step_now same run.does.done.changes.image slot' there'.f there'.set there'.named) ∙ on.first found.f here);
          begins = λ f' is. subst (λ (g : F1). BeginsWell w.owes_end_of_file (puts_in image' v' g (record (w.inner) { slot = slot' }))) (one_format (sym there'.set ∙ is))
              (subst (BeginsWell w.owes_end_of_file) (sym (puts_extended image image' v v' (mounted_of image v kept) run.does.done.index dsn slot found.f found.set found.named step_now same run.does.done.changes.image slot' there'.f there'.set there'.named w.inner by)) (on.begins found.f here));
          writing = λ f' is. subst (λ (g : F1). IsWritingBy image' v' g (record (w.inner) { slot = slot' })) (one_format (sym there'.set ∙ is))
              (writing_extended image image' v v' (mounted_of image v kept) run.does.done.index dsn slot found.f found.set found.named step_now same run.does.done.changes.image slot' there'.f there'.set there'.named w.inner by);
        };
        puts = ap (puts_by image' v' (record (w.inner) { slot = slot' })) there'.set
            ∙ puts_extended image image' v v' (mounted_of image v kept) run.does.done.index dsn slot found.f found.set found.named step_now same run.does.done.changes.image slot' there'.f there'.set there'.named w.inner by
            ∙ sym (ap (puts_by image v w.inner) here);
      }

  pub stands_done : (us us' : List Attached) (w w' : Writer) → name ≡ (unit_of us v.unit).name → us' ≡ us → IsSamePack v v' → w.inner.slot ≡ slot → IsWriterOn image v w → w' ≡ in_slot w w'.inner.slot → first_named dsn.bytes v'.slots.items ≡ Some w'.inner.slot
      → StandsAgain image (image_named m'.state (unit_of us' v'.unit).name) v v' w w'
  stands_done us us' w w' called units same at on moved first' =
      let here : name ≡ (unit_of us' v'.unit).name = called ∙ (λ i. (unit_of (sym units i) (sym same.unit i)).name) in
      subst (λ (n : List ℕ). StandsAgain image (image_named m'.state n) v v' w w') here
      (subst (λ (y : Writer). StandsAgain image image' v v' w y) (sym moved) (stands_extended same w at on w'.inner.slot first'))

-- ---- on one of several packs

-- there are as many indexes as before
pub as_many : (old new : Facts) (vols vols' : List Vol) → base_of new vols' ≡ base_of old vols → length vols' ≡ length vols
as_many old new vols vols' same =
    sym (length-map vols' (λ (v : Vol). v.unit)) ∙ ap length (same_base old new vols vols' same).numbers ∙ length-map vols (λ (v : Vol). v.unit)

-- the index of the pack of a number
pub index_at : (vols : List Vol) (k n : ℕ) (u : Vol) → k ≡ n → n < length vols → u ≡ get_or vols k u → slice_get vols n ≡ Some u
index_at vols k n u number low is =
    let low' : k < length vols = omega (arith, low, number) in
    ap (slice_get vols) (sym number) ∙ slice_get-get_or vols k u low' ∙ ap (λ (v : Vol). Some v) (sym is)

-- the pack of the writer has its slot
pub slot_again : (vols vols' : List Vol) (w w' : Writer) → w'.v ≡ w.v → length vols' ≡ length vols → HasSlot vols (Some w) → ((v v' : Vol) → slice_get vols w.v ≡ Some v → slice_get vols' w.v ≡ Some v' → IsInSlot v w → IsInSlot v' w') → HasSlot vols' (Some w')
slot_again vols vols' w w' number many slot each = (
  omega (arith, slot.0, many, number),
  λ v' at'. let v = there vols w.v slot.0 in each v.0 v' v.1 (ap (slice_get vols') (sym number) ∙ at') (slot.1 v.0 v.1),
)

module _ (us us' : List Attached) (vols vols' : List Vol) (m m' : Meaning (List File)) (w w' : Writer) (number : w'.v ≡ w.v) (many : length vols' ≡ length vols) where
  abbrev Each : Type 0
  Each = (v v' : Vol) → slice_get vols w.v ≡ Some v → slice_get vols' w.v ≡ Some v' → StandsAgain (image_named m.state (unit_of us v.unit).name) (image_named m'.state (unit_of us' v'.unit).name) v v' w w'

  -- nothing is pending but by it
  pub pending_again : w.v < length vols → IsDurable m' → Each → IsPendingBy m' us' vols' (Some w')
  pending_again low durable each v' at' = (
    (each v.0 v' v.1 (ap (slice_get vols') (sym number) ∙ at')).stands,
    λ f here j left.
        let name : List ℕ = (unit_of us' v'.unit).name in
        let last : Place = last_in (image_named m'.state name) v' f in
        let same : AreSpared name v' f last m'.state m'.state = record { image = differ_none v' f last (image_named m'.state name); others = λ other apart. refl } in
        subst (AreSpared name v' f last m'.state) (sym (durable j left)) same,
  )
    where
      v : (u : Vol) × (slice_get vols w.v ≡ Some u)
      v = there vols w.v low

  -- and what it put is the same
  puts_again : w.v < length vols → Each → puts_on m'.state us' vols' w' ≡ puts_on m.state us vols w
  unfolding puts_on
  puts_again low each =
      let v = there vols w.v low in
      let low' : w.v < length vols' = omega (arith, low, many) in
      let v' = there vols' w.v low' in
      ap (λ (o : Option Vol). option_map_or (λ (u : Vol). puts_by (image_named m'.state (unit_of us' u.unit).name) u w'.inner (slice_get u.slots.items w'.inner.slot)) o []) (ap (slice_get vols') number ∙ v'.1)
      ∙ (each v.0 v'.0 v.1 v'.1).puts
      ∙ sym (ap (λ (o : Option Vol). option_map_or (λ (u : Vol). puts_by (image_named m.state (unit_of us u.unit).name) u w.inner (slice_get u.slots.items w.inner.slot)) o []) v.1)

  pub writer_again : w'.dsn ≡ w.dsn → w'.mode ≡ w.mode → w.v < length vols → Each → placed_in m'.state us' vols' w' ≡ placed_in m.state us vols w
  writer_again name mode low each =
      let puts = puts_again low each in
      (λ i. record { target = record { v = number i; dsn = name i; mode = mode i }; puts = puts i })
