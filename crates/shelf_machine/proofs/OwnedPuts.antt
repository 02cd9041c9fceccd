-- A block that is put by the writer of one of several packs, or isn't: what the call on its pack leaves and answers, by the shelf.
use Rattle.std.proofs.Common.{◌≡◌, ◌≤◌, ℕ, true, false, List, [], ◌∷◌, length, set, Some, Result, Ok, Err, refl, sym, ap, ◌∙◌, subst}
use Rattle.std.specs.Prelude.{IfOk, IsErrOf, OnErr, slice_get}
use Rattle.dscb_codec.specs.declared.Dscb.TheVariants as formats
use Rattle.dscb_codec.specs.declared.F1.{F1}
use Rattle.free_rebuild.specs.Repairs.{image_named}
use Rattle.hall_core.specs.Facts.{Attached, Facts, unit_of}
use Rattle.stop_model.specs.Files.{File}
use Rattle.stop_model.specs.Moments.{Meaning}
use Rattle.stop_model.proofs.MomentLemmas.{CountsNow}
use Rattle.track_records.specs.Buffers.{Buffer}
use Rattle.vol_model.specs.declared.contents.Place.{Place}
use Rattle.vol_model.specs.declared.contents.Shelf.{Shelf}
use Rattle.vol_model.specs.Places.{Content, fits_a_track}
use Rattle.vol_model.specs.Writing.{OpenWriter, room_for, set_on, with_puts}
use Rattle.vtoc_index.specs.declared.vol.Vol.{Vol}
use Rattle.vtoc_index.specs.Index.{IsMounted, IsOfUnit}
use Rattle.vtoc_index.specs.Names.{AreByName, name_at}
use Rattle.dadsm_ops.proofs.FoundSets.{FoundSet, set_found}
use Rattle.seq_access.specs.declared.writer.PutErr.{PutErr}
use Rattle.seq_access.specs.declared.writer.PutErr.TheVariants.{Device, NeedExtent, TooLong}
use Rattle.seq_access.specs.declared.writer.Writer.{Writer as BlockWriter}
use Rattle.seq_access.specs.Bodies.{body_of_set, last_in, owned_in}
use Rattle.seq_access.specs.Writing.{IsPutBehind, IsWriting, Spares, place_next, puts_in}
use Rattle.seq_access.proofs.WritersKept.{puts_with}
use Rattle.shelf_machine.specs.Known.{AreHeld, ForgetsOn}
use Rattle.shelf_machine.specs.Machine.{AreIndexes, AreInOrder, AreKept, base_of, placed_in, shelf_under, units_of}
use Rattle.shelf_machine.specs.Opening.{names_of}
use Rattle.shelf_machine.specs.Pending.{HasSlot, IsInSlot, IsPendingBy, IsWriterOn, IsWritingBy}
use Rattle.shelf_machine.specs.Fronts.{BeginsWell}
use Rattle.shelf_machine.specs.Putting.{DidPut, IsDue, PutsOn, did_place}
use Rattle.pack_machine.specs.Reads.{HasVolume, IsSetOn}
use Rattle.pack_machine.specs.declared.pack_cache.PackCache.{PackCache}
use Rattle.shelf_machine.specs.declared.writer.Writer.{Writer}
use Rattle.shelf_machine.proofs.Holding.{kept_mounted, volume_there}
use Rattle.pack_machine.proofs.ListPlaces.{get_set}
use Rattle.shelf_machine.proofs.Operating.{base_same, indexes_after, order_after}
use Rattle.shelf_machine.proofs.Pendings.{writing_of}
use Rattle.shelf_machine.proofs.PutAnswers.{put_answer, put_refused, put_wants, writer_is}
use Rattle.shelf_machine.proofs.PutOnPacks.{puts_on}
use Rattle.shelf_machine.proofs.PutRooms.{writing_to}
use Rattle.shelf_machine.proofs.FrontLemmas.{begins_more, put_nothing}
use Rattle.shelf_machine.proofs.Putting.{leaves_behind, stands_still, writer_stands}
use Rattle.pack_machine.proofs.ShelfReads.{is_set}
use Rattle.pack_machine.proofs.OneVolume.{same_pack}
use Rattle.std.proofs.lemmas.Option.{same_Some, slice_get_within}

module _ (old new : Facts) (vols : List Vol) (k : ℕ) (v v' : Vol) (at : slice_get vols k ≡ Some v) (others : v' ≡ record v { buf = v'.buf }) (units : new.units ≡ old.units) where
  pub indexes_put : AreIndexes old.units vols → IsOfUnit new.units v' → AreIndexes new.units (set vols k v')
  indexes_put = indexes_after old new vols k v v' at (same_pack v v' others) units

  pub order_put : AreInOrder vols → AreInOrder (set vols k v')
  order_put order = order_after old new vols k v v' at (same_pack v v' others) units order (subst (λ (x : Vol). AreByName (name_at x.slots.items) x.by_name.items) (sym others) (order k v at))

  pub base_put : new.references ≡ old.references → base_of new (set vols k v') ≡ base_of old vols
  base_put = base_same old new vols k v v' at (same_pack v v' others) units

-- the slot is the writer's still
module _ (vols : List Vol) (k : ℕ) (v v' : Vol) (at : slice_get vols k ≡ Some v) (others : v' ≡ record v { buf = v'.buf }) where
  pub slot_put : (w : Writer) (i : BlockWriter) → w.v ≡ k → i.slot ≡ w.inner.slot → HasSlot vols (Some w) → HasSlot (set vols k v') (Some (record w { inner = i }))
  slot_put w i number slot has =
      let put : slice_get (set vols k v') w.v ≡ Some v' = ap (slice_get (set vols k v')) number ∙ get_set vols k v v' at in
      let was : IsInSlot v w = has.1 v (ap (slice_get vols) number ∙ at) in
      let here : IsInSlot v (record w { inner = i }) = (was.0 ∙ ap (λ (n : ℕ). Some n) (sym slot), was.1) in (
        slice_get_within (set vols k v') w.v v' put,
        λ u there. subst (λ (x : Vol). IsInSlot x (record w { inner = i })) (sym others ∙ same_Some _ _ (sym put ∙ there)) here,
      )

-- ---- what the call leaves and answers, where the hall tells

-- What a call says that puts a content after a writer's blocks, or doesn't: as its contract has it.
pub record Puts {image : List ℕ} {v : Vol} {i : BlockWriter} (is : IsWriting image v i) (name after : List ℕ) (c : Content) (v' : Vol) (i' : BlockWriter) (m m' : Meaning (List File)) (r : Result Place PutErr) : Type 0 where
  pub put : IfOk r (λ place. (x : IsWriting image v i) → IsPutBehind x c place (image_named m'.state after) v' i')
  pub spares : Spares name v is.f (last_in image v is.f) m m' r
  pub long : IsErrOf r TooLong → fits_a_track v.geometry.device c ≡ false
  pub short : ¬ IsErrOf r TooLong → fits_a_track v.geometry.device c ≡ true
  pub need : IsErrOf r NeedExtent → length (owned_in image v is.f) ≤ (place_next is c).tt
  pub long_same : IsErrOf r TooLong → m'.state ≡ m.state
  pub need_same : IsErrOf r NeedExtent → m'.state ≡ m.state
  pub mounted : ¬ IsErrOf r Device → IsMounted (image_named m'.state after) v'
  pub writer : OnErr r (i' ≡ i)
  pub slot : i'.slot ≡ i.slot

module _ (old : Facts) (vols : List Vol) (m : Meaning (List File)) (kept : AreKept m.state old.units vols) (w : Writer) (v : Vol) (at : slice_get vols w.v ≡ Some v) (slot : HasSlot vols (Some w)) (pending : IsPendingBy m old.units vols (Some w)) where
  abbrev pub name : List ℕ
  name = (unit_of old.units v.unit).name

  abbrev pub image : List ℕ
  image = image_named m.state name

  pub found : FoundSet w.dsn.bytes v.slots.items w.inner.slot
  found = set_found w.dsn.bytes v.slots.items w.inner.slot (slot.1 v at).0

  abbrev pub f : F1
  f = found.f

  pub on : IsWriterOn image v w
  on = (pending v at).0

  abbrev pub by : IsWritingBy image v f w.inner
  by = on.writing f found.set

  -- the writer of blocks stands on the image of its pack
  abbrev pub writing_here : IsWriting image v w.inner
  writing_here = writing_of image v f w.inner (kept w.v v at).kept found.set by

  module _ (new : Facts) (indexes : AreIndexes old.units vols) (m' : Meaning (List File)) (counts : CountsNow m) (left : m.left m.state) (units : new.units ≡ old.units) where
    abbrev shelf : Shelf
    shelf = shelf_under (names_of old.units (units_of vols)) m.state

    abbrev has : HasVolume shelf w.v v
    has = record {
      image = image;
      mounted = kept_mounted m.state old.units vols kept w.v v at;
      there = volume_there m.state old.units vols (kept_mounted m.state old.units vols kept) indexes.serials w.v v at;
    }

    set_there : IsSetOn image v (set_on shelf w.v w.dsn.bytes) (Some f)
    set_there = is_set shelf w.v v has w.dsn.bytes w.inner.slot f (slot.1 v at).0 found.set

    -- with another buffer in the index
    module _ (c : Content) (due : IsDue w c) (b : Buffer) (i : BlockWriter) where
      abbrev v' : Vol
      v' = record v { buf = b }

      abbrev w' : Writer
      w' = record w { inner = i }

      abbrev vols' : List Vol
      vols' = set vols w.v v'

      still : m'.state ≡ m.state → IsMounted (image_named m'.state name) v' → i ≡ w.inner → IsWriterOn (image_named m'.state name) v' w'
      still state mounted same =
          subst (λ (x : BlockWriter). IsWriterOn (image_named m'.state name) v' (record w { inner = x })) (sym same)
          (stands_still name m v (kept w.v v at) w on (pending v at).1 f found.set m' b state mounted)

      -- the writer stands on the image, unless the device failed
      stands : (r : Result Place PutErr) → Puts writing_here name name c v' i m m' r → ¬ IsErrOf r Device → IsWriterOn (image_named m'.state name) v' w'
      stands (Ok place) run none =
          let put = run.put writing_here in
          let image' : List ℕ = image_named m'.state name in
          writer_stands image image' v b w i run.slot on put.writing
          (subst (λ (x : F1). body_of_set image' v x ≡ body_of_set image v x) (sym put.same) put.body)
          (subst (λ (x : F1). BeginsWell w.owes_end_of_file (puts_in image' v' x i)) (sym put.same)
          (subst (BeginsWell w.owes_end_of_file) (sym put.puts) (begins_more w.owes_end_of_file (puts_in image v f w.inner) c (on.begins f found.set) (λ none first. due first (put_nothing w.inner (puts_in image v f w.inner) by.some none)))))
      stands (Err TooLong) run none = still (run.long_same refl) (run.mounted none) run.writer
      stands (Err NeedExtent) run none = still (run.need_same refl) (run.mounted none) run.writer
      stands (Err Device) run none = absurd (none refl)

      puts : (known known' : List PackCache) → ForgetsOn w.v known known' → AreHeld m.state old.units vols known → (r : Result Place PutErr) → Puts writing_here name name c v' i m m' r
          → PutsOn (names_of old.units (units_of vols)) new.units vols vols' known' w' m m' r
      puts known known' forgot held r run =
          puts_on old new vols indexes m m' counts left kept w w' v at b units on (pending v at).1 f found.set r known known' forgot held
          (leaves_behind name m v (kept w.v v at) w on (pending v at).1 f found.set m' r run.spares) run.mounted (stands r run) refl run.slot

      abbrev was : OpenWriter
      was = placed_in m.state old.units vols w

      abbrev is_now : OpenWriter
      is_now = placed_in m'.state new.units vols' w'

      fills : was ≡ writing_to was.target (puts_in image v f w.inner)
      fills = writer_is m.state old.units vols w v f at found.set

      -- the writer after the call, by the format 1 of its set
      fills_now : i.slot ≡ w.inner.slot → is_now ≡ writing_to was.target (puts_in (image_named m'.state name) v' f i)
      fills_now same =
          let there : slice_get vols' w.v ≡ Some v' = get_set vols w.v v v' at in
          let set_now : slice_get v.slots.items i.slot ≡ Some (formats.F1 f) = ap (slice_get v.slots.items) same ∙ found.set in
          ap (λ (us : List Attached). placed_in m'.state us vols' w') units
          ∙ writer_is m'.state old.units vols' w' v' f there set_now

      not_put : m'.state ≡ m.state → i ≡ w.inner → IsMounted (image_named m'.state name) v' → is_now ≡ was
      not_put state same mounted =
          fills_now (ap (λ (x : BlockWriter). x.slot) same)
          ∙ ap (λ (fs : List File). writing_to was.target (puts_in (image_named fs name) v' f i)) state
          ∙ ap (λ (x : BlockWriter). writing_to was.target (puts_in image v' f x)) same
          ∙ ap (writing_to was.target) (puts_with image v b f w.inner)
          ∙ sym fills

      answers : (r : Result Place PutErr) → Puts writing_here name name c v' i m m' r → DidPut shelf was c is_now r
      answers (Ok place) run = (
        ap (λ (x : OpenWriter). did_place shelf x c) fills
            ∙ put_answer shelf w.v v has w.dsn f set_there w.mode (puts_in image v f w.inner) c place (run.put writing_here).next (run.put writing_here).owned (run.short (λ long. absurd (let wrong = long in cc))),
        fills_now run.slot
            ∙ ap (writing_to was.target) (run.put writing_here).puts
            ∙ ap (λ (x : OpenWriter). with_puts x (c ∷ [])) (sym fills),
      )
      answers (Err TooLong) run = (
        ap (λ (x : OpenWriter). did_place shelf x c) fills ∙ put_refused shelf w.v v has w.dsn f set_there w.mode (puts_in image v f w.inner) c (run.long refl),
        not_put (run.long_same refl) run.writer (run.mounted (λ device. absurd (let wrong = device in cc))),
      )
      answers (Err NeedExtent) run = (
        ap (λ (x : OpenWriter). room_for shelf x.target x.puts c) fills
            ∙ put_wants shelf w.v v has w.dsn f set_there w.mode (puts_in image v f w.inner) c (run.need refl) (run.short (λ long. absurd (let wrong = long in cc))),
        not_put (run.need_same refl) run.writer (run.mounted (λ device. absurd (let wrong = device in cc))),
      )
      answers (Err Device) run = tt

    abbrev after : List ℕ
    after = (unit_of new.units v.unit).name

    -- by what the call says, of the index that it leaves
    module _ (c : Content) (due : IsDue w c) (u : Vol) (others : u ≡ record v { buf = u.buf }) (i : BlockWriter) (r : Result Place PutErr) (run : Puts writing_here name after c u i m m' r) where
      run_here : Puts writing_here name name c (record v { buf = u.buf }) i m m' r
      run_here = subst (λ (x : Vol). Puts writing_here name name c x i m m' r) others (subst (λ (us : List Attached). Puts writing_here name (unit_of us v.unit).name c u i m m' r) units run)

      pub owned_puts : (known known' : List PackCache) → ForgetsOn w.v known known' → AreHeld m.state old.units vols known
          → PutsOn (names_of old.units (units_of vols)) new.units vols (set vols w.v u) known' (record w { inner = i }) m m' r
      owned_puts known known' forgot held =
          subst (λ (x : Vol). PutsOn (names_of old.units (units_of vols)) new.units vols (set vols w.v x) known' (record w { inner = i }) m m' r) (sym others)
          (puts c due u.buf i known known' forgot held r run_here)

      pub owned_did : DidPut shelf (placed_in m.state old.units vols w) c (placed_in m'.state new.units (set vols w.v u) (record w { inner = i })) r
      owned_did =
          subst (λ (x : Vol). DidPut shelf (placed_in m.state old.units vols w) c (placed_in m'.state new.units (set vols w.v x) (record w { inner = i })) r) (sym others)
          (answers c due u.buf i r run_here)
