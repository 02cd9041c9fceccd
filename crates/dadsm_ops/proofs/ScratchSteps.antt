-- A data set's Scratch from its three parts: format 4 is marked, the format 1 is cleared, and the update is concluded.
use Rattle.std.proofs.Common.{◌≡◌, ◌≢◌, ℕ, List, map, Some, inl, inr, ⊎_elim, refl, sym, ap, subst, ◌∙◌}
use Rattle.std.specs.Prelude.{Result, Ok, Err, IsErr, OnOk, slice_get}
use Rattle.std.proofs.lemmas.Result.{IfOk-from_err}
use Rattle.ckd_image.specs.declared.header.Geometry.{Geometry}
use Rattle.dscb_codec.specs.declared.Dscb.TheVariants as formats
use Rattle.dscb_codec.specs.declared.F1.{F1}
use Rattle.ebcdic_names.specs.declared.names.Dsn.{Dsn}
use Rattle.stop_model.specs.Files.{File, file_of}
use Rattle.stop_model.specs.Moments.{Meaning, Elapses, IsDurable}
use Rattle.stop_model.proofs.MomentLemmas.{elapses_then, elapses_weaker}
use Rattle.pack_spec.specs.Alike.{DifferInVtoc}
use Rattle.pack_spec.specs.Settled.{IsMarked, IsSettledVtoc, slots_for}
use Rattle.pack_spec.specs.Rules.{counted_extents}
use Rattle.pack_spec.specs.Slots.{slots_of_vtoc}
use Rattle.pack_spec.specs.Volume.{volume_by, volume_of, volume_with}
use Rattle.pack_spec.specs.Vtoc.{run_of_extent}
use Rattle.vol_model.specs.declared.contents.Run.{Run}
use Rattle.vol_model.specs.declared.contents.Volume.{Volume}
use Rattle.vol_model.specs.declared.refusals.Refusal.{Refusal}
use Rattle.vol_model.specs.Shelf.{scratch_on}
use Rattle.vol_model.specs.Space.{covers}
use Rattle.vtoc_index.specs.declared.vol.Vol.{Vol}
use Rattle.vtoc_index.specs.Index.{IsMounted}
use Rattle.free_rebuild.specs.Updates.{Concludes, IsGuardedFor, IsMarkedFor, Marks}
use Rattle.dadsm_ops.specs.Operations.{ChangesVtoc, DoesOperation, InVtoc, IsDone, IsLeftInOperation, image_named}
use Rattle.free_rebuild.specs.Durable.{PutsDurably}
use Rattle.dadsm_ops.proofs.Operating.{unchanged}
use Rattle.dadsm_ops.proofs.RenamedImages.{slots_on_image, volume_on_image}
use Rattle.dadsm_ops.specs.Scratching.{AreFreed, usable_tracks}
use Rattle.dadsm_ops.proofs.ScratchedImages.{IsScratched, is_scratched, mounted_scratched, volume_after}
use Rattle.dadsm_ops.proofs.ScratchedIndex.{HasBase, IsFreed, base_differs, base_freed, base_put, base_then, index_freed}
use Rattle.free_rebuild.proofs.DurableLemmas.{slot_put, slot_written}

-- A volume has the geometry and the VTOC of an index.
pub record IsOfIndex (volume : Volume) (v : Vol) : Type 0 where
  pub geometry : volume.geometry ≡ v.geometry
  pub vtoc : volume.vtoc ≡ v.vtoc

-- the volume of a mounted image has those of its index
pub of_index : (image : List ℕ) (v : Vol) (volume : Volume) → IsMounted image v → volume_of image ≡ Ok volume → IsOfIndex volume v
unfolding volume_with
of_index image v volume mounted stands =
    let one : Ok volume ≡ Ok (volume_by image v.geometry v.vtoc) = sym stands ∙ mounted.volume in
    let same : volume ≡ volume_by image v.geometry v.vtoc = cc in
    record { geometry = ap (λ (x : Volume). x.geometry) same; vtoc = ap (λ (x : Volume). x.vtoc) same }

-- images that differ in one VTOC differ in the same by another name of it
differ_as : {g h : Geometry} {r s : Run} {before after : List ℕ} → g ≡ h → r ≡ s → DifferInVtoc g r before after → DifferInVtoc h s before after
differ_as {h = h} {r = r} {before = before} {after = after} geometry run differ =
    subst (λ (x : Run). DifferInVtoc h x before after) run (subst (λ (x : Geometry). DifferInVtoc x r before after) geometry differ)

-- one change of a VTOC after another
differ_then : {g : Geometry} {r : Run} {a b c : List ℕ} → DifferInVtoc g r a b → DifferInVtoc g r b c → DifferInVtoc g r a c
differ_then one two = record { size = two.size ∙ one.size; header = two.header ∙ one.header; tracks = λ track outside. two.tracks track outside ∙ one.tracks track outside }

-- Files in which an operation is decided: the image stands for the volume after it, and is marked.
pub record IsDecided (name : List ℕ) (volume : Volume) (before : List File) (stepped : Result Volume Refusal) (after : Volume) (files : List File) : Type 0 where
  pub step : stepped ≡ Ok after
  pub stands : volume_of (image_named files name) ≡ Ok after
  pub marked : IsMarked (slots_for (image_named files name) after)
  pub others : (other : List ℕ) → other ≢ name → file_of files other ≡ file_of before other
  pub tracks : DifferInVtoc volume.geometry volume.vtoc (image_named before name) (image_named files name)

module _ (name : List ℕ) (volume : Volume) (v : Vol) (of : IsOfIndex volume v) (before : List File) where
  changes_by : (files : List File) → ((other : List ℕ) → other ≢ name → file_of files other ≡ file_of before other) → DifferInVtoc volume.geometry volume.vtoc (image_named before name) (image_named files name) → ChangesVtoc name v.geometry v.vtoc before files
  changes_by files others differ = record { others = others; image = differ_as of.geometry of.vtoc differ }

  module _ (stepped : Result Volume Refusal) where
    -- the files as before
    left_same : (files : List File) → volume_of (image_named before name) ≡ Ok volume → files ≡ before → IsLeftInOperation name volume stepped (InVtoc v) before files
    left_same files stands same =
        subst (λ (all : List File). IsLeftInOperation name volume stepped (InVtoc v) before all) (sym same)
        (record { stands = inl stands; guarded = λ guarded. guarded; changes = unchanged name v.geometry v.vtoc before before refl })

    -- the files with the mark
    left_marked : (files : List File) → IsMarkedFor name volume before files → IsLeftInOperation name volume stepped (InVtoc v) before files
    left_marked files marked = record {
      stands = inl marked.stands;
      guarded = λ was. (volume, marked.stands, inl marked.marked);
      changes = changes_by files marked.others marked.tracks;
    }

    -- what a stop leaves while the mark is set
    pub mark_leaves : {T E : Type 0} {w : Vol} {old new : Meaning (List File)} {result : Result T E} → old.state ≡ before → (marks : Marks name w old new result) → marks.volume ≡ volume
        → Elapses old new (λ files p. IsLeftInOperation name volume stepped (InVtoc v) before files × (p ≡ old.printed))
    mark_leaves {old = old} start marks same =
        let stands : volume_of (image_named before name) ≡ Ok volume = ap (λ (all : List File). volume_of (image_named all name)) (sym start) ∙ marks.before ∙ ap (λ (x : Volume). Ok x) same in
        elapses_weaker marks.moments (λ files p left. (
          ⊎_elim
              (λ none. left_same files stands (none ∙ start))
              (λ marked. left_marked files (subst (λ (x : Volume). IsMarkedFor name x before files) same (subst (λ (all : List File). IsMarkedFor name marks.volume all files) start marked)))
              left.0,
          left.1,
        ))

    left_decided : (after : Volume) (files : List File) → IsDecided name volume before stepped after files → IsLeftInOperation name volume stepped (InVtoc v) before files
    left_decided after files is = record {
      stands = inr (after, is.step, is.stands);
      guarded = λ was. (after, is.stands, inl is.marked);
      changes = changes_by files is.others is.tracks;
    }

    -- the files while the update is concluded
    left_guarded : (after : Volume) (start files : List File) → IsOfIndex after v → IsDecided name volume before stepped after start → IsGuardedFor name after start files → IsLeftInOperation name volume stepped (InVtoc v) before files
    left_guarded after start files of_after is left = record {
      stands = inr (after, is.step, left.stands);
      guarded = λ was. left.guarded;
      changes = changes_by files (λ other apart. left.others other apart ∙ is.others other apart)
          (differ_then is.tracks (differ_as (of_after.geometry ∙ sym of.geometry) (of_after.vtoc ∙ sym of.vtoc) left.tracks));
    }

-- a marked image stays so where its format 4 stays
marked_still : (image put : List ℕ) (v : Vol) (slot : ℕ) (f : F1) (volume : Volume) → volume ≡ volume_on_image image v → IsScratched image put v slot f → IsMarked (slots_for image volume) → IsMarked (slots_for put (volume_after image v slot))
unfolding volume_with
marked_still image put v slot f volume same s marked =
    let here : IsMarked (slots_on_image image v) = subst (λ (x : Volume). IsMarked (slots_for image x)) same marked in
    (here.0, s.head ∙ here.1, here.2)

module _ (name : List ℕ) (dsn : Dsn) (slot : ℕ) (f : F1) (named : dsn.bytes ≡ f.name) (v0 : Vol) (m0 : Meaning (List File)) (mounted : IsMounted (image_named m0.state name) v0) where
  abbrev operation : Volume → Result Volume Refusal
  operation x = scratch_on dsn x

  -- Where the mark failed.
  pub scratch_unmarked : {T E X Y : Type 0} {r : Result T E} (answer : Result X Y) (v1 : Vol) (m1 : Meaning (List File)) → IsErr answer → v1.geometry ≡ v0.geometry → v1.vtoc ≡ v0.vtoc → Marks name v1 m0 m1 r → DoesOperation name (scratch_on dsn) v1 (InVtoc v1) m0 m1 answer
  scratch_unmarked answer v1 m1 failed geometry vtoc marks =
      let of0 = of_index (image_named m0.state name) v0 marks.volume mounted marks.before in
      let of : IsOfIndex marks.volume v1 = record { geometry = of0.geometry ∙ sym geometry; vtoc = of0.vtoc ∙ sym vtoc } in
      record {
        volume = marks.volume;
        before = marks.before;
        done = IfOk-from_err answer _ failed;
        settled = IfOk-from_err answer _ failed;
        printed = marks.printed;
        moments = mark_leaves name marks.volume v1 of m0.state (operation marks.volume) refl marks refl;
      }

  module _ {T E : Type 0} {t : T} (v1 : Vol) (m1 : Meaning (List File)) (set : slice_get v1.slots.items slot ≡ Some (formats.F1 f)) (marks : Marks {T = T} {E = E} name v1 m0 m1 (Ok t)) where
    abbrev volume : Volume
    volume = marks.volume

    -- the image with the mark
    abbrev image : List ℕ
    image = image_named m1.state name

    module _ {A B : Type 0} {r : Result A B} (v2 : Vol) (m2 : Meaning (List File)) (put : PutsDurably name v1 slot formats.F0 v2 m1 m2 r) where
      -- the image without the format 1
      abbrev cleared : List ℕ
      cleared = image_named put.after name

      scratched : IsScratched image cleared v1 slot f
      scratched = is_scratched image cleared v1 slot f put.bytes marks.index set put.size put.dscb (slot_written put.put) (slot_put put.put)

      abbrev after : Volume
      after = volume_after image v1 slot

      same_volume : marks.volume ≡ volume_on_image image v1
      same_volume = let one : Ok marks.volume ≡ Ok (volume_on_image image v1) = sym marks.marked.stands ∙ marks.index.volume in cc

      of1 : IsOfIndex marks.volume v1
      of1 = of_index image v1 marks.volume marks.index marks.marked.stands

      -- it decides the operation
      decided : IsDecided name marks.volume m0.state (scratch_on dsn marks.volume) (volume_after image v1 slot) put.after
      decided = record {
        step = ap (scratch_on dsn) same_volume ∙ scratched.step dsn named;
        stands = scratched.stands ∙ ap (λ (x : Volume). Ok x) scratched.made;
        marked = marked_still image cleared v1 slot f marks.volume same_volume scratched marks.marked.marked;
        others = λ other apart. put.put.others other apart ∙ marks.marked.others other apart;
        tracks = differ_then marks.marked.tracks (differ_as (sym of1.geometry) (sym of1.vtoc) scratched.changes);
      }

      module _ (v : Vol) (geometry : v.geometry ≡ v1.geometry) (vtoc : v.vtoc ≡ v1.vtoc) where
        of : IsOfIndex marks.volume v
        of = record { geometry = of1.geometry ∙ sym geometry; vtoc = of1.vtoc ∙ sym vtoc }

        -- what a stop leaves up to the cleared format 1
        pub put_leaves : Elapses m0 m2 (λ files p. IsLeftInOperation name marks.volume (scratch_on dsn marks.volume) (InVtoc v) m0.state files × (p ≡ m0.printed))
        put_leaves =
            elapses_then (mark_leaves name marks.volume v of m0.state (scratch_on dsn marks.volume) refl marks refl)
            (elapses_weaker put.step.moments (λ files p left. (
              ⊎_elim
                  (λ same. left_marked name marks.volume v of m0.state (scratch_on dsn marks.volume) files (subst (λ (all : List File). IsMarkedFor name marks.volume m0.state all) (sym same) marks.marked))
                  (λ same. subst (λ (all : List File). IsLeftInOperation name marks.volume (scratch_on dsn marks.volume) (InVtoc v) m0.state all) (sym same) (left_decided name marks.volume v of m0.state (scratch_on dsn marks.volume) (volume_after image v1 slot) put.after decided))
                  left.0,
              left.1 ∙ marks.printed,
            )))

        -- Where the put failed.
        pub scratch_unput : {X Y : Type 0} (answer : Result X Y) → IsErr answer → DoesOperation name (scratch_on dsn) v (InVtoc v) m0 m2 answer
        scratch_unput answer failed = record {
          volume = marks.volume;
          before = marks.before;
          done = IfOk-from_err answer _ failed;
          settled = IfOk-from_err answer _ failed;
          printed = put.step.printed ∙ marks.printed;
          moments = put_leaves;
        }

    -- where the put is done
    module _ {A B : Type 0} {a : A} (v2 : Vol) (m2 : Meaning (List File)) (put : PutsDurably {T = A} {E = B} name v1 slot formats.F0 v2 m1 m2 (Ok a)) where
      put_state : m2.state ≡ put.after
      put_state = put.step.done.0

      -- the image then
      pub scratched_now : IsScratched (image_named m1.state name) (image_named m2.state name) v1 slot f
      scratched_now = subst (λ (all : List File). IsScratched (image_named m1.state name) (image_named all name) v1 slot f) (sym put_state) (scratched v2 m2 put)

      decided_now : IsDecided name marks.volume m0.state (scratch_on dsn marks.volume) (volume_after (image_named m1.state name) v1 slot) m2.state
      decided_now = subst (λ (all : List File). IsDecided name marks.volume m0.state (scratch_on dsn marks.volume) (volume_after (image_named m1.state name) v1 slot) all) (sym put_state) (decided v2 m2 put)

      -- its mark
      pub marked_now : IsMarked (slots_on_image (image_named m2.state name) v1)
      unfolding volume_with
      marked_now = decided_now.marked

      -- the index is that of the image then
      pub mounted_now : (w : Vol) (runs : List Run) → v2 ≡ record v1 { slots = v2.slots; buf = v2.buf } → IsFreed v2 w → ((track : ℕ) → covers runs track ≡ covers (map (run_of_extent v1.geometry) (counted_extents (slots_on_image (image_named m1.state name) v1) f)) track)
          → AreFreed (usable_tracks v2.geometry) v2.free.items runs w.free.items → IsMounted (image_named m2.state name) w
      mounted_now w runs same freed have are =
          let base = base_then v1 v2 w (base_put v1 v2 same) (base_freed v2 w freed) in
          let here : AreFreed (usable_tracks v1.geometry) v1.free.items runs w.free.items = subst (λ (x : Vol). AreFreed (usable_tracks x.geometry) x.free.items runs w.free.items) same are in
          mounted_scratched (image_named m1.state name) (image_named m2.state name) v1 w slot f scratched_now (base_differs v1 w base) (index_freed (image_named m2.state name) v2 w freed put.index) (scratched_now.free runs w.free.items have here)

      pub marked_by : (w : Vol) → HasBase v1 w → IsMarked (slots_on_image (image_named m2.state name) w)
      marked_by w base =
          subst (λ (g : Geometry). IsMarked (slots_of_vtoc (image_named m2.state name) g w.vtoc)) (sym base.geometry)
          (subst (λ (r : Run). IsMarked (slots_of_vtoc (image_named m2.state name) v1.geometry r)) (sym base.vtoc) marked_now)

      module _ (v : Vol) (geometry : v.geometry ≡ v1.geometry) (vtoc : v.vtoc ≡ v1.vtoc) (m3 : Meaning (List File)) where
        of_after : IsOfIndex (volume_after (image_named m1.state name) v1 slot) v
        unfolding volume_with
        of_after = record { geometry = sym geometry; vtoc = sym vtoc }

        of_now : IsOfIndex marks.volume v
        of_now = of v2 m2 put v geometry vtoc

        -- The update is concluded, or it failed.
        pub scratch_concluded : {X Y : Type 0} (result : Result X Y) → Concludes name v m2 m3 result → DoesOperation name (scratch_on dsn) v (InVtoc v) m0 m3 result
        scratch_concluded {X = X} {Y = Y} result ends =
            let after : Volume = volume_after (image_named m1.state name) v1 slot in
            let one : Ok ends.volume ≡ Ok after = sym ends.before ∙ decided_now.stands in
            let same : ends.volume ≡ after = cc in
            let guarded : (files : List File) → IsGuardedFor name ends.volume m2.state files → IsGuardedFor name after m2.state files = λ files is. subst (λ (x : Volume). IsGuardedFor name x m2.state files) same is in
            record {
              volume = marks.volume;
              before = marks.before;
              done = by_result result ends.safe ends.index ends.durable guarded;
              settled = settled_by result ends.settled;
              printed = ends.printed ∙ put.step.printed ∙ marks.printed;
              moments = elapses_then (put_leaves v2 m2 put v geometry vtoc)
                  (elapses_weaker ends.moments (λ files p left. (
                    left_guarded name marks.volume v of_now m0.state (scratch_on dsn marks.volume) after m2.state files of_after decided_now (guarded files left.0),
                    left.1 ∙ put.step.printed ∙ marks.printed,
                  )));
            }
          where
            by_result : (r : Result X Y) → OnOk r (IsGuardedFor name ends.volume m2.state m3.state) → OnOk r (IsMounted (image_named m3.state name) v) → OnOk r (IsDurable m3)
                → ((files : List File) → IsGuardedFor name ends.volume m2.state files → IsGuardedFor name (volume_after (image_named m1.state name) v1 slot) m2.state files)
                → OnOk r (IsDone name (scratch_on dsn marks.volume) v (InVtoc v) m0.state m3)
            by_result (Ok x) safe index durable guarded =
                let left = left_guarded name marks.volume v of_now m0.state (scratch_on dsn marks.volume) (volume_after (image_named m1.state name) v1 slot) m2.state m3.state of_after decided_now (guarded m3.state safe) in
                record {
                  after = volume_after (image_named m1.state name) v1 slot;
                  step = decided_now.step;
                  stands = (guarded m3.state safe).stands;
                  index = index;
                  durable = durable;
                  changes = left.changes;
                }
            by_result (Err e) safe index durable guarded = tt

            settled_by : (r : Result X Y) → OnOk r (IsSettledVtoc (image_named m3.state name)) → OnOk r (IsSettledVtoc (image_named m0.state name) → IsSettledVtoc (image_named m3.state name))
            settled_by (Ok x) settled = λ was. settled
            settled_by (Err e) settled = tt
