-- One directory is packed, the others that aren't are left, and the libraries of the other data sets are kept.
use Rattle.std.proofs.Common.{◌≡◌, ◌≢◌, ⊎_elim, inl, inr, ℕ, zero, suc, List, [], ◌∷◌, Some, refl, sym, ap, subst, ◌∙◌, arith}
use Rattle.std.specs.Prelude.{◌⊎◌, Result, Ok, Err, slice_get}
use Rattle.std.proofs.lemmas.Bool.Decides.{eqb_tells}
use Rattle.dscb_codec.specs.declared.Dscb.TheVariants as formats
use Rattle.dscb_codec.specs.declared.F1.{F1}
use Rattle.free_rebuild.specs.Operations.{DoesOperation, IsLeftInOperation}
use Rattle.free_rebuild.specs.Repairs.{HaveSameVtoc, image_named}
use Rattle.pack_spec.specs.Settled.{IsPacked}
use Rattle.pack_spec.specs.Volume.{volume_of, volume_with}
use Rattle.pds_directory.specs.Directories.{IsPartIn, directory_in}
use Rattle.stop_model.specs.Files.{File}
use Rattle.stop_model.specs.Moments.{Elapses, Meaning}
use Rattle.stop_model.proofs.MomentLemmas.{elapses_weaker}
use Rattle.stow_ops.specs.Stores.{DifferOn, directory_tracks}
use Rattle.stow_ops.proofs.DirectoryImages.{DifferOnOwned, guarded_kept}
use Rattle.pds_directory.proofs.PartSets.{among, fs, slots}
use Rattle.vtoc_sets.proofs.OwnedSets.{among_sets}
use Rattle.stow_ops.proofs.WrittenDirectories.{on_owned}
use Rattle.track_records.specs.Buffers.{Buffer}
use Rattle.vol_model.specs.declared.contents.Volume.{Volume}
use Rattle.vol_model.specs.declared.refusals.Refusal.{Refusal}
use Rattle.vtoc_index.specs.Index.{IsMounted}
use Rattle.vtoc_index.specs.Names.{AreByName, name_at}
use Rattle.vtoc_index.specs.declared.vol.Vol.{Vol}
use Rattle.vtoc_index.proofs.NameOrder.{one_slot}
use Rattle.vtoc_sets.specs.Sets.{volume_in}
use Rattle.mount_repair.specs.Repairs.{KeepsVtoc, PacksDirs}
use Rattle.mount_repair.specs.Scans.{AreUnpacked, CanBePacked, IsLibraryIn, IsListed, KeepsLibraries}
use Rattle.mount_repair.specs.Sets.{IsPackedSet, set_by}
use Rattle.mount_repair.specs.declared.library.Library.{Library}
use Rattle.mount_repair.specs.declared.scanned.Unpacked.{Unpacked}
use Rattle.mount_repair.proofs.MovedSets.{library_moved, packed_moved, packed_set, packing_moved, part_moved, set_after, set_before}
use Rattle.mount_repair.proofs.OtherSets.{same_vtoc, upto_other}
use Rattle.mount_repair.proofs.RepairSteps.{one_volume}
use Rattle.mount_repair.proofs.SetsByName.{name_here}

-- a volume stays as it is
abbrev pub same_volume : Volume → Result Volume Refusal
same_volume w = Ok w

stepped_same : {a b : Volume} → ◌≡◌ {A = Result Volume Refusal} (Ok a) (Ok b) → a ≡ b
stepped_same same = cc

some_format : {x y : F1} → Some (formats.F1 x) ≡ Some (formats.F1 y) → x ≡ y
some_format same = cc

some_set : {x y : F1} → Some x ≡ Some y → x ≡ y
some_set same = cc

some_dir : {x y : Unpacked} → Some x ≡ Some y → x ≡ y
some_dir same = cc

module _ (name : List ℕ) (v : Vol) (b : Buffer) (u : Unpacked) (old new : Meaning (List File)) (mounted : IsMounted (image_named old.state name) v) (order : AreByName (name_at v.slots.items) v.by_name.items)
    (can : CanBePacked (image_named old.state name) v u) where
  abbrev pub image : List ℕ
  image = image_named old.state name

  abbrev pub w : Vol
  w = record v { buf = b }

  abbrev pub f : F1
  f = can.set

  abbrev pub Changes : List ℕ → List ℕ → Type 0
  Changes = DifferOn v.geometry (directory_tracks image v f)

  own : IsPartIn image v f
  own = can.part.part

  -- a stop leaves an image with the same VTOC
  keeps_at : (volume : Volume) → volume_of image ≡ Ok volume → (files : List File) → IsLeftInOperation name volume (same_volume volume) Changes old.state files → KeepsVtoc name volume old.state files
  unfolding volume_with
  keeps_at volume before files stop =
      let this : volume_in image v ≡ volume = one_volume (sym mounted.volume ∙ before) in
      let differ : DifferOnOwned v f image (image_named files name) = on_owned v f image (image_named files name) stop.changes.image in
      record {
        stands = ⊎_elim (λ is. is) (λ after. after.2 ∙ ap (λ (x : Volume). Ok x) (sym (stepped_same after.1))) stop.stands;
        guarded = stop.guarded;
        vtoc = subst (λ (x : Volume). HaveSameVtoc x image (image_named files name)) this (same_vtoc image (image_named files name) v f own differ);
        others = stop.changes.others;
      }

  moments_kept : {T E : Type 0} (r : Result T E) → (run : DoesOperation name same_volume w Changes old new r) → Elapses old new (λ files p. KeepsVtoc name run.volume old.state files × (p ≡ old.printed))
  moments_kept r run = elapses_weaker run.moments (λ files p stop. (keeps_at run.volume run.before files stop.0, stop.1))

  pub pack_failed : {T U E F : Type 0} (e : E) (x : F) (rest : List Unpacked) → DoesOperation {T = T} name same_volume w Changes old new (Err e) → PacksDirs {T = U} name w rest old new (Err x)
  pack_failed e x rest run = record {
    volume = run.volume;
    before = run.before;
    keeps = tt;
    settled = tt;
    index = tt;
    left = tt;
    durable = tt;
    printed = run.printed;
    moments = moments_kept (Err e) run;
  }

  module _ {T E : Type 0} (x : T) (run : DoesOperation {E = E} name same_volume w Changes old new (Ok x)) where
    abbrev image' : List ℕ
    image' = image_named new.state name

    differs : DifferOnOwned v f image image'
    differs = on_owned v f image image' run.done.changes.image

    stands_still : volume_of image' ≡ Ok run.volume
    stands_still = run.done.stands ∙ ap (λ (z : Volume). Ok z) (sym (stepped_same run.done.step))

    same : volume_in image' w ≡ volume_in image v
    same = one_volume (sym run.done.index.volume ∙ stands_still ∙ sym run.before ∙ mounted.volume)

    -- a slot is that of the packed set, or its directory stands as before
    place_of : (slot : ℕ) (y : F1) → slice_get v.slots.items slot ≡ Some (formats.F1 y) → (m : ℕ) × (slice_get (fs image v f own) m ≡ Some y)
    place_of slot y is = among_sets (slots image v f own) v.slots.items slot y mounted.index.slots is

    this_set : (slot : ℕ) (y : F1) (is : slice_get v.slots.items slot ≡ Some (formats.F1 y)) → (place_of slot y is).0 ≡ (among image v f own).0 → f ≡ y
    this_set slot y is at = some_set (sym (among image v f own).1 ∙ ap (slice_get (fs image v f own)) (sym at) ∙ (place_of slot y is).1)

    -- another slot has another set
    other_place : (slot : ℕ) (y : F1) (is : slice_get v.slots.items slot ≡ Some (formats.F1 y)) → slot ≢ u.slot → (place_of slot y is).0 ≢ (among image v f own).0
    other_place slot y is apart at =
        let one : f ≡ y = this_set slot y is at in
        apart (one_slot (name_at v.slots.items) v.by_name.items order slot u.slot y.name (name_here image v mounted order slot y is) (name_here image v mounted order u.slot f can.slot ∙ ap (λ (z : F1). Some z.name) one))

    can_still : (y : Unpacked) → y.slot ≢ u.slot → CanBePacked image v y → CanBePacked image' w y
    can_still y apart was =
        let after = set_after image image' v w mounted run.done.index order order same y.slot was.set was.slot in
        let upto = upto_other image image' v f own differs (place_of y.slot was.set was.slot).0 was.set (place_of y.slot was.set was.slot).1 (other_place y.slot was.set was.slot apart) in
        record {
          set = after.0;
          slot = after.1;
          part = part_moved image image' v w mounted run.done.index order order same was.set after.0 after.2 upto y.slot after.1 was.part;
          packing = packing_moved image image' v w mounted run.done.index order order same was.set after.0 after.2 upto y.slot after.1 was.part y.packing was.packing;
        }

    library_still : (slot : ℕ) (l : Library) → slot ≢ u.slot → IsLibraryIn image v slot l → IsLibraryIn image' w slot l
    library_still slot l apart was =
        let after = set_after image image' v w mounted run.done.index order order same slot was.set was.there in
        let upto = upto_other image image' v f own differs (place_of slot was.set was.there).0 was.set (place_of slot was.set was.there).1 (other_place slot was.set was.there apart) in
        library_moved image image' v w mounted run.done.index order order same was.set after.0 after.2 upto slot after.1 was.part l was.start was.read

    -- the libraries of the other data sets are there still
    pub libraries_kept : KeepsLibraries image v (u ∷ []) image' w
    libraries_kept slot l out was = library_still slot l (λ at. out (0, u, refl, sym at)) was

    module _ (packed : IsPacked (directory_in image' w f)) (rest : List Unpacked) (unpacked : AreUnpacked image v (u ∷ rest)) where
      -- the packed set
      partitioned_is : IsPackedSet image' w f
      partitioned_is = packed_set image' w f own.partitioned (λ readable. packed)

      packed_still : (slot : ℕ) (y : F1) (is : slice_get v.slots.items slot ≡ Some (formats.F1 y)) → IsPackedSet image v y → IsPackedSet image' w y
      packed_still slot y is was = ⊎_elim
          (λ at. subst (IsPackedSet image' w) (this_set slot y is at.1) partitioned_is)
          (λ apart.
          let before = set_before image image' v w mounted run.done.index order order same slot y is in
          let one : before.0 ≡ y = some_format (sym before.1 ∙ is) in
          let sets : set_by image' w y ≡ set_by image v y = before.2 ∙ ap (set_by image v) one in
          packed_moved image image' v w mounted run.done.index order order same y y sets (upto_other image image' v f own differs (place_of slot y is).0 y (place_of slot y is).1 apart.1) was)
          (eqb_tells (place_of slot y is).0 (among image v f own).0)

      left_after : AreUnpacked image' w rest
      left_after = record {
        each = λ k y there. can_still y (λ slots. zero_suc (unpacked.apart 0 (suc k) u y refl there (sym slots))) (unpacked.each (suc k) y there);
        apart = λ j k y z first second slots. suc_same (unpacked.apart (suc j) (suc k) y z first second slots);
        others = λ slot y is. ⊎_elim (λ was. inl (packed_still slot y is was)) (λ listed. by_place slot y is listed.0 listed.1 listed.2 listed.3) (unpacked.others slot y is);
      }
        where
          zero_suc : {k : ℕ} → 0 ≡ suc k → ⊥
          zero_suc same = omega (arith, same)

          suc_same : {j k : ℕ} → suc j ≡ suc k → j ≡ k
          suc_same same = omega (arith, same)

          by_place : (slot : ℕ) (y : F1) → slice_get v.slots.items slot ≡ Some (formats.F1 y) → (k : ℕ) (z : Unpacked) → slice_get (u ∷ rest) k ≡ Some z → z.slot ≡ slot → IsPackedSet image' w y ⊎ IsListed rest slot
          by_place slot y is zero z there here =
              let this : u ≡ z = some_dir there in
              let at : u.slot ≡ slot = ap (λ (d : Unpacked). d.slot) this ∙ here in
              inl (subst (IsPackedSet image' w) (some_format (sym can.slot ∙ ap (slice_get v.slots.items) at ∙ is)) partitioned_is)
          by_place slot y is (suc k) z there here = inr (k, z, there, here)

      pub pack_done : {U F : Type 0} (y : U) → PacksDirs {E = F} name w rest old new (Ok y)
      unfolding volume_with
      pack_done y = record {
        volume = run.volume;
        before = run.before;
        keeps = record {
          stands = stands_still;
          guarded = guarded_kept image image' v f own differs;
          vtoc = subst (λ (z : Volume). HaveSameVtoc z image image') (one_volume (sym mounted.volume ∙ run.before)) (same_vtoc image image' v f own differs);
          others = run.done.changes.others;
        };
        settled = run.settled;
        index = run.done.index;
        left = left_after;
        durable = run.done.durable;
        printed = run.printed;
        moments = moments_kept (Ok x) run;
      }

-- by the contract of the packing
module _ (name : List ℕ) (v v' : Vol) (u : Unpacked) (old new : Meaning (List File)) (others : v' ≡ record v { buf = v'.buf }) (mounted : IsMounted (image_named old.state name) v) (order : AreByName (name_at v.slots.items) v.by_name.items)
    (can : CanBePacked (image_named old.state name) v u) where
  abbrev changes_of : F1 → List ℕ → List ℕ → Type 0
  changes_of x = DifferOn v.geometry (directory_tracks (image_named old.state name) v x)

  abbrev in_slot : F1 → Type 0
  in_slot x = slice_get v.slots.items u.slot ≡ Some (formats.F1 x)

  abbrev does_by : {T E : Type 0} → Result T E → Vol → Type 0
  does_by {T = T} {E = E} r w = DoesOperation {T = T} {E = E} name same_volume w (changes_of can.set) old new r

  pub one_failed : {T U E F : Type 0} (e : E) (x : F) (rest : List Unpacked) → ((y : F1) → in_slot y → DoesOperation {T = T} name same_volume v' (changes_of y) old new (Err e)) → PacksDirs {T = U} name v' rest old new (Err x)
  one_failed {T = T} {U = U} e x rest run =
      let does = subst (does_by {T = T} (Err e)) others (run can.set can.slot) in
      subst (λ (w : Vol). PacksDirs {T = U} name w rest old new (Err x)) (sym others) (pack_failed name v v'.buf u old new mounted order can e x rest does)

  module _ {T E : Type 0} (x : T) (run : (z : F1) → in_slot z → DoesOperation {E = E} name same_volume v' (changes_of z) old new (Ok x)) where
    done : does_by {E = E} (Ok x) (record v { buf = v'.buf })
    done = subst (does_by {E = E} (Ok x)) others (run can.set can.slot)

    pub one_done : {U F : Type 0} (y : U) (rest : List Unpacked) → AreUnpacked (image_named old.state name) v (u ∷ rest) → ((z : F1) → in_slot z → IsPacked (directory_in (image_named new.state name) v' z)) → PacksDirs {E = F} name v' rest old new (Ok y)
    one_done {F = F} y rest unpacked packed =
        let is = subst (λ (w : Vol). IsPacked (directory_in (image_named new.state name) w can.set)) others (packed can.set can.slot) in
        subst (λ (w : Vol). PacksDirs {E = F} name w rest old new (Ok y)) (sym others) (pack_done name v v'.buf u old new mounted order can x done is rest unpacked y)

    pub one_keeps : KeepsLibraries (image_named old.state name) v (u ∷ []) (image_named new.state name) v'
    one_keeps = subst (λ (w : Vol). KeepsLibraries (image_named old.state name) v (u ∷ []) (image_named new.state name) w) (sym others) (libraries_kept name v v'.buf u old new mounted order can x done)
