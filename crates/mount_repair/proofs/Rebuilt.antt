-- The repair of a VTOC, and what it leaves of the directories, packed or not.
use Rattle.std.proofs.Common.{◌≡◌, ⊎_elim, inl, inr, ℕ, true, List, Ok, refl, sym, ap, subst, ◌∙◌}
use Rattle.std.specs.Prelude.{◌==◌}
use Rattle.std.specs.List.{list_any}
use Rattle.dscb_codec.specs.declared.F1.{F1}
use Rattle.free_rebuild.specs.Repairs.{Repairs, image_named}
use Rattle.free_rebuild.specs.Settled.{is_settled_vtoc}
use Rattle.free_rebuild.proofs.SettledBool.{settled_vtoc}
use Rattle.pack_spec.specs.Alike.{DifferInVtoc}
use Rattle.pack_spec.specs.Blocks.{owned_tracks}
use Rattle.pack_spec.specs.Settled.{directory_upto}
use Rattle.pack_spec.specs.Volume.{volume_of, volume_with}
use Rattle.pack_spec.proofs.BlockBodies.{vtoc_tracks}
use Rattle.pds_directory.specs.Directories.{data_in}
use Rattle.stop_model.specs.Files.{File}
use Rattle.stop_model.specs.Moments.{IsDurable, Meaning}
use Rattle.stop_model.proofs.MomentLemmas.{elapses_none}
use Rattle.vol_model.specs.declared.contents.Place.{Place}
use Rattle.vol_model.specs.declared.contents.Volume.{Volume}
use Rattle.vtoc_index.specs.Index.{IsMounted}
use Rattle.vtoc_index.specs.Names.{AreByName, name_at}
use Rattle.vtoc_index.specs.declared.vol.Vol.{Vol}
use Rattle.vtoc_sets.specs.Sets.{volume_in}
use Rattle.hall_core.specs.Facts.{Attached, Facts, unit_of}
use Rattle.mount_repair.specs.Scans.{AreLibraries, AreSound, AreUnpacked, CanBePacked, IsLibraryIn}
use Rattle.mount_repair.specs.Sets.{set_by}
use Rattle.mount_repair.specs.declared.library.Library.{Library}
use Rattle.mount_repair.specs.declared.scanned.Unpacked.{Unpacked}
use Rattle.mount_repair.proofs.MovedSets.{library_moved, moved, packed_moved, packing_moved, part_moved, set_after, set_before}
use Rattle.mount_repair.proofs.RepairSteps.{one_volume}

-- a VTOC that is settled isn't repaired
pub repairs_none : {T E : Type 0} (name : List ℕ) (v : Vol) (m : Meaning (List File)) (x : T) → IsMounted (image_named m.state name) v → is_settled_vtoc (image_named m.state name) ≡ true → IsDurable m → Repairs {E = E} name v m m (Ok x)
repairs_none name v m x mounted is durable =
    let settled = settled_vtoc (image_named m.state name) is in record {
      volume = settled.0;
      before = settled.1;
      safe = record {
        stands = settled.1;
        guarded = inr (λ track in_vtoc. refl);
        tracks = record { size = refl; header = refl; tracks = λ track out. refl };
        others = λ other differs. refl;
      };
      settled = settled;
      index = mounted;
      durable = durable;
      printed = refl;
      moments = elapses_none m _;
    }

module _ (a b : List ℕ) (v u : Vol) (mounted : IsMounted a v) (mounted' : IsMounted b (moved v u)) (order : AreByName (name_at v.slots.items) v.by_name.items) (order' : AreByName (name_at u.slots.items) v.by_name.items)
    (volume : Volume) (before : volume_of a ≡ Ok volume) (after : volume_of b ≡ Ok volume) (differ : DifferInVtoc volume.geometry volume.vtoc a b) (unpacked : List Unpacked) where
  same : volume_in b (moved v u) ≡ volume_in a v
  same = one_volume (sym mounted'.volume ∙ after ∙ sym before ∙ mounted.volume)

  data_same : data_in b (moved v u) ≡ data_in a v
  unfolding volume_with
  data_same = vtoc_tracks v.geometry v.vtoc a b (subst (λ (w : Volume). DifferInVtoc w.geometry w.vtoc a b) (one_volume (sym before ∙ mounted.volume)) differ)

  upto : (x : F1) (end : Place) → directory_upto v.geometry (data_in b (moved v u)) (owned_tracks (set_by a v x).extents) end ≡ directory_upto v.geometry (data_in a v) (owned_tracks (set_by a v x).extents) end
  upto x end = ap (λ (ts : List (List ℕ)). directory_upto v.geometry ts (owned_tracks (set_by a v x).extents) end) data_same

  can_still : (d : Unpacked) → CanBePacked a v d → CanBePacked b (moved v u) d
  can_still d was =
      let now = set_after a b v u mounted mounted' order order' same d.slot was.set was.slot in record {
        set = now.0;
        slot = now.1;
        part = part_moved a b v u mounted mounted' order order' same was.set now.0 now.2 (upto was.set) d.slot now.1 was.part;
        packing = packing_moved a b v u mounted mounted' order order' same was.set now.0 now.2 (upto was.set) d.slot now.1 was.part d.packing was.packing;
      }

  library_still : (slot : ℕ) (l : Library) → IsLibraryIn a v slot l → IsLibraryIn b (moved v u) slot l
  library_still slot l was =
      let now = set_after a b v u mounted mounted' order order' same slot was.set was.there in
      library_moved a b v u mounted mounted' order order' same was.set now.0 now.2 (upto was.set) slot now.1 was.part l was.start was.read

  -- the same libraries are there
  pub libraries_moved : (libraries : List Library) → AreLibraries a v unpacked libraries → AreLibraries b (moved v u) unpacked libraries
  libraries_moved libraries was k l there = let is = was k l there in (is.0, is.1, library_still is.0 l is.2)

  -- the same directories aren't packed
  pub unpacked_moved : AreUnpacked a v unpacked → AreUnpacked b (moved v u) unpacked
  unpacked_moved was = record {
    each = λ k d there. can_still d (was.each k d there);
    apart = was.apart;
    others = λ slot y is.
        let from = set_before a b v u mounted mounted' order order' same slot y is in
        ⊎_elim (λ packed. inl (packed_moved a b v u mounted mounted' order order' same from.0 y from.2 (upto from.0) packed)) (λ listed. inr listed) (was.others slot from.0 from.1);
  }

-- by the contract of the repair
module _ {T E : Type 0} (name : List ℕ) (v v' : Vol) (m m' : Meaning (List File)) (x : T) (unpacked : List Unpacked) (others : v' ≡ record v { slots = v'.slots; buf = v'.buf }) (mounted : IsMounted (image_named m.state name) v)
    (order : AreByName (name_at v.slots.items) v.by_name.items) (order' : AreByName (name_at v'.slots.items) v'.by_name.items) (run : Repairs {E = E} name v' m m' (Ok x)) where
  abbrev a : List ℕ
  a = image_named m.state name

  abbrev b : List ℕ
  b = image_named m'.state name

  mounted_now : IsMounted b (moved v v')
  mounted_now = subst (IsMounted b) others run.index

  order_now : AreByName (name_at v'.slots.items) v.by_name.items
  order_now = subst (λ (l : List ℕ). AreByName (name_at v'.slots.items) l) (ap (λ (w : Vol). w.by_name.items) others) order'

  pub rebuilt : AreUnpacked a v unpacked → AreUnpacked b v' unpacked
  rebuilt was =
      subst (λ (w : Vol). AreUnpacked b w unpacked) (sym others)
      (unpacked_moved a b v v' mounted mounted_now order order_now run.volume run.before run.safe.stands run.safe.tracks unpacked was)

  pub libraries_rebuilt : (libraries : List Library) → AreLibraries a v unpacked libraries → AreLibraries b v' unpacked libraries
  libraries_rebuilt libraries was =
      subst (λ (w : Vol). AreLibraries b w unpacked libraries) (sym others)
      (libraries_moved a b v v' mounted mounted_now order order_now run.volume run.before run.safe.stands run.safe.tracks unpacked libraries was)

-- what is listed stays sound
pub sound_rebuilt : (v v' : Vol) (us : List Unpacked) → v'.by_name.items ≡ v.by_name.items → AreByName (name_at v.slots.items) v.by_name.items → AreByName (name_at v'.slots.items) v'.by_name.items → AreSound v.slots.items us → AreSound v'.slots.items us
sound_rebuilt v v' us same order order' sound k u there =
    let was = sound k u there in
    (sym (order'.each u.slot) ∙ ap (λ (l : List ℕ). list_any (λ (s : ℕ). s == u.slot) l) same ∙ order.each u.slot ∙ was.0, was.1)

-- the pack has the name of its file still
pub named_still : (old new : Facts) (v v' : Vol) → new.units ≡ old.units → v'.unit ≡ v.unit → (unit_of new.units v'.unit).name ≡ (unit_of old.units v.unit).name
named_still old new v v' units unit = ap (λ (us : List Attached). (unit_of us v'.unit).name) units ∙ ap (λ (n : ℕ). (unit_of old.units n).name) unit

pub unit_named : (old new : Facts) (unit unit' : ℕ) → new.units ≡ old.units → unit' ≡ unit → (unit_of new.units unit').name ≡ (unit_of old.units unit).name
unit_named old new unit unit' units same = ap (λ (us : List Attached). (unit_of us unit').name) units ∙ ap (λ (n : ℕ). (unit_of old.units n).name) same
