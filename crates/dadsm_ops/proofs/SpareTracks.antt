-- Images that differ on tracks which nothing owns stand for one volume, and have one index.
use Rattle.std.proofs.Common.{◌≡◌, ◌⊎◌, ℕ, zero, suc, Bool, true, false, not, ◌||◌, List, [], ◌∷◌, map, Some, inl, inr, refl, ap, ◌∙◌, arith}
use Rattle.std.specs.Prelude.{◌==◌, slice_get}
use Rattle.std.specs.List.{filter_map, flat_map, list_any}
use Rattle.ckd_image.specs.declared.header.Geometry.{Geometry}
use Rattle.dscb_codec.specs.declared.F1.{F1}
use Rattle.pack_spec.specs.declared.slot.VtocSlot.{VtocSlot}
use Rattle.pack_spec.specs.Blocks.{data_tracks, owned_tracks}
use Rattle.pack_spec.specs.Owned.{volume_faults}
use Rattle.pack_spec.specs.Rules.{set_in}
use Rattle.pack_spec.specs.Slots.{slots_of_vtoc, tracks_in}
use Rattle.pack_spec.specs.Volume.{attr_of, counted_runs, data_set_of, data_sets_in, volume_by, volume_with}
use Rattle.pack_spec.proofs.BodyKinds.{body_same}
use Rattle.vol_model.specs.declared.contents.Body.{Body}
use Rattle.vol_model.specs.declared.contents.DataSet.{DataSet}
use Rattle.vol_model.specs.declared.contents.Run.{Run}
use Rattle.vol_model.specs.Order.{in_order}
use Rattle.vol_model.specs.Space.{covers, free_runs, is_in}
use Rattle.vol_model.proofs.Steps.{any_in_order}
use Rattle.track_records.specs.Written.{StandsOn}
use Rattle.vtoc_index.specs.declared.vol.Vol.{Vol}
use Rattle.vtoc_index.specs.Index.{IsMounted}
use Rattle.slot_laws.proofs.SameSlots.{KeepsVtoc, mounted_same, volume_same}
use Rattle.slot_laws.proofs.SameSlots.{slots_kept as kept_slots}
use Rattle.vtoc_sets.proofs.Owners.{either, is_within, map_at, read_bytes, run_at}
use Rattle.dadsm_ops.specs.Formatting.{AreSpare, DifferOn}

-- ---- what owns a track

or_second : (a b : Bool) → b ≡ true → (a || b) ≡ true
or_second true b is = refl
or_second false b is = is

owned_covers : (rs : List Run) (k t : ℕ) → slice_get (owned_tracks rs) k ≡ Some t → covers rs t ≡ true
unfolding owned_tracks
owned_covers [] k t is = cc
owned_covers (r ∷ rs) k t is = elim (either (tracks_in r) (flat_map tracks_in rs) k t is) [
  | inl w ↦ let at = run_at r.start r.len k t w in ap (λ (b : Bool). b || covers rs t) (is_within t r (omega (arith, at.0)) (omega (arith, at.0, at.1)))
  | inr w ↦ or_second (is_in t r) (covers rs t) (owned_covers rs w.0 t w.2)
]

any_at : (p : DataSet → Bool) (h : F1 → DataSet) (fs : List F1) (m : ℕ) (f : F1) → slice_get fs m ≡ Some f → p (h f) ≡ true → list_any p (map h fs) ≡ true
any_at p h [] m f is passes = cc
any_at p h (e ∷ fs) zero f is passes = let same : e ≡ f = cc in ap (λ (b : Bool). b || list_any p (map h fs)) (ap (λ (x : F1). p (h x)) same ∙ passes)
any_at p h (e ∷ fs) (suc m) f is passes = or_second (p (h e)) (list_any p (map h fs)) (any_at p h fs m f is passes)

apart : (a b c : Bool) → not (a || (b || c)) ≡ true → (a ≡ true → ⊥) × ((b ≡ true → ⊥) × (c ≡ true → ⊥))
apart true b c free = cc
apart false true c free = cc
apart false false true free = cc
apart false false false free = (λ is. cc, (λ is. cc, λ is. cc))

-- ---- images that differ so

module _ (before after : List ℕ) (v : Vol) (runs : List Run) (m : IsMounted before v) (differ : DifferOn v.geometry runs before after) (spare : AreSpare (volume_by before v.geometry v.vtoc) runs) where
  abbrev g : Geometry
  g = v.geometry

  abbrev slots : List VtocSlot
  slots = slots_of_vtoc before g v.vtoc

  abbrev fs : List F1
  fs = filter_map (λ (s : VtocSlot). set_in s.content) slots

  -- a track of the runs isn't track 0, and neither the VTOC nor a data set has it
  nobody : (k t : ℕ) → slice_get (owned_tracks runs) k ≡ Some t → ((t == 0) ≡ true → ⊥) × ((is_in t v.vtoc ≡ true → ⊥) × (list_any (λ (x : DataSet). covers x.extents t) (data_sets_in g (data_tracks before g v.vtoc) slots) ≡ true → ⊥))
  unfolding volume_with
  nobody k t there =
      let sets : List DataSet = data_sets_in g (data_tracks before g v.vtoc) slots in
      let none = apart (t == 0) (is_in t v.vtoc) (list_any (λ (x : DataSet). covers x.extents t) (in_order sets)) (spare.free k t there) in
      (none.0, (none.1.0, λ is. none.1.1 (any_in_order (λ (x : DataSet). covers x.extents t) sets ∙ is)))

  -- the label and the VTOC stay
  keeps : KeepsVtoc v before after
  keeps = record {
    size = differ.size;
    header = differ.header;
    front = differ.others 0 (λ k there. (nobody k 0 there).0 refl);
    vtoc = λ t within. differ.others t (λ k there. (nobody k t there).1.0 (is_within t v.vtoc within.0 within.1));
  }

  own : (j : ℕ) (f : F1) (i t : ℕ) → slice_get fs j ≡ Some f → slice_get (owned_tracks (counted_runs g slots f)) i ≡ Some t → (k : ℕ) → slice_get (owned_tracks runs) k ≡ Some t → ⊥
  unfolding data_sets_in data_set_of
  own j f i t is mine k there =
      (nobody k t there).1.1 (any_at (λ (x : DataSet). covers x.extents t) (data_set_of g (data_tracks before g v.vtoc) slots) fs j f is (owned_covers (counted_runs g slots f) i t mine))

  set_same : (j : ℕ) (f : F1) → slice_get fs j ≡ Some f → data_set_of g (data_tracks after g v.vtoc) slots f ≡ data_set_of g (data_tracks before g v.vtoc) slots f
  unfolding data_set_of
  set_same j f is =
      let extents : List Run = counted_runs g slots f in
      ap (λ (b : Body). record { name = record { bytes = f.name }; attr = attr_of f; extents = extents; body = b })
      (body_same g (data_tracks before g v.vtoc) (data_tracks after g v.vtoc) f.name (attr_of f) extents f.lstar (λ k t u mine. read_bytes g v.vtoc before after u t (differ.others t (own j f k t is mine))))

  pub slots_kept : slots_of_vtoc after g v.vtoc ≡ slots
  slots_kept = kept_slots before after v keeps

  -- They stand for one volume,
  pub volume_kept : volume_by after g v.vtoc ≡ volume_by before g v.vtoc
  unfolding data_sets_in
  volume_kept = volume_same before after v keeps (map_at (data_set_of g (data_tracks after g v.vtoc) slots) (data_set_of g (data_tracks before g v.vtoc) slots) fs set_same)

  -- and the index of the one is the other's, whatever its buffer holds of that.
  pub spare_mounted : ((v.buf.records ≡ []) ⊎ StandsOn after v.buf) → IsMounted after v
  spare_mounted held = mounted_same before after v keeps m (ap volume_faults volume_kept) (ap free_runs volume_kept) v.buf held
