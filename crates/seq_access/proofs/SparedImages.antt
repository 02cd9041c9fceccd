-- Images that differ on tracks of a data set after the last record that is read stand for one volume.
use Rattle.std.proofs.Common.{◌≡◌, ◌⊎◌, ◌+◌, ◌≤◌, ◌<◌, ℕ, List, [], length, take, Some, None, inl, inr, sym, ap, ◌∙◌, subst, arith}
use Rattle.std.specs.Prelude.{slice_get}
use Rattle.std.proofs.lemmas.Bool.Decides.{eqb_tells}
use Rattle.ckd_image.specs.declared.header.Geometry.{Geometry}
use Rattle.ckd_image.specs.Header.{HasGeometry}
use Rattle.ckd_image.specs.Track.{Record}
use Rattle.dscb_codec.specs.declared.F1.{F1}
use Rattle.pack_spec.specs.declared.slot.VtocSlot.{VtocSlot}
use Rattle.pack_spec.specs.Blocks.{records_in}
use Rattle.pack_spec.specs.Bodies.{body_of}
use Rattle.pack_spec.specs.Label.{records_on, tracks_of}
use Rattle.pack_spec.specs.Owned.{volume_faults}
use Rattle.pack_spec.specs.Slots.{slots_of_vtoc}
use Rattle.pack_spec.specs.Volume.{attr_of, counted_runs, data_sets_in, volume_by}
use Rattle.vol_model.specs.declared.contents.Place.{Place}
use Rattle.vol_model.specs.Space.{free_runs}
use Rattle.stop_model.specs.Files.{patched}
use Rattle.track_records.specs.Appends.{continuation, place_behind, start_behind}
use Rattle.track_records.specs.Buffers.{Buffer}
use Rattle.track_records.specs.Written.{StandsOn}
use Rattle.track_records.proofs.ContinueLemmas.{TrackPatched, track_patched}
use Rattle.track_records.proofs.FrontLemmas.{kept_behind}
use Rattle.vtoc_index.specs.declared.vol.Vol.{Vol}
use Rattle.vtoc_index.specs.Index.{IsMounted}
use Rattle.vtoc_sets.specs.Sets.{extents_in}
use Rattle.seq_access.specs.Writing.{DifferBehind}
use Rattle.seq_access.specs.Bodies.{IsLastOf, IsSetIn, body_of_set, data_in, owned_in}
use Rattle.slot_laws.proofs.SameSlots.{KeepsVtoc, by_bytes, mounted_same, volume_same}
use Rattle.slot_laws.proofs.SameSlots.{slots_kept as kept_slots}
use Rattle.vtoc_sets.proofs.KeptBodies.{sets_same}
use Rattle.vtoc_sets.proofs.OwnedSets.{among, not_first, not_in_vtoc, outside, own_once, set_out, sets_once}
use Rattle.vtoc_sets.proofs.Owners.{on_same as on_tracks}
use Rattle.seq_access.proofs.OwnBodies.{own_same}

module _ (before after : List ℕ) (v : Vol) (f : F1) (set : IsSetIn before v f) (last : Place) (differ : DifferBehind v f last before after) where
  abbrev slots : List VtocSlot
  slots = slots_of_vtoc before v.geometry v.vtoc

  -- the label and the VTOC stay
  pub keeps : KeepsVtoc v before after
  keeps = record {
    size = differ.size;
    header = differ.header;
    front = differ.others 0 (λ k there past. not_first before v f set k there);
    vtoc = λ t within. differ.others t (λ k there past. not_in_vtoc before v f set k t there within);
  }

  pub slots_kept : slots_of_vtoc after v.geometry v.vtoc ≡ slots
  slots_kept = kept_slots before after v keeps

  pub same_extents : (x : F1) → extents_in after v x ≡ extents_in before v x
  same_extents x = ap (λ (ss : List VtocSlot). counted_runs v.geometry ss x) slots_kept

  -- its body is the same, if the record is its last
  pub own_kept : IsLastOf before v f last → body_of v.geometry (data_in after v) f.name (attr_of f) (extents_in before v f) f.lstar ≡ body_of_set before v f
  own_kept ends = own_same v.geometry (data_in before v) (data_in after v) f.name (attr_of f) (extents_in before v f) f.lstar last (earlier, at) ends.0 ends.1
    where
      g : Geometry
      g = v.geometry

      earlier : (k t : ℕ) → k < last.tt → slice_get (owned_in before v f) k ≡ Some t → records_in g (data_in after v) None t ≡ records_in g (data_in before v) None t
      earlier k t low own = on_tracks g v.vtoc before after None t (outside before v f set k t own) (by_bytes g None t before after (differ.others t (λ j mine past. absurd (omega (arith, past, low, own_once before v f set k j t own mine)))))

      at : (t : ℕ) → slice_get (owned_in before v f) last.tt ≡ Some t → 1 ≤ last.r → records_in g (data_in after v) (Some last.r) t ≡ records_in g (data_in before v) (Some last.r) t
      at t own first = on_tracks g v.vtoc before after (Some last.r) t (outside before v f set last.tt t own) (differ.kept t own first)

  module _ (ends : IsLastOf before v f last) where
    -- the sets are the same
    sets_kept : data_sets_in v.geometry (data_in after v) slots ≡ data_sets_in v.geometry (data_in before v) slots
    sets_kept =
        let place = among before v f set in
        sets_same v.geometry v.vtoc before after slots place.0 f place.1 (sets_once before v f set) (set_out before v f set) (λ t out. differ.others t (λ k there past. out k there)) (own_kept ends)

    -- so the volume is
    pub volume_kept : volume_by after v.geometry v.vtoc ≡ volume_by before v.geometry v.vtoc
    volume_kept = volume_same before after v keeps sets_kept

    -- and the index of one that is mounted is the other's, but for its buffer
    pub spared_mounted : ((v.buf.records ≡ []) ⊎ StandsOn after v.buf) → IsMounted after v
    spared_mounted held = mounted_same before after v keeps set.set.mounted (ap volume_faults volume_kept) (ap free_runs volume_kept) v.buf held

-- A write after the records of a buffer, on a track of the set that isn't before its last block's, leaves images that differ so.
pub spared_write : (before image : List ℕ) (v : Vol) (f : F1) (last : Place) (b : Buffer) (new : List Record) (k : ℕ) → b.geometry ≡ v.geometry → HasGeometry (length image) v.geometry → b.track < tracks_of v.geometry → start_behind b.records + length (continuation b new) ≤ v.geometry.track_size
    → slice_get (owned_in before v f) k ≡ Some b.track → last.tt ≤ k
    → (slice_get (owned_in before v f) last.tt ≡ Some b.track → 1 ≤ last.r → (last.r ≤ length b.records) × (records_on before v.geometry (Some last.r) b.track ≡ Some (take last.r b.records)))
    → DifferBehind v f last before image → DifferBehind v f last before (patched image (place_behind b) (continuation b new))
spared_write before image v f last b new k same has low room there past first differ =
    let g : Geometry = v.geometry in
    let has' : HasGeometry (length image) b.geometry = subst (HasGeometry (length image)) (sym same) has in
    let low' : b.track < tracks_of b.geometry = subst (λ (x : Geometry). b.track < tracks_of x) (sym same) low in
    let room' : start_behind b.records + length (continuation b new) ≤ b.geometry.track_size = subst (λ (x : Geometry). start_behind b.records + length (continuation b new) ≤ x.track_size) (sym same) room in
    let zs : List ℕ = patched image (place_behind b) (continuation b new) in
    let p0 : TrackPatched b.geometry b.track (start_behind b.records) (continuation b new) image zs = track_patched b.geometry b.track (start_behind b.records) (continuation b new) image has' low' room' in
    let p : TrackPatched g b.track (start_behind b.records) (continuation b new) image zs = subst (λ (x : Geometry). TrackPatched x b.track (start_behind b.records) (continuation b new) image zs) same p0 in
    let r : ℕ = last.r in
    record {
      size = p.size ∙ differ.size;
      header = p.header ∙ differ.header;
      others = λ track out. p.others track (λ e. out k (there ∙ ap (λ (t : ℕ). Some t) (sym e)) past) ∙ differ.others track out;
      kept = λ track at some. elim (eqb_tells track b.track) [
        | inl w ↦ here track w.1 at some
        | inr w ↦ by_bytes g (Some r) track image zs (p.others track w.1) ∙ differ.kept track at some
      ];
    }
  where
    here : (track : ℕ) → track ≡ b.track → slice_get (owned_in before v f) last.tt ≡ Some track → 1 ≤ last.r → records_on (patched image (place_behind b) (continuation b new)) v.geometry (Some last.r) track ≡ records_on before v.geometry (Some last.r) track
    here track e at some =
        let r : ℕ = last.r in
        let zs : List ℕ = patched image (place_behind b) (continuation b new) in
        let mine : slice_get (owned_in before v f) last.tt ≡ Some b.track = at ∙ ap (λ (t : ℕ). Some t) e in
        let held = first mine some in
        let now : records_on image v.geometry (Some r) b.track ≡ Some (take r b.records) = differ.kept b.track mine some ∙ held.1 in
        let now' : records_on image b.geometry (Some r) b.track ≡ Some (take r b.records) = ap (λ (x : Geometry). records_on image x (Some r) b.track) same ∙ now in
        let has' : HasGeometry (length image) b.geometry = subst (HasGeometry (length image)) (sym same) has in
        let low' : b.track < tracks_of b.geometry = subst (λ (x : Geometry). b.track < tracks_of x) (sym same) low in
        let room' : start_behind b.records + length (continuation b new) ≤ b.geometry.track_size = subst (λ (x : Geometry). start_behind b.records + length (continuation b new) ≤ x.track_size) (sym same) room in
        let kept : records_on zs b.geometry (Some r) b.track ≡ Some (take r b.records) = kept_behind b new image r has' low' room' some held.0 now' in
        ap (records_on zs v.geometry (Some r)) e
        ∙ ap (λ (x : Geometry). records_on zs x (Some r) b.track) (sym same)
        ∙ kept ∙ sym held.1
        ∙ ap (records_on before v.geometry (Some r)) (sym e)
