-- What is chosen for a new data set from the index of a mounted image, and why it gets nothing.
use Rattle.std.proofs.Common.{◌≡◌, ◌+◌, ◌*◌, ◌≤◌, ◌<◌, ◌&&◌, not, ℕ, zero, suc, Bool, List, [], ◌∷◌, Option, Some, None, refl, sym, ap, subst, ◌∙◌, arith}
use Rattle.std.specs.Prelude.{Ok, Err, is_some, slice_get}
use Rattle.ckd_image.specs.declared.device.DiskType.{DiskType}
use Rattle.ckd_image.specs.declared.device.DiskType.TheVariants.{D2311, D2314, D3330, D3350}
use Rattle.ckd_image.specs.declared.header.Geometry.{Geometry}
use Rattle.ckd_image.specs.Device.{row_of}
use Rattle.hall_core.specs.Facts.{Attached}
use Rattle.pack_spec.specs.Blocks.{data_tracks}
use Rattle.pack_spec.specs.Volume.{volume_by, volume_of, volume_with}
use Rattle.space_alloc.specs.declared.extents.Extents.{Extents}
use Rattle.space_alloc.specs.declared.extents.NoSpace.{NoSpace}
use Rattle.space_alloc.specs.Units.{Chooses, listed}
use Rattle.vol_model.specs.declared.contents.Run.{Run}
use Rattle.vol_model.specs.declared.contents.Volume.{Volume}
use Rattle.vol_model.specs.declared.requests.Request.{Request}
use Rattle.vol_model.specs.Shelf.{has_set}
use Rattle.vol_model.specs.Space.{AreFreeRuns, AreRunsOf, AreTaken, EndBy, choice, covers, is_in, is_unowned, usable_cylinders}
use Rattle.vol_model.proofs.FreeRuns.{runs_of-AreRunsOf}
use Rattle.vol_model.proofs.Taken.{choice_from-taken}
use Rattle.vtoc_index.specs.declared.vol.Vol.{Vol}
use Rattle.vtoc_index.specs.Index.{IsMounted, IsOfUnit, first_named}
use Rattle.dadsm_ops.specs.Allocating.{AreExtents}
use Rattle.dadsm_ops.proofs.FoundSets.{named_alike}
use Rattle.dadsm_ops.proofs.RenamedSets.{has_set_found}
use Rattle.slot_laws.proofs.StandingPuts.{label_by, slots_by}

heads_some : (d : DiskType) → 0 < (row_of d).heads
heads_some D2311 = omega arith
heads_some D2314 = omega arith
heads_some D3330 = omega arith
heads_some D3350 = omega arith

-- what is taken has tracks, and can be written
written_each : (has : ℕ → Bool) (es : List Run) → AreTaken has es → EndBy 65535 es → (k : ℕ) (r : Run) → slice_get es k ≡ Some r → (1 ≤ r.len) × (r.start + r.len ≤ 65535)
written_each has [] taken ends k r at = cc
written_each has (e ∷ es) taken ends zero r at =
    let same : e ≡ r = cc in
    subst (λ (x : Run). (1 ≤ x.len) × (x.start + x.len ≤ 65535)) same (taken.0, ends.0)
written_each has (e ∷ es) taken ends (suc k) r at = written_each (λ t. has t && not (is_in t e)) es taken.2 ends.1 k r at

pub chosen_written : (v : Vol) (q : Request) (e : Extents) → (units : List Attached) × IsOfUnit units v → Chooses v.free.items v.geometry q (Ok e) → EndBy 65535 (listed e) → AreExtents (listed e)
chosen_written v q e unit chooses ends =
    let g : Geometry = v.geometry in
    let runs : AreRunsOf (covers v.free.items) (g.cylinders * (row_of g.device).heads) v.free.items = record { maximal = unit.1.free.0; within = unit.1.free.1; same = λ t low. refl } in
    let taken = choice_from-taken (covers v.free.items) g.cylinders (row_of g.device).heads q.unit q.contig q.primary (listed e) (heads_some g.device) (chooses (covers v.free.items) g.cylinders runs) in
    record { each = written_each (covers v.free.items) (listed e) taken.0 ends }

module _ (image : List ℕ) (v : Vol) (volume : Volume) (mounted : IsMounted image v) (stands : volume_of image ≡ Ok volume) where
  -- the volume is that of the index
  pub volume_is : volume ≡ volume_by image v.geometry v.vtoc
  volume_is = let same : Ok volume ≡ Ok (volume_by image v.geometry v.vtoc) = sym stands ∙ mounted.volume in cc

  pub geometry_is : volume.geometry ≡ v.geometry
  unfolding volume_with
  geometry_is = ap (λ (x : Volume). x.geometry) volume_is

  free_is : AreFreeRuns volume v.free.items
  free_is =
      subst (λ (x : Volume). AreFreeRuns x v.free.items) (sym volume_is)
      (subst (AreFreeRuns (volume_by image v.geometry v.vtoc)) (sym mounted.free) (runs_of-AreRunsOf (is_unowned (volume_by image v.geometry v.vtoc)) _))

  -- the answer from the free runs of the index is the choice
  pub chosen_some : (q : Request) (e : Extents) → Chooses v.free.items v.geometry q (Ok e) → choice volume q.unit q.contig q.primary ≡ Some (listed e)
  unfolding choice
  chosen_some q e chooses =
      let there : Chooses v.free.items volume.geometry q (Ok e) = subst (λ (g : Geometry). Chooses v.free.items g q (Ok e)) (sym geometry_is) chooses in
      there (is_unowned volume) (usable_cylinders volume.geometry) free_is

  pub chosen_none : (q : Request) (e : NoSpace) → Chooses v.free.items v.geometry q (Err e) → (choice volume q.unit q.contig q.primary ≡ None) × (e.asked ≡ q.primary)
  unfolding choice
  chosen_none q e chooses =
      let there : Chooses v.free.items volume.geometry q (Err e) = subst (λ (g : Geometry). Chooses v.free.items g q (Err e)) (sym geometry_is) chooses in
      there (is_unowned volume) (usable_cylinders volume.geometry) free_is

  -- whether a set has a name is told by the index
  pub has_named_set : (name : List ℕ) → has_set volume name ≡ is_some (first_named name v.slots.items)
  has_named_set name =
      ap (λ (x : Volume). has_set x name) volume_is
      ∙ has_set_found v.geometry (data_tracks image v.geometry v.vtoc) (label_by image v) v.vtoc (slots_by image v) name
      ∙ ap (λ (o : Option ℕ). is_some o) (named_alike name v.slots.items (slots_by image v) mounted.index.slots)
