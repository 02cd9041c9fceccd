-- The slots that a volume with a new data set needs, by the index, and why there are too few.
use Rattle.std.proofs.Common.{◌≡◌, ◌+◌, ◌-◌, ◌/◌, ◌≤◌, ◌<◌, ℕ, Bool, true, false, max, List, [], ◌∷◌, length, sym, ap, ◌∙◌, arith}
use Rattle.std.specs.Prelude.{Ok, Err}
use Rattle.ckd_image.specs.declared.header.Geometry.{Geometry}
use Rattle.ebcdic_names.specs.declared.names.Dsn.{Dsn}
use Rattle.hall_core.specs.Facts.{Attached}
use Rattle.pack_spec.specs.Label.{tracks_of}
use Rattle.pack_spec.specs.Volume.{volume_of, volume_with}
use Rattle.space_alloc.specs.Edits.{AreWithout}
use Rattle.vol_model.specs.declared.contents.Attr.{Attr}
use Rattle.vol_model.specs.declared.contents.Run.{Run}
use Rattle.vol_model.specs.declared.contents.Volume.{Volume}
use Rattle.vol_model.specs.declared.refusals.Refusal.TheVariants.{NoRoom, VtocFull}
use Rattle.vol_model.specs.declared.requests.Request.{Request}
use Rattle.vol_model.specs.Shelf.{allocate_on, lacks_room, with_new}
use Rattle.vol_model.specs.Places.{tracks_in}
use Rattle.vol_model.specs.Slots.{slots_needed}
use Rattle.vol_model.specs.Space.{AreApartFrom, EndBy, free_runs}
use Rattle.vol_model.proofs.FreeRuns.{EndBy-higher}
use Rattle.vtoc_index.specs.declared.vol.Vol.{Vol}
use Rattle.vtoc_index.specs.Index.{IsMounted, IsOfUnit}
use Rattle.vtoc_index.proofs.HeldDscbs.{dscbs_many}
use Rattle.vtoc_index.proofs.OwnedVolumes.{few_tracks}
use Rattle.vtoc_sets.specs.Sets.{slots_taken, volume_in}
use Rattle.dadsm_ops.specs.Allocating.{HasChoice, HasPlan, own_slots}
use Rattle.dadsm_ops.proofs.NewChoices.{geometry_is, volume_is}
use Rattle.dadsm_ops.proofs.NewVolumes.{allocate_crowded, allocate_full, free_runs_new, needed_new}
use Rattle.slot_laws.proofs.StandingPuts.{slots_by}

-- no free run reaches past track 65,534
pub free_within : (v : Vol) → (units : List Attached) × IsOfUnit units v → EndBy 65535 v.free.items
free_within v unit = EndBy-higher (tracks_of v.geometry) 65535 v.free.items (few_tracks v.geometry (_, unit.1.whole)) unit.1.free.1

module _ (image : List ℕ) (v : Vol) (volume : Volume) (mounted : IsMounted image v) (stands : volume_of image ≡ Ok volume) (dsn : Dsn) (attr : Attr) (q : Request) (dir : ℕ) (runs free : List Run) (without : AreWithout v.free.items runs free)
    (taken total : ℕ) (sets : taken ≡ slots_taken (volume_in image v).sets) (all : total ≡ 1 + max 1 ((length free + 25) / 26) + (taken + own_slots runs)) where
  slots_many : volume.slots ≡ length v.slots.items
  unfolding volume_with
  slots_many = ap (λ (x : Volume). x.slots) (volume_is image v volume mounted stands) ∙ sym (dscbs_many v.slots.items (slots_by image v) mounted.index.slots)

  needed : slots_needed (with_new dsn attr q dir volume runs) ≡ total
  needed =
      let is = volume_is image v volume mounted stands in
      let before : v.free.items ≡ free_runs volume = mounted.free ∙ ap free_runs (sym is) in
      let same : free ≡ free_runs (with_new dsn attr q dir volume runs) = free_runs_new dsn attr q dir volume runs v.free.items free before without in
      let count : taken ≡ slots_taken volume.sets = sets ∙ ap (λ (x : Volume). slots_taken x.sets) (sym is) in
      let need = needed_new dsn attr q dir volume runs in
      let half : (length (free_runs (with_new dsn attr q dir volume runs)) + 25) / 26 ≡ (length free + 25) / 26 = ap (λ (rs : List Run). (length rs + 25) / 26) (sym same) in
      need ∙ ap (λ (n : ℕ). 1 + max 1 n + (own_slots runs + slots_taken volume.sets)) half ∙ swapped (1 + max 1 ((length free + 25) / 26)) (own_slots runs) (slots_taken volume.sets) taken total count all
    where
      swapped : (a own sum taken total : ℕ) → taken ≡ sum → total ≡ a + (taken + own) → a + (own + sum) ≡ total
      swapped a own sum taken total e f = omega (arith, e, f)

  -- there are too few slots
  pub plan_full : HasChoice dsn attr q dir volume runs → length v.slots.items < total → allocate_on dsn attr q dir volume ≡ Err (VtocFull total)
  plan_full has more =
      let over : volume.slots < slots_needed (with_new dsn attr q dir volume runs) = omega (arith, more, slots_many, needed) in
      allocate_full dsn attr q dir volume has.absent has.right runs has.chosen over ∙ ap (λ (n : ℕ). Err (VtocFull n)) needed

  -- or enough, and the directory fits, or it doesn't
  module _ (enough : total ≤ length v.slots.items) where
    fits : slots_needed (with_new dsn attr q dir volume runs) ≤ volume.slots
    fits = omega (arith, enough, slots_many, needed)

    room_is : (b : Bool) → lacks_room v.geometry.device dsn.bytes dir (tracks_in runs) ≡ b → lacks_room volume.geometry.device dsn.bytes dir (tracks_in runs) ≡ b
    room_is b is = ap (λ (g : Geometry). lacks_room g.device dsn.bytes dir (tracks_in runs)) (geometry_is image v volume mounted stands) ∙ is

    pub plan_fits : HasChoice dsn attr q dir volume runs → lacks_room v.geometry.device dsn.bytes dir (tracks_in runs) ≡ false → HasPlan image dsn attr q dir runs
    plan_fits has roomy = record { volume = volume; stands = stands; has = has; fits = fits; roomy = room_is false roomy }

    pub plan_crowded : HasChoice dsn attr q dir volume runs → lacks_room v.geometry.device dsn.bytes dir (tracks_in runs) ≡ true → allocate_on dsn attr q dir volume ≡ Err NoRoom
    plan_crowded has crowded = allocate_crowded dsn attr q dir volume has.absent has.right runs has.chosen fits (room_is true crowded)

-- runs that lie apart are at most as many as the tracks that they lie on
few_runs : (low limit : ℕ) (rs : List Run) → AreApartFrom low rs → EndBy limit rs → length rs ≤ limit - low
few_runs low limit [] apart ends = omega arith
few_runs low limit (r ∷ rs) apart ends = omega (arith, apart.0, apart.1, ends.0, few_runs (r.start + r.len + 1) limit rs apart.2 ends.1)

-- so the free runs without the tracks of a set are few
pub without_few : (v : Vol) (runs left : List Run) → (units : List Attached) × IsOfUnit units v → AreWithout v.free.items runs left → length left ≤ 65535
without_few v runs left unit without = omega (arith, few_runs 0 65535 left without.maximal (without.within 65535 (free_within v unit)))
