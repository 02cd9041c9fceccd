-- Whether an image is settled, by the scan of it.
use Rattle.std.proofs.Common.{◌≡◌, ◌<◌, ⊎_elim, ℕ, zero, suc, Bool, true, false, ◌&&◌, List, [], ◌∷◌, get_or, length, Option, Some, None, Ok, refl, sym, ap, subst, ◌∙◌, arith}
use Rattle.std.specs.Prelude.{◌↔◌, ◌==◌, IsTrue, option_and_then, slice_get}
use Rattle.std.specs.Option.{option_map}
use Rattle.std.proofs.lemmas.Bool.{eqb-true}
use Rattle.std.proofs.lemmas.Option.{slice_get-get_or}
use Rattle.dscb_codec.specs.declared.Dscb.{Dscb}
use Rattle.dscb_codec.specs.declared.Dscb.TheVariants as formats
use Rattle.dscb_codec.specs.declared.F1.{F1}
use Rattle.free_rebuild.specs.Settled.{is_settled_vtoc}
use Rattle.free_rebuild.proofs.SettledBool.{settled_true, settled_vtoc}
use Rattle.pack_spec.specs.Rules.{set_in}
use Rattle.pack_spec.specs.Settled.{ArePacked, HasPacked, IsSettled, IsSettledVtoc}
use Rattle.pack_spec.specs.Volume.{volume_with}
use Rattle.seq_access.specs.Bodies.{data_in}
use Rattle.vol_model.specs.declared.contents.DataSet.{DataSet}
use Rattle.vtoc_index.specs.Index.{IsMounted}
use Rattle.vtoc_index.specs.Names.{AreByName, name_at}
use Rattle.vtoc_index.specs.declared.vol.Vol.{Vol}
use Rattle.vtoc_index.proofs.NameOrder.{name_there, place_named}
use Rattle.vtoc_sets.specs.Sets.{volume_in}
use Rattle.mount_repair.specs.Scans.{AreUnpacked, IsListed}
use Rattle.mount_repair.specs.Sets.{IsPackedSet, set_by}
use Rattle.mount_repair.specs.Walks.{IsWalkOf}
use Rattle.mount_repair.specs.declared.scanned.Unpacked.{Unpacked}
use Rattle.mount_repair.specs.declared.walk.Walk.{Walk}
use Rattle.mount_repair.proofs.RepairSteps.{one_volume}
use Rattle.mount_repair.proofs.SetsByName.{kth_set, name_here, no_more_sets}

-- a slot that has a name holds a format 1
pub format_there : (items : List Dscb) (slot : ℕ) (n : List ℕ) → name_at items slot ≡ Some n → (f : F1) × (slice_get items slot ≡ Some (formats.F1 f))
format_there items slot n named = by (slice_get items slot) refl named
  where
    by : (o : Option Dscb) → slice_get items slot ≡ o → option_and_then (λ (d : Dscb). option_map (λ (x : F1). x.name) (set_in (Ok d))) o ≡ Some n → (f : F1) × (slice_get items slot ≡ Some (formats.F1 f))
    by None at is = cc
    by (Some formats.F0) at is = cc
    by (Some (formats.F1 f)) at is = (f, at)
    by (Some (formats.F3 f)) at is = cc
    by (Some (formats.F4 f)) at is = cc
    by (Some (formats.F5 f)) at is = cc

module _ (image : List ℕ) (v : Vol) (mounted : IsMounted image v) (order : AreByName (name_at v.slots.items) v.by_name.items) where
  -- each data set is that of a format 1 in a slot
  pub set_in_slot : (k : ℕ) (d : DataSet) → slice_get (volume_in image v).sets k ≡ Some d → (slot : ℕ) × (f : F1) × (slice_get v.slots.items slot ≡ Some (formats.F1 f)) × (d ≡ set_by image v f)
  set_in_slot k d there = by (slice_get v.by_name.items k) refl
    where
      some_set : {a b : DataSet} → Some a ≡ Some b → a ≡ b
      some_set same = cc

      within : (xs : List ℕ) (j s : ℕ) → slice_get xs j ≡ Some s → (j < length xs) × (get_or xs j 0 ≡ s)
      within [] j s at = cc
      within (x ∷ xs) zero s at = let same : x ≡ s = cc in (omega arith, same)
      within (x ∷ xs) (suc j) s at = let rest = within xs j s at in (omega (arith, rest.0), rest.1)

      by : (o : Option ℕ) → slice_get v.by_name.items k ≡ o → (slot : ℕ) × (f : F1) × (slice_get v.slots.items slot ≡ Some (formats.F1 f)) × (d ≡ set_by image v f)
      by None at = let wrong : None ≡ Some d = sym (no_more_sets image v mounted order k at) ∙ there in cc
      by (Some slot) at =
          let place = within v.by_name.items k slot at in
          let named = name_there (name_at v.slots.items) v.by_name.items order k place.0 in
          let found = format_there v.slots.items slot named.0 (ap (name_at v.slots.items) (sym place.1) ∙ named.1) in
          (slot, found.0, found.1, some_set (sym there ∙ kth_set image v mounted order k slot found.0 at found.1))

  -- where no directory is listed all are packed
  pub all_packed : AreUnpacked image v [] → ArePacked image (volume_in image v)
  unfolding volume_with
  all_packed none k d there =
      let found = set_in_slot k d there in
      subst (λ (x : DataSet). HasPacked v.geometry (data_in image v) x.extents x.body) (sym found.3)
      (⊎_elim (λ packed. packed) (λ listed. absurd (nothing listed)) (none.others found.0 found.1 found.2))
    where
      nothing : {slot : ℕ} → IsListed [] slot → ⊥
      nothing listed = let wrong : None ≡ Some listed.1 = listed.2 in cc

  -- and where all are packed that of each format 1 is
  pub each_packed : ArePacked image (volume_in image v) → (slot : ℕ) (f : F1) → slice_get v.slots.items slot ≡ Some (formats.F1 f) → IsPackedSet image v f
  unfolding volume_with
  each_packed packed slot f is =
      let place = place_named (name_at v.slots.items) v.by_name.items order slot f.name (name_here image v mounted order slot f is) in
      packed place.0 (set_by image v f) (kth_set image v mounted order place.0 slot f (slice_get-get_or v.by_name.items place.0 0 place.1 ∙ ap (λ (s : ℕ). Some s) place.2) is)

  pub settled_of : IsSettledVtoc image → ArePacked image (volume_in image v) → IsSettled image
  settled_of vtoc packed = (vtoc.0, vtoc.1, vtoc.2, subst (ArePacked image) (one_volume (sym mounted.volume ∙ vtoc.1)) packed)

  packed_of : IsSettled image → ArePacked image (volume_in image v)
  packed_of is = subst (ArePacked image) (one_volume (sym is.1 ∙ mounted.volume)) is.3

  settled_both : (w : Walk) (vtoc empty : Bool) → IsWalkOf image v w → vtoc ≡ is_settled_vtoc image → (empty ≡ true → w.unpacked.items ≡ []) → (empty ≡ false → (u : Unpacked) × (slice_get w.unpacked.items 0 ≡ Some u)) → IsTrue (vtoc && empty) ↔ IsSettled image
  settled_both w vtoc empty walk vtoc_is nothing something = (to vtoc empty refl refl, from vtoc empty refl refl)
    where
      to : (a b : Bool) → vtoc ≡ a → empty ≡ b → (a && b) ≡ true → IsSettled image
      to false b is is_empty both = cc
      to true false is is_empty both = cc
      to true true is is_empty both =
          settled_of (settled_vtoc image (sym vtoc_is ∙ is)) (all_packed (subst (AreUnpacked image v) (nothing is_empty) walk.unpacked))

      from : (a b : Bool) → vtoc ≡ a → empty ≡ b → IsSettled image → (a && b) ≡ true
      from true true is is_empty settled = refl
      from false b is is_empty settled = let wrong : false ≡ true = sym is ∙ vtoc_is ∙ settled_true image (settled.0, settled.1, settled.2) in cc
      from true false is is_empty settled =
          let first = something is_empty in
          let can = walk.unpacked.each 0 first.0 first.1 in
          absurd (walk.none 0 first.0 can.set first.1 can.slot (each_packed (packed_of settled) first.0.slot can.set can.slot))

  -- the scan tells whether it is settled
  pub settled_then : (w : Walk) (vtoc empty : Bool) → IsWalkOf image v w → vtoc ≡ is_settled_vtoc image → vtoc ≡ true → empty ≡ (length w.unpacked.items == 0) → IsTrue empty ↔ IsSettled image
  settled_then w vtoc empty walk vtoc_is is empty_is =
      subst (λ (b : Bool). IsTrue (b && empty) ↔ IsSettled image) is
      (settled_both w vtoc empty walk vtoc_is (λ all. nothing w.unpacked.items (sym empty_is ∙ all)) (λ some. something w.unpacked.items (sym empty_is ∙ some)))
    where
      nothing : (us : List Unpacked) → (length us == 0) ≡ true → us ≡ []
      nothing [] none = refl
      nothing (u ∷ us) none = let same : length (u ∷ us) ≡ 0 = eqb-true (length (u ∷ us)) 0 none in absurd (omega (arith, same))

      something : (us : List Unpacked) → (length us == 0) ≡ false → (u : Unpacked) × (slice_get us 0 ≡ Some u)
      something [] some = cc
      something (u ∷ us) some = (u, refl)

  pub settled_else : (vtoc : Bool) → vtoc ≡ is_settled_vtoc image → vtoc ≡ false → IsTrue vtoc ↔ IsSettled image
  settled_else vtoc vtoc_is is = (λ yes. let wrong : false ≡ true = sym is ∙ yes in absurd cc, λ settled. vtoc_is ∙ settled_true image (settled.0, settled.1, settled.2))
