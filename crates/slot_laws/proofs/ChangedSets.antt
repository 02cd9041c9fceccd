-- Data sets of which the one of a name is changed, but in its name and extents.
use Rattle.std.proofs.Common.{◌≡◌, ◌*◌, ℕ, Bool, true, false, cond, List, [], ◌∷◌, ◌++◌, map, filter, refl, sym, ◌∙◌, ap, ap₂, subst}
use Rattle.std.specs.Prelude.{nat_le, nat_lt, if◌then◌else◌}
use Rattle.std.specs.List.{count_by, range_with_len}
use Rattle.std.specs.List.Sorted.{IsSortedBy, ties}
use Rattle.ckd_image.specs.Device.{row_of}
use Rattle.pack_spec.specs.Owned.{overlap_faults, room_faults, volume_faults}
use Rattle.pack_spec.specs.Label.{tracks_of}
use Rattle.pack_spec.specs.declared.MountErr.TheVariants.{Overlap, VtocFull}
use Rattle.shelf_laws.proofs.SetChanges.{KeepsExtents, KeepsNames, all_extents, changed-ascending, filter_same, slots_kept, unowned_kept}
use Rattle.vol_model.specs.declared.contents.DataSet.{DataSet}
use Rattle.vol_model.specs.declared.contents.Run.{Run}
use Rattle.vol_model.specs.declared.contents.Volume.{Volume}
use Rattle.ebcdic_names.specs.declared.names.Dsn.{Dsn}
use Rattle.vol_model.specs.Order.{IsAscending, in_order, is_before}
use Rattle.vol_model.specs.Shelf.{changed, has_name, with_set}
use Rattle.vol_model.specs.Space.{free_runs, is_in, is_unowned, runs_of, usable_cylinders}
use Rattle.vol_model.proofs.InOrder.{in_order-sorted, in_order-stable, in_order-unique}
use Rattle.vol_model.proofs.Steps.{ascending_in_order}

-- ---- the order of their names stays

module _ (name : List ℕ) (f : DataSet → DataSet) (names : KeepsNames f) (sets : List DataSet) (up : IsAscending (in_order sets)) where
  abbrev one : DataSet → DataSet
  one y = if has_name name y then f y else y

  by_name : (x : DataSet) (d e : Dsn) → d ≡ e → (y z : DataSet) → y.name ≡ d → z.name ≡ e → ties is_before x y ≡ ties is_before x z
  by_name x d e same y z first second = ap (λ (n : Dsn). ties is_before x (record y { name = n })) (first ∙ same ∙ sym second)

  ties_alike : (x y : DataSet) → ties is_before x (one y) ≡ ties is_before x y
  ties_alike x y = by_test (has_name name y)
    where
      by_test : (b : Bool) → ties is_before x (cond b (f y) y) ≡ ties is_before x y
      by_test true = by_name x y.name y.name refl (f y) y (names y) refl
      by_test false = refl

  kept_map : (p : DataSet → Bool) → ((y : DataSet) → p (one y) ≡ p y) → (xs : List DataSet) → filter p (map one xs) ≡ map one (filter p xs)
  kept_map p same [] = refl
  kept_map p same (x ∷ xs) = ap (λ (b : Bool). cond b (one x ∷ filter p (map one xs)) (filter p (map one xs))) (same x) ∙ by_test (p x) (kept_map p same xs)
    where
      by_test : (b : Bool) → filter p (map one xs) ≡ map one (filter p xs) → cond b (one x ∷ filter p (map one xs)) (filter p (map one xs)) ≡ map one (cond b (x ∷ filter p xs) (filter p xs))
      by_test true rest = ap (λ (l : List DataSet). one x ∷ l) rest
      by_test false rest = rest

  pub changed_in_order : in_order (changed name f sets) ≡ changed name f (in_order sets)
  changed_in_order =
      let now : List DataSet = changed name f (in_order sets) in
      let same : in_order now ≡ now = ascending_in_order now (changed-ascending name f names (in_order sets) up) in
      sym (in_order-unique (changed name f sets) now (subst (IsSortedBy is_before) same (in_order-sorted now))
      (λ x. kept_map (ties is_before x) (ties_alike x) (in_order sets) ∙ ap (map one) (in_order-stable sets x) ∙ sym (kept_map (ties is_before x) (ties_alike x) sets)))

-- ---- extents that stay

module _ (name : List ℕ) (f : DataSet → DataSet) (extents : KeepsExtents f) (volume : Volume) where
  pub free_kept : free_runs (with_set volume name f) ≡ free_runs volume
  free_kept =
      let limit = usable_cylinders volume.geometry * (row_of volume.geometry.device).heads in
      ap runs_of (filter_same (is_unowned (with_set volume name f)) (is_unowned volume) (unowned_kept name f extents volume) (range_with_len 0 limit))

  -- the rules that the volume breaks as a whole
  pub faults_kept : volume_faults (with_set volume name f) ≡ volume_faults volume
  unfolding volume_faults overlap_faults room_faults
  faults_kept = ap₂
      (λ (l : List Run) (n : ℕ). map Overlap (filter (λ t. nat_le 2 (count_by (is_in t) (record { start = 0; len = 1 } ∷ volume.vtoc ∷ l))) (range_with_len 0 (tracks_of volume.geometry))) ++ (if nat_lt volume.slots n then VtocFull n ∷ [] else []))
      (all_extents name f extents volume.sets) (slots_kept name f extents volume)
