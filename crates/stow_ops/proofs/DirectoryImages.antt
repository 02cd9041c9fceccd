-- Images that differ on tracks of one partitioned data set alone: they differ in the body of that set, and both are mounted.
use Rattle.std.proofs.Common.{◌≡◌, ◌≢◌, ◌⊎◌, ℕ, zero, suc, Bool, true, false, cond, List, [], ◌∷◌, length, take, map, Option, Some, None, Ok, inl, inr, refl, sym, ap, ap₂, ◌∙◌, subst, ⊎_elim}
use Rattle.std.specs.Prelude.{slice_get, slice_range, unwrap_or, if◌then◌else◌}
use Rattle.std.specs.List.{AllByRecursion, IsDistinct, list_any}
use Rattle.std.specs.Str.{bytes_eq}
use Rattle.std.proofs.lemmas.Bool.Decides.{eqb_tells}
use Rattle.std.proofs.lemmas.Slice.Eq.{bytes_eq-Decides}
use Rattle.ckd_image.specs.declared.header.Geometry.{Geometry}
use Rattle.dscb_codec.specs.declared.F1.{F1}
use Rattle.pack_spec.specs.declared.slot.VtocSlot.{VtocSlot}
use Rattle.pack_spec.specs.Blocks.{owned_tracks}
use Rattle.pack_spec.specs.Bodies.{body_of, catalog_of}
use Rattle.pack_spec.specs.FreeChain.{IsChain, entries_of, free_entries}
use Rattle.pack_spec.specs.Label.{heads_of, label_of, track_bytes}
use Rattle.pack_spec.specs.Owned.{volume_faults}
use Rattle.pack_spec.specs.Rules.{name_faults}
use Rattle.pack_spec.specs.Settled.{AreGuarded, AreSettled, IsGuarded, IsSettledVtoc, slots_for}
use Rattle.pack_spec.specs.Slots.{slots_of_vtoc}
use Rattle.pack_spec.specs.Volume.{attr_of, counted_runs, data_set_of, data_sets_in, volume_by, volume_of, volume_with}
use Rattle.pack_spec.proofs.BodyKinds.{body_same}
use Rattle.pack_spec.proofs.Lawful.{groups_hold, lawful_volume}
use Rattle.pack_spec.proofs.SetNames.{names_apart, same_name}
use Rattle.shelf_laws.proofs.SetChanges.{KeepsNames, changed-any}
use Rattle.track_records.specs.Buffers.{Buffer}
use Rattle.track_records.specs.Written.{StandsOn}
use Rattle.vol_model.specs.declared.catalogs.CatBody.TheVariants as catalogs
use Rattle.vol_model.specs.declared.contents.Body.{Body}
use Rattle.vol_model.specs.declared.contents.DataSet.{DataSet}
use Rattle.vol_model.specs.declared.contents.Volume.{Volume}
use Rattle.vol_model.specs.Order.{IsAscending, in_order}
use Rattle.vol_model.specs.Shelf.{catalog_name, changed, has_name, with_set}
use Rattle.vol_model.specs.Space.{free_runs}
use Rattle.vtoc_index.specs.declared.vol.Vol.{Vol}
use Rattle.vtoc_index.specs.Index.{IsMounted}
use Rattle.vtoc_sets.specs.Sets.{extents_in}
use Rattle.pds_directory.specs.Directories.{IsPartIn, data_in, owned_in}
use Rattle.slot_laws.proofs.ChangedSets.{changed_in_order, faults_kept, free_kept}
use Rattle.pds_directory.proofs.PartSets.{among, fs, not_first, not_in_vtoc, others_apart, set_out, slots}
use Rattle.vtoc_sets.proofs.Owners.{on_same}
use Rattle.slot_laws.proofs.SameSlots.{KeepsVtoc, by_bytes, label_kept, mounted_same}
use Rattle.slot_laws.proofs.SameSlots.{slots_kept as kept_slots}

-- images that differ on tracks of a data set alone
pub record DifferOnOwned (v : Vol) (f : F1) (before after : List ℕ) : Type 0 where
  pub size : length after ≡ length before
  pub header : take 512 after ≡ take 512 before
  pub others : (track : ℕ) → ((k : ℕ) → slice_get (owned_in before v f) k ≡ Some track → ⊥) → track_bytes after v.geometry track ≡ track_bytes before v.geometry track

-- no two of these have one name
once_named : (xs : List F1) (n m : ℕ) (x y : F1) → IsDistinct same_name xs → slice_get xs n ≡ Some x → slice_get xs m ≡ Some y → x.name ≡ y.name → n ≡ m
unfolding IsDistinct
once_named [] n m x y apart first second same = cc
once_named (z ∷ xs) zero zero x y apart first second same = refl
once_named (z ∷ xs) zero (suc m) x y apart first second same = let here : z ≡ x = cc in absurd (none xs m y apart.0 second (ap (λ (e : F1). e.name) here ∙ same))
  where
    none : (ys : List F1) (m : ℕ) (y : F1) → AllByRecursion (λ (w : F1). same_name z w ≡ false) ys → slice_get ys m ≡ Some y → z.name ≡ y.name → ⊥
    none [] m y all is same = cc
    none (w ∷ ys) zero y all is same = let here : w ≡ y = cc in let both = (bytes_eq-Decides z.name w.name).1 (same ∙ ap (λ (e : F1). e.name) (sym here)) in cc
    none (w ∷ ys) (suc m) y all is same = none ys m y all.1 is same
once_named (z ∷ xs) (suc n) zero x y apart first second same = let here : z ≡ y = cc in absurd (none xs n x apart.0 first (ap (λ (e : F1). e.name) here ∙ sym same))
  where
    none : (ys : List F1) (m : ℕ) (y : F1) → AllByRecursion (λ (w : F1). same_name z w ≡ false) ys → slice_get ys m ≡ Some y → z.name ≡ y.name → ⊥
    none [] m y all is same = cc
    none (w ∷ ys) zero y all is same = let here : w ≡ y = cc in let both = (bytes_eq-Decides z.name w.name).1 (same ∙ ap (λ (e : F1). e.name) (sym here)) in cc
    none (w ∷ ys) (suc m) y all is same = none ys m y all.1 is same
once_named (z ∷ xs) (suc n) (suc m) x y apart first second same = ap suc (once_named xs n m x y apart.1 first second same)

map_through : {X Y Z : Type 0} (f : X → Z) (h : Y → Z) (g : X → Y) (xs : List X) → ((m : ℕ) (x : X) → slice_get xs m ≡ Some x → f x ≡ h (g x)) → map f xs ≡ map h (map g xs)
map_through f h g [] same = refl
map_through {Z = Z} f h g (x ∷ xs) same = ap₂ (λ (y : Z) (ys : List Z). y ∷ ys) (same zero x refl) (map_through f h g xs (λ m y is. same (suc m) y is))

module _ (before after : List ℕ) (v : Vol) (f : F1) (part : IsPartIn before v f) (differ : DifferOnOwned v f before after) where
  abbrev g : Geometry
  g = v.geometry

  -- the label and the VTOC stay
  keeps : KeepsVtoc v before after
  keeps = record {
    size = differ.size;
    header = differ.header;
    front = differ.others 0 (λ k there. not_first before v f part k there);
    vtoc = λ t within. differ.others t (λ k there. not_in_vtoc before v f part k t there within);
  }

  pub slots_kept : slots_of_vtoc after g v.vtoc ≡ slots before v f part
  slots_kept = kept_slots before after v keeps

  pub same_extents : (x : F1) → extents_in after v x ≡ extents_in before v x
  same_extents x = ap (λ (ss : List VtocSlot). counted_runs g ss x) slots_kept

  pub same_owned : (x : F1) → owned_in after v x ≡ owned_in before v x
  same_owned x = ap owned_tracks (same_extents x)

  abbrev all : List VtocSlot
  all = slots before v f part

  -- another set is as before
  other_same : (n : ℕ) (x : F1) → slice_get (fs before v f part) n ≡ Some x → n ≢ (among before v f part).0 → body_of g (data_in after v) x.name (attr_of x) (counted_runs g all x) x.lstar ≡ body_of g (data_in before v) x.name (attr_of x) (counted_runs g all x) x.lstar
  other_same n x is apart = body_same g (data_in before v) (data_in after v) x.name (attr_of x) (counted_runs g all x) x.lstar (λ k t u own.
      on_same g v.vtoc before after u t (set_out before v f part x n k t is own) (by_bytes g u t before after (differ.others t (λ j mine. others_apart before v f part x n j k t is apart own mine))))

  -- the body of the set
  abbrev pub new_body : Body
  new_body = body_of g (data_in after v) f.name (attr_of f) (counted_runs g all f) f.lstar

  abbrev pub with_body : DataSet → DataSet
  with_body x = record x { body = new_body }

  distinct : IsDistinct same_name (fs before v f part)
  unfolding name_faults
  distinct = names_apart all (groups_hold g all part.set.mounted.lawful).2

  abbrev pub was : F1 → DataSet
  was x = data_set_of g (data_in before v) all x

  abbrev pub now : F1 → DataSet
  now x = data_set_of g (data_in after v) all x

  -- Where the set of the one image is made of that of the other, so is its volume.
  module _ (G : DataSet → DataSet) (names : KeepsNames G) (own_set : now f ≡ G (was f)) where
    abbrev changed_set : DataSet → DataSet
    changed_set y = if has_name f.name y then G y else y

    first_set : now f ≡ changed_set (was f)
    unfolding data_set_of
    first_set = own_set ∙ sym (ap (λ (b : Bool). cond b (G (was f)) (was f)) ((bytes_eq-Decides f.name f.name).1 refl))

    other_set : (n : ℕ) (x : F1) → slice_get (fs before v f part) n ≡ Some x → n ≢ (among before v f part).0 → now x ≡ changed_set (was x)
    unfolding data_set_of
    other_set n x is apart =
        ap (λ (body : Body). record { name = record { bytes = x.name }; attr = attr_of x; extents = counted_runs g all x; body = body }) (other_same n x is apart)
        ∙ sym (ap (λ (b : Bool). cond b (G (was x)) (was x)) (not_true (bytes_eq x.name f.name) (λ e. apart (once_named (fs before v f part) n (among before v f part).0 x f distinct is (among before v f part).1 ((bytes_eq-Decides x.name f.name).0 e)))))
      where
        not_true : (b : Bool) → (b ≡ true → ⊥) → b ≡ false
        not_true true none = absurd (none refl)
        not_true false none = refl

    one_set : (n : ℕ) (x : F1) → slice_get (fs before v f part) n ≡ Some x → now x ≡ changed_set (was x)
    one_set n x is = ⊎_elim
        (λ w.
        let here : slice_get (fs before v f part) (among before v f part).0 ≡ Some x = ap (slice_get (fs before v f part)) (sym w.1) ∙ is in
        let same : f ≡ x = same_some f x (sym (among before v f part).1 ∙ here) in
        subst (λ (y : F1). now y ≡ changed_set (was y)) same first_set)
        (λ w. other_set n x is w.1)
        (eqb_tells n (among before v f part).0)
      where
        same_some : (x y : F1) → Some x ≡ Some y → x ≡ y
        same_some x y e = cc

    sets_kept : data_sets_in g (data_in after v) all ≡ changed f.name G (data_sets_in g (data_in before v) all)
    unfolding data_sets_in
    sets_kept = map_through now changed_set was (fs before v f part) one_set

    up : IsAscending (in_order (data_sets_in g (data_in before v) all))
    unfolding volume_with
    up = (lawful_volume before (volume_by before g v.vtoc) part.set.mounted.volume).order

    order_kept : in_order (data_sets_in g (data_in after v) all) ≡ changed f.name G (in_order (data_sets_in g (data_in before v) all))
    order_kept = ap in_order sets_kept ∙ changed_in_order f.name G names (data_sets_in g (data_in before v) all) up

    catalog_kept : catalog_of (in_order (data_sets_in g (data_in after v) all)) ≡ catalog_of (in_order (data_sets_in g (data_in before v) all))
    unfolding catalog_of
    catalog_kept = ap (λ (b : Bool). cond b (Some (catalogs.Unreadable 0)) None) (ap (list_any (has_name catalog_name)) order_kept ∙ changed-any f.name G names catalog_name (in_order (data_sets_in g (data_in before v) all)))

    pub volume_as : volume_by after g v.vtoc ≡ with_set (volume_by before g v.vtoc) f.name G
    unfolding volume_with
    volume_as =
        ap₂ (λ (o : Option (List ℕ)) (ss : List VtocSlot). volume_with g (data_in after v) (unwrap_or o []) v.vtoc ss) (label_kept before after v keeps) slots_kept
        ∙ (λ i. record {
          serial = record { bytes = slice_range (unwrap_or (label_of before g) []) 4 10 };
          geometry = g;
          vtoc = v.vtoc;
          slots = length all;
          sets = order_kept i;
          catalog = catalog_kept i;
        })

  own_body : now f ≡ with_body (was f)
  unfolding data_set_of
  own_body = refl

  -- The volumes differ in that body alone.
  pub volume_kept : volume_by after g v.vtoc ≡ with_set (volume_by before g v.vtoc) f.name with_body
  volume_kept = volume_as with_body (λ x. refl) own_body

  space_kept : free_runs (volume_by after g v.vtoc) ≡ free_runs (volume_by before g v.vtoc)
  space_kept = ap free_runs volume_kept ∙ free_kept f.name with_body (λ x. refl) (volume_by before g v.vtoc)

  -- and the index of one that is mounted is the other's, but for its buffer
  pub mounted_kept : (b : Buffer) → (b.records ≡ []) ⊎ StandsOn after b → IsMounted after (record v { buf = b })
  mounted_kept b held =
      mounted_same before after v keeps part.set.mounted (ap volume_faults volume_kept ∙ faults_kept f.name with_body (λ x. refl) (volume_by before g v.vtoc)) space_kept b held

  pub stands_kept : volume_of after ≡ Ok (volume_by after g v.vtoc)
  stands_kept = (mounted_kept (record (v.buf) { records = [] }) (inl refl)).volume

  -- ---- what is guarded or settled stays so

  same_volume : (volume : Volume) → volume_of before ≡ Ok volume → volume ≡ volume_by before g v.vtoc
  same_volume volume there = let same : Ok volume ≡ Ok (volume_by before g v.vtoc) = sym there ∙ part.set.mounted.volume in cc

  slots_now : slots_for after (volume_by after g v.vtoc) ≡ slots_for before (volume_by before g v.vtoc)
  unfolding volume_with
  slots_now = slots_kept

  entries_now : free_entries (volume_by after g v.vtoc) ≡ free_entries (volume_by before g v.vtoc)
  unfolding volume_with
  entries_now = ap (entries_of (heads_of g)) space_kept

  pub guarded_kept : IsGuarded before → IsGuarded after
  guarded_kept was =
      let there : AreGuarded (slots_for before (volume_by before g v.vtoc)) (volume_by before g v.vtoc) = subst (λ (x : Volume). AreGuarded (slots_for before x) x) (same_volume was.0 was.1) was.2 in (
        volume_by after g v.vtoc,
        stands_kept,
        subst (λ (ss : List VtocSlot). AreGuarded ss (volume_by after g v.vtoc)) (sym slots_now)
            (⊎_elim (λ marked. inl marked) (λ lists. inr (subst (IsChain (slots_for before (volume_by before g v.vtoc)) 1) (sym entries_now) lists)) there),
      )

  pub settled_kept : IsSettledVtoc before → IsSettledVtoc after
  settled_kept was =
      let there : AreSettled (slots_for before (volume_by before g v.vtoc)) (volume_by before g v.vtoc) = subst (λ (x : Volume). AreSettled (slots_for before x) x) (same_volume was.0 was.1) was.2 in (
        volume_by after g v.vtoc,
        stands_kept,
        subst (λ (ss : List VtocSlot). AreSettled ss (volume_by after g v.vtoc)) (sym slots_now) (record {
          head = there.head;
          first = there.first;
          bits = there.bits;
          chain = subst (IsChain (slots_for before (volume_by before g v.vtoc)) 1) (sym entries_now) there.chain;
          free = there.free;
          highest = there.highest;
          used = there.used;
          alone = there.alone ∙ sym (ap length entries_now);
        }),
      )
