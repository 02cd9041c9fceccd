-- The data sets and the volume of slots of which a free one gets the format 1 of a new data set.
use Rattle.std.proofs.Common.{◌≡◌, ◌*◌, ℕ, zero, suc, Bool, true, false, cond, List, [], ◌∷◌, map, length, Option, Some, None, refl, sym, ap, subst, ◌∙◌}
use Rattle.std.specs.Prelude.{◌||◌, slice_get, slice_range}
use Rattle.std.specs.List.{AllByRecursion, IsDistinct, cons_option, list_any}
use Rattle.std.specs.List.Sorted.{IsPermutation}
use Rattle.std.proofs.lemmas.List.Sorted.{IsPermutation-cons, IsPermutation-map, IsPermutation-middle, IsPermutation-refl, IsPermutation-sym, IsPermutation-trans}
use Rattle.ckd_image.specs.declared.header.Geometry.{Geometry}
use Rattle.ckd_image.specs.Device.{row_of}
use Rattle.dscb_codec.specs.declared.Dscb.TheVariants as formats
use Rattle.dscb_codec.specs.declared.F1.{F1}
use Rattle.ebcdic_names.specs.declared.names.Dsn.{Dsn}
use Rattle.pack_spec.specs.declared.slot.VtocSlot.{VtocSlot}
use Rattle.pack_spec.specs.Bodies.{body_of, catalog_of}
use Rattle.pack_spec.specs.Rules.{name_faults, set_in}
use Rattle.pack_spec.specs.Volume.{attr_of, data_set_of, data_sets_in, volume_with}
use Rattle.pack_spec.specs.Vtoc.{run_of_extent}
use Rattle.pack_spec.proofs.Lawful.{groups_hold}
use Rattle.pack_spec.proofs.SetNames.{distinct_sets, names_apart, sets_among}
use Rattle.vol_model.specs.declared.catalogs.CatBody.{CatBody}
use Rattle.vol_model.specs.declared.catalogs.CatBody.TheVariants as catalogs
use Rattle.vol_model.specs.declared.contents.Attr.{Attr}
use Rattle.vol_model.specs.declared.contents.DataSet.{DataSet}
use Rattle.vol_model.specs.declared.contents.Run.{Run}
use Rattle.vol_model.specs.declared.requests.Request.{Request}
use Rattle.vol_model.specs.Order.{in_order}
use Rattle.vol_model.specs.Places.{tracks_in}
use Rattle.vol_model.specs.Shelf.{catalog_name, has_name, is_catalog, new_attr, new_body, with_new}
use Rattle.vol_model.proofs.InOrder.{in_order-permutation, in_order-sorted}
use Rattle.vol_model.proofs.Steps.{any_in_order, ascending-distinct, in_order-ascending, same_names, sorted_in_order}
use Rattle.vtoc_index.specs.Index.{with_dscb}
use Rattle.dadsm_ops.proofs.NewSlots.{CanPut, counted_put, free_set, not_same}
use Rattle.dadsm_ops.proofs.RenamedSets.{named_in}

-- the format 1s in the slots are one more
sets_put : (f : F1) (k : ℕ) (y : List VtocSlot) (s : VtocSlot) → slice_get y k ≡ Some s → set_in s.content ≡ None → IsPermutation (f ∷ sets_among y) (sets_among (with_dscb k (formats.F1 f) y))
sets_put f k [] s at none = cc
sets_put f zero (x ∷ y) s at none =
    let same : x ≡ s = cc in
    let first : set_in x.content ≡ None = ap (λ (t : VtocSlot). set_in t.content) same ∙ none in
    subst (λ (o : Option F1). IsPermutation (f ∷ cons_option o (sets_among y)) (f ∷ sets_among y)) (sym first) (IsPermutation-refl (f ∷ sets_among y))
sets_put f (suc k) (x ∷ y) s at none = by_set (set_in x.content) (sets_put f k y s at none)
  where
    by_set : (o : Option F1) → IsPermutation (f ∷ sets_among y) (sets_among (with_dscb k (formats.F1 f) y)) → IsPermutation (f ∷ cons_option o (sets_among y)) (cons_option o (sets_among (with_dscb k (formats.F1 f) y)))
    by_set None more = more
    by_set (Some h) more =
        IsPermutation-trans _ _ _ (IsPermutation-sym _ _ (IsPermutation-middle (h ∷ []) f (sets_among y))) (IsPermutation-cons h _ _ more)

pub put_length : (k : ℕ) (f : F1) (y : List VtocSlot) → length (with_dscb k (formats.F1 f) y) ≡ length y
put_length k f [] = refl
put_length zero f (x ∷ y) = refl
put_length (suc k) f (x ∷ y) = ap suc (put_length k f y)

none_named : (x : DataSet) (sets : List DataSet) → list_any (has_name x.name.bytes) sets ≡ false → AllByRecursion (λ y. same_names x y ≡ false) sets
none_named x [] e = tt
none_named x (y ∷ sets) e =
    let both = parts (has_name x.name.bytes y) (list_any (has_name x.name.bytes) sets) e in
    (not_same y.name.bytes x.name.bytes both.0, none_named x sets both.1)
  where
    parts : (a b : Bool) → (a || b) ≡ false → (a ≡ false) × (b ≡ false)
    parts true b e = absurd cc
    parts false b e = (refl, e)

module _ (g : Geometry) (tracks : List (List ℕ)) (y : List VtocSlot) (k : ℕ) (f : F1) (can : CanPut g y k f) where
  abbrev z : List VtocSlot
  z = with_dscb k (formats.F1 f) y

  -- the data sets that were there, and the new one
  abbrev old : List DataSet
  old = data_sets_in g tracks y

  abbrev x : DataSet
  x = data_set_of g tracks y f

  same_set : data_set_of g tracks z ≡ data_set_of g tracks y
  unfolding data_set_of
  same_set = λ i h. record {
    name = record { bytes = h.name };
    attr = attr_of h;
    extents = map (run_of_extent g) (counted_put g y k f can h i);
    body = body_of g tracks h.name (attr_of h) (map (run_of_extent g) (counted_put g y k f can h i)) h.lstar;
  }

  sets_moved : IsPermutation (x ∷ old) (data_sets_in g tracks z)
  unfolding data_sets_in
  sets_moved =
      subst (λ (d : F1 → DataSet). IsPermutation (x ∷ old) (map d (sets_among z))) (sym same_set)
      (IsPermutation-map (data_set_of g tracks y) (f ∷ sets_among y) (sets_among z) (sets_put f k y can.slot can.there (free_set can.slot.content can.free)))

  old_ascend : IsDistinct same_names (in_order old)
  unfolding data_sets_in name_faults
  old_ascend = ascending-distinct (in_order old) (in_order-ascending old (distinct_sets g tracks y (sets_among y) (names_apart y (groups_hold g y can.lawful).2)))

  -- no set has the name
  pub none_has : list_any (has_name f.name) (in_order old) ≡ false
  none_has = any_in_order (has_name f.name) old ∙ named_in g tracks y f.name ∙ can.absent

  distinct : IsDistinct same_names (x ∷ in_order old)
  unfolding IsDistinct data_set_of
  distinct = (none_named x (in_order old) none_has, old_ascend)

  -- the sets are those, in the order of their names
  pub sets_with : in_order (data_sets_in g tracks z) ≡ in_order (x ∷ in_order old)
  sets_with = sorted_in_order (x ∷ in_order old) (in_order (data_sets_in g tracks z)) distinct
      (IsPermutation-trans _ _ _ (IsPermutation-cons x _ _ (IsPermutation-sym _ _ (in_order-permutation old))) (IsPermutation-trans _ _ _ sets_moved (in_order-permutation (data_sets_in g tracks z))))
      (in_order-sorted (data_sets_in g tracks z))

  catalog_with : is_catalog f.name ≡ false → catalog_of (in_order (data_sets_in g tracks z)) ≡ catalog_of (in_order old)
  unfolding catalog_of data_set_of
  catalog_with other =
      ap (λ (b : Bool). cond b (Some (catalogs.Unreadable 0)) None)
      (ap (list_any (has_name catalog_name)) sets_with ∙ any_in_order (has_name catalog_name) (x ∷ in_order old) ∙ ap (λ b. b || list_any (has_name catalog_name) (in_order old)) other)

  -- The volume has the new set and is else the same.
  pub volume_with_new : (label : List ℕ) (vtoc : Run) (dsn : Dsn) (attr : Attr) (q : Request) (dir : ℕ) (runs : List Run) → is_catalog f.name ≡ false → f.name ≡ dsn.bytes
      → x ≡ record { name = dsn; attr = new_attr dsn.bytes attr q; extents = runs; body = new_body g.device dsn.bytes attr dir }
      → volume_with g tracks label vtoc z ≡ with_new dsn attr q dir (volume_with g tracks label vtoc y) runs
  unfolding volume_with
  volume_with_new label vtoc dsn attr q dir runs other named is =
      let sets : in_order (data_sets_in g tracks z) ≡ in_order (record { name = dsn; attr = new_attr dsn.bytes attr q; extents = runs; body = new_body g.device dsn.bytes attr dir } ∷ in_order old) =
      sets_with ∙ ap (λ (w : DataSet). in_order (w ∷ in_order old)) is in
      let tree : CatBody = catalogs.Tree (tracks_in runs * (row_of g.device).directory_blocks_per_track) [] in
      let flat : is_catalog dsn.bytes ≡ false = ap is_catalog (sym named) ∙ other in
      let catalog : catalog_of (in_order (data_sets_in g tracks z)) ≡ cond (is_catalog dsn.bytes) (Some tree) (catalog_of (in_order old)) =
      catalog_with other ∙ sym (ap (λ (b : Bool). cond b (Some tree) (catalog_of (in_order old))) flat) in
      λ i. record {
        serial = record { bytes = slice_range label 4 10 };
        geometry = g;
        vtoc = vtoc;
        slots = put_length k f y i;
        sets = sets i;
        catalog = catalog i;
      }
