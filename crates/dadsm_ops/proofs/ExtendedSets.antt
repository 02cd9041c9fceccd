-- The format 1 of a data set with added extents, as it is read: the set with these extents, and its body as it was.
use Rattle.std.proofs.Common.{◌≡◌, ◌+◌, ◌-◌, ◌≤◌, ℕ, Bool, true, false, cond, ◌||◌, ◌&&◌, List, [], ◌∷◌, ◌++◌, length, map, ◌/◌, Option, Some, None, refl, ap, ap₂, ◌∙◌, arith}
use Rattle.std.specs.Prelude.{◌==◌, nat_le, nat_lt, slice_get}
use Rattle.std.specs.List.{AllByRecursion, list_all}
use Rattle.std.specs.Option.{option_map_or}
use Rattle.std.proofs.lemmas.Bool.{and_parts}
use Rattle.std.proofs.lemmas.Bool.Decides.{nat_tests}
use Rattle.std.proofs.lemmas.List.{map-append}
use Rattle.ckd_image.specs.declared.header.Geometry.{Geometry}
use Rattle.dscb_codec.specs.declared.F1.{F1}
use Rattle.pack_spec.specs.declared.slot.VtocSlot.{VtocSlot}
use Rattle.pack_spec.specs.Bodies.{body_of}
use Rattle.pack_spec.specs.Label.{tracks_of}
use Rattle.pack_spec.specs.Rules.{counted_extents, has_extents, has_types}
use Rattle.pack_spec.specs.Volume.{attr_of, data_set_of}
use Rattle.pack_spec.specs.Vtoc.{is_counted_type, is_extent, is_field_type, run_of_extent}
use Rattle.pack_spec.proofs.BodyKinds.{body_more}
use Rattle.vol_model.specs.declared.contents.Attr.{Attr}
use Rattle.vol_model.specs.declared.contents.Run.{Run}
use Rattle.vol_model.specs.Lawful.{IsOnPack}
use Rattle.vol_model.specs.Shelf.{unreadable, with_extents}
use Rattle.dadsm_ops.specs.Allocating.{extent_bytes}
use Rattle.dadsm_ops.specs.Extending.{added_extents, added_field, added_fields, added_type, f1_with}
use Rattle.dadsm_ops.proofs.AddedFields.{added_numbered}
use Rattle.dadsm_ops.proofs.NewExtents.{numbered_inside, numbered_read, numbered_types}

-- the type of the added extents is that of an extent with data
pub added_counted : (attr : Attr) → ((added_type attr == 0x01) || (added_type attr == 0x81)) ≡ true
added_counted attr = by (attr.scalo / 64 == 3)
  where
    by : (b : Bool) → ((cond b 0x81 0x01 == 0x01) || (cond b 0x81 0x01 == 0x81)) ≡ true
    by true = refl
    by false = refl

all_append : {X : Type 0} (p : X → Bool) (xs ys : List X) → list_all p xs ≡ true → list_all p ys ≡ true → list_all p (xs ++ ys) ≡ true
all_append p [] ys one two = two
all_append p (x ∷ xs) ys one two = let parts = and_parts (p x) (list_all p xs) one in ap₂ (λ (a b : Bool). a && b) parts.0 (all_append p xs ys parts.1 two)

-- ---- the set

module _ (g : Geometry) (few : tracks_of g ≤ 65536) (slots : List VtocSlot) (kind : ℕ) (counts : ((kind == 0x01) || (kind == 0x81)) ≡ true) (f : F1) (runs : List Run) (pointer : List ℕ) (on_pack : AllByRecursion (IsOnPack g) runs)
    (counted : counted_extents slots (f1_with g kind runs pointer f) ≡ counted_extents slots f ++ added_extents g kind f.extents runs) where
  abbrev h : F1
  h = f1_with g kind runs pointer f

  rows : map (run_of_extent g) (counted_extents slots h) ≡ map (run_of_extent g) (counted_extents slots f) ++ runs
  rows =
      ap (map (run_of_extent g)) counted
      ∙ map-append (run_of_extent g) (counted_extents slots f) (added_extents g kind f.extents runs)
      ∙ ap (λ (l : List Run). map (run_of_extent g) (counted_extents slots f) ++ l) (ap (map (run_of_extent g)) (added_numbered g kind f.extents runs) ∙ numbered_read g kind f.extents runs few on_pack)

  -- It is read as the set with the added extents.
  pub extended_read : (tracks : List (List ℕ)) → unreadable (data_set_of g tracks slots f).body ≡ None → data_set_of g tracks slots (f1_with g kind runs pointer f) ≡ with_extents runs (data_set_of g tracks slots f)
  unfolding data_set_of attr_of f1_with
  extended_read tracks readable =
      let body : body_of g tracks f.name (attr_of f) (map (run_of_extent g) (counted_extents slots h)) f.lstar ≡ body_of g tracks f.name (attr_of f) (map (run_of_extent g) (counted_extents slots f)) f.lstar =
      ap (λ (l : List Run). body_of g tracks f.name (attr_of f) l f.lstar) rows ∙ body_more g tracks f.name (attr_of f) (map (run_of_extent g) (counted_extents slots f)) runs f.lstar readable in
      λ i. record { name = record { bytes = f.name }; attr = attr_of f; extents = rows i; body = body i }

  -- ---- its extents are good

  field_good : (k : ℕ) (x : List ℕ) → is_field_type x ≡ true → is_field_type (added_field g kind f.extents runs k x) ≡ true
  field_good k x good = by_count (nat_lt k f.extents) (slice_get runs (k - f.extents))
    where
      either : (a b : Bool) → b ≡ true → (a || b) ≡ true
      either a b e = grind arith

      by_count : (b : Bool) (o : Option Run) → is_field_type (cond b x (option_map_or (extent_bytes g kind k) o x)) ≡ true
      by_count true o = good
      by_count false None = good
      by_count false (Some r) = either _ _ counts

  fields_good : (k : ℕ) (xs : List (List ℕ)) → list_all is_field_type xs ≡ true → list_all is_field_type (added_fields g kind f.extents runs k xs) ≡ true
  fields_good k [] good = refl
  fields_good k (x ∷ xs) good =
      let parts = and_parts (is_field_type x) (list_all is_field_type xs) good in
      ap₂ (λ (a b : Bool). a && b) (field_good k x parts.0) (fields_good (k + 1) xs parts.1)

  pub extended_types : has_types slots f ≡ true → has_types slots (f1_with g kind runs pointer f) ≡ true
  unfolding has_types f1_with
  extended_types good =
      let parts = and_parts (list_all is_field_type f.runs) (list_all is_counted_type (counted_extents slots f)) good in
      ap₂ (λ (a b : Bool). a && b) (fields_good 0 f.runs parts.0)
      (ap (list_all is_counted_type) counted ∙ all_append is_counted_type (counted_extents slots f) (added_extents g kind f.extents runs) parts.1 (ap (list_all is_counted_type) (added_numbered g kind f.extents runs) ∙ numbered_types g kind f.extents runs counts))

  pub extended_inside : f.extents + length runs ≤ 16 → has_extents g slots f ≡ true → has_extents g slots (f1_with g kind runs pointer f) ≡ true
  unfolding has_extents f1_with
  extended_inside most good =
      let parts = and_parts (nat_le f.extents 16) (list_all (is_extent g) (counted_extents slots f)) good in
      ap₂ (λ (a b : Bool). a && b) (at_most (f.extents + length runs) most)
      (ap (list_all (is_extent g)) counted ∙ all_append (is_extent g) (counted_extents slots f) (added_extents g kind f.extents runs) parts.1 (ap (list_all (is_extent g)) (added_numbered g kind f.extents runs) ∙ numbered_inside g kind f.extents runs few on_pack))
    where
      at_most : (n : ℕ) → n ≤ 16 → nat_le n 16 ≡ true
      at_most n l = grind (arith, nat_tests)
