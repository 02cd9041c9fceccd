-- The data sets in slots of which the format 1 DSCBs of one name get another, and the volume with these.
use Rattle.std.proofs.Common.{◌≡◌, ℕ, Bool, true, false, cond, List, [], ◌∷◌, map, length, Option, Some, None, Result, Ok, Err, refl, sym, ap, ◌∙◌}
use Rattle.std.specs.Prelude.{◌&&◌, ◌||◌, ◌==◌, is_some, not, position, slice_range}
use Rattle.std.specs.List.{cons_option, filter_map, list_any}
use Rattle.std.specs.Option.{option_map}
use Rattle.std.specs.Str.{bytes_eq}
use Rattle.std.proofs.lemmas.List.{length-map}
use Rattle.std.proofs.lemmas.Slice.Eq.{bytes_eq-Decides}
use Rattle.ckd_image.specs.declared.header.Geometry.{Geometry}
use Rattle.dscb_codec.specs.declared.F1.{F1}
use Rattle.dscb_codec.specs.declared.Dscb.{Dscb}
use Rattle.dscb_codec.specs.declared.Dscb.TheVariants as formats
use Rattle.dscb_codec.specs.declared.DscbErr.{DscbErr}
use Rattle.ebcdic_names.specs.declared.names.Dsn.{Dsn}
use Rattle.pack_spec.specs.declared.slot.VtocSlot.{VtocSlot}
use Rattle.pack_spec.specs.Vtoc.{run_of_extent}
use Rattle.pack_spec.specs.Rules.{counted_extents, is_named, set_in}
use Rattle.pack_spec.specs.Volume.{attr_of, data_set_of, data_sets_in, volume_with}
use Rattle.pack_spec.specs.Blocks.{seq_body}
use Rattle.pack_spec.specs.Bodies.{body_of, catalog_of}
use Rattle.pack_spec.specs.Directories.{part_body}
use Rattle.pack_spec.proofs.SetNames.{named_set}
use Rattle.vol_model.specs.declared.contents.Attr.{Attr}
use Rattle.vol_model.specs.declared.contents.Body.{Body}
use Rattle.vol_model.specs.declared.contents.Body.TheVariants.{Other, Unreadable}
use Rattle.vol_model.specs.declared.contents.DataSet.{DataSet}
use Rattle.vol_model.specs.declared.contents.Run.{Run}
use Rattle.vol_model.specs.Order.{in_order}
use Rattle.vol_model.specs.declared.catalogs.CatBody.TheVariants as catalogs
use Rattle.vol_model.specs.Shelf.{catalog_name, has_name, has_set, is_catalog, organization, renamed, with_name}
use Rattle.vol_model.proofs.Steps.{any_in_order, renamed_in_order}
use Rattle.slot_laws.proofs.ChangedLists.{any_first, list_any-map}
use Rattle.slot_laws.proofs.FoundSlots.{has_named}
use Rattle.dadsm_ops.proofs.RenamedSlots.{counted_alike, renamed_set, renamed_slot, set_in-renamed}

-- a name that isn't the catalog's tells nothing of a body
body_alike : (g : Geometry) (tracks : List (List ℕ)) (old new : List ℕ) (attr : Attr) (extents : List Run) (lstar : List ℕ) → is_catalog old ≡ false → is_catalog new ≡ false → body_of g tracks new attr extents lstar ≡ body_of g tracks old attr extents lstar
unfolding body_of
body_alike g tracks old new attr extents lstar no_old no_new =
    let by : Bool → Body = λ b. cond (not b && organization attr == 32) (seq_body g tracks extents lstar)
    (cond (not b && organization attr == 1) (part_body g tracks extents lstar) (cond b (Unreadable 0) Other)) in
    ap by (no_new ∙ sym no_old)

module _ (old : List ℕ) (new : Dsn) (no_old : is_catalog old ≡ false) (no_new : is_catalog new.bytes ≡ false) where
  -- a data set, under the new name where it had the old one
  set_renamed : (g : Geometry) (tracks : List (List ℕ)) (slots : List VtocSlot) (f : F1) → data_set_of g tracks (map (renamed_slot old new.bytes) slots) (renamed_set old new.bytes f) ≡ with_name old new (data_set_of g tracks slots f)
  unfolding data_set_of attr_of
  set_renamed g tracks slots f =
      let h : F1 = renamed_set old new.bytes f in
      ap (λ (rows : List (List ℕ)). record { name = record { bytes = h.name }; attr = attr_of h; extents = map (run_of_extent g) rows; body = body_of g tracks h.name (attr_of h) (map (run_of_extent g) rows) h.lstar }) (counted_alike old new.bytes slots f)
      ∙ by_test (bytes_eq f.name old) refl
    where
      by_test : (b : Bool) → bytes_eq f.name old ≡ b → record {
        name = record { bytes = (cond b (record f { name = new.bytes }) f).name };
        attr = attr_of (cond b (record f { name = new.bytes }) f);
        extents = map (run_of_extent g) (counted_extents slots f);
        body = body_of g tracks (cond b (record f { name = new.bytes }) f).name (attr_of (cond b (record f { name = new.bytes }) f)) (map (run_of_extent g) (counted_extents slots f)) (cond b (record f { name = new.bytes }) f).lstar;
      } ≡ cond b (record (data_set_of g tracks slots f) { name = new }) (data_set_of g tracks slots f)
      by_test true is =
          let named : is_catalog f.name ≡ false = ap is_catalog ((bytes_eq-Decides f.name old).0 is) ∙ no_old in
          ap (λ (y : Body). record { name = new; attr = attr_of f; extents = map (run_of_extent g) (counted_extents slots f); body = y }) (body_alike g tracks f.name new.bytes (attr_of f) (map (run_of_extent g) (counted_extents slots f)) f.lstar named no_new)
      by_test false is = refl

  sets_among : (g : Geometry) (tracks : List (List ℕ)) (slots some : List VtocSlot)
      → map (data_set_of g tracks (map (renamed_slot old new.bytes) slots)) (filter_map (λ s. set_in s.content) (map (renamed_slot old new.bytes) some)) ≡ map (with_name old new) (map (data_set_of g tracks slots) (filter_map (λ s. set_in s.content) some))
  sets_among g tracks slots [] = refl
  sets_among g tracks slots (s ∷ ss) =
      ap (λ (o : Option F1). map (data_set_of g tracks (map (renamed_slot old new.bytes) slots)) (cons_option o (filter_map (λ s. set_in s.content) (map (renamed_slot old new.bytes) ss)))) (set_in-renamed old new.bytes s.content)
      ∙ one_more (set_in s.content) (filter_map (λ s. set_in s.content) (map (renamed_slot old new.bytes) ss)) (filter_map (λ s. set_in s.content) ss) (sets_among g tracks slots ss)
    where
      one_more : (o : Option F1) (fs hs : List F1) → map (data_set_of g tracks (map (renamed_slot old new.bytes) slots)) fs ≡ map (with_name old new) (map (data_set_of g tracks slots) hs)
          → map (data_set_of g tracks (map (renamed_slot old new.bytes) slots)) (cons_option (option_map (renamed_set old new.bytes) o) fs) ≡ map (with_name old new) (map (data_set_of g tracks slots) (cons_option o hs))
      one_more None fs hs rest = rest
      one_more (Some f) fs hs rest =
          ap (λ (x : DataSet). x ∷ map (data_set_of g tracks (map (renamed_slot old new.bytes) slots)) fs) (set_renamed g tracks slots f) ∙ ap (λ (l : List DataSet). with_name old new (data_set_of g tracks slots f) ∷ l) rest

  -- the data sets in the slots, under their new name
  pub sets_renamed : (g : Geometry) (tracks : List (List ℕ)) (slots : List VtocSlot) → data_sets_in g tracks (map (renamed_slot old new.bytes) slots) ≡ map (with_name old new) (data_sets_in g tracks slots)
  unfolding data_sets_in
  sets_renamed g tracks slots = sets_among g tracks slots slots

no_set : (name : List ℕ) (c : Result Dscb DscbErr) → set_in c ≡ None → is_named name c ≡ false
no_set name (Ok formats.F0) none = refl
no_set name (Ok (formats.F1 f)) none = cc
no_set name (Ok (formats.F3 f)) none = refl
no_set name (Ok (formats.F4 f)) none = refl
no_set name (Ok (formats.F5 f)) none = refl
no_set name (Err e) none = refl

-- whether a data set of a name stands in the slots
named_among : (g : Geometry) (tracks : List (List ℕ)) (slots some : List VtocSlot) (name : List ℕ) → list_any (has_name name) (map (data_set_of g tracks slots) (filter_map (λ s. set_in s.content) some)) ≡ list_any (has_named name) some
unfolding data_set_of
named_among g tracks slots [] name = refl
named_among g tracks slots (s ∷ ss) name = one_more (set_in s.content) refl (named_among g tracks slots ss name)
  where
    one_more : (o : Option F1) → set_in s.content ≡ o → list_any (has_name name) (map (data_set_of g tracks slots) (filter_map (λ s. set_in s.content) ss)) ≡ list_any (has_named name) ss
        → list_any (has_name name) (map (data_set_of g tracks slots) (cons_option o (filter_map (λ s. set_in s.content) ss))) ≡ (has_named name s || list_any (has_named name) ss)
    one_more None is rest = rest ∙ ap (λ (b : Bool). b || list_any (has_named name) ss) (sym (no_set name s.content is))
    one_more (Some f) is rest = ap (λ (b : Bool). bytes_eq f.name name || b) rest ∙ ap (λ (b : Bool). b || list_any (has_named name) ss) (sym (named_set s.content f name is))

pub named_in : (g : Geometry) (tracks : List (List ℕ)) (slots : List VtocSlot) (name : List ℕ) → list_any (has_name name) (data_sets_in g tracks slots) ≡ list_any (has_named name) slots
unfolding data_sets_in
named_in g tracks slots name = named_among g tracks slots slots name

-- The volume has a data set of a name where a slot has it.
pub has_set_found : (g : Geometry) (tracks : List (List ℕ)) (label : List ℕ) (vtoc : Run) (slots : List VtocSlot) (name : List ℕ) → has_set (volume_with g tracks label vtoc slots) name ≡ is_some (position (has_named name) slots)
unfolding volume_with
has_set_found g tracks label vtoc slots name =
    any_in_order (has_name name) (data_sets_in g tracks slots) ∙ named_in g tracks slots name ∙ any_first (has_named name) slots

-- whether there is a catalog, where it isn't renamed, and none becomes one
catalog_alike : (old : List ℕ) (new : Dsn) (sets : List DataSet) → is_catalog old ≡ false → is_catalog new.bytes ≡ false → catalog_of (in_order (map (with_name old new) sets)) ≡ catalog_of sets
unfolding catalog_of
catalog_alike old new sets no_old no_new =
    ap (λ (b : Bool). cond b (Some (catalogs.Unreadable 0)) None)
    (any_in_order (has_name catalog_name) (map (with_name old new) sets) ∙ list_any-map (has_name catalog_name) (has_name catalog_name) (with_name old new) (λ x. by_test x (has_name old x) refl) sets)
  where
    by_test : (x : DataSet) (b : Bool) → has_name old x ≡ b → has_name catalog_name (cond b (record x { name = new }) x) ≡ has_name catalog_name x
    by_test x true is = no_new ∙ sym (ap is_catalog ((bytes_eq-Decides x.name.bytes old).0 is) ∙ no_old)
    by_test x false is = refl

-- The volume with the slots under another name is the renamed volume.
pub volume_renamed : (g : Geometry) (tracks : List (List ℕ)) (label : List ℕ) (vtoc : Run) (slots : List VtocSlot) (old : List ℕ) (new : Dsn) → is_catalog old ≡ false → is_catalog new.bytes ≡ false → list_any (has_named new.bytes) slots ≡ false → volume_with g tracks label vtoc (map (renamed_slot old new.bytes) slots) ≡ renamed (volume_with g tracks label vtoc slots) old new
unfolding volume_with renamed
volume_renamed g tracks label vtoc slots old new no_old no_new absent =
    let sets : in_order (data_sets_in g tracks (map (renamed_slot old new.bytes) slots)) ≡ in_order (map (with_name old new) (in_order (data_sets_in g tracks slots))) =
    ap in_order (sets_renamed old new no_old no_new g tracks slots) ∙ sym (renamed_in_order old new (data_sets_in g tracks slots) (named_in g tracks slots new.bytes ∙ absent)) in
    let catalog : catalog_of (in_order (data_sets_in g tracks (map (renamed_slot old new.bytes) slots))) ≡ catalog_of (in_order (data_sets_in g tracks slots)) =
    ap catalog_of sets ∙ catalog_alike old new (in_order (data_sets_in g tracks slots)) no_old no_new in
    let many : length (map (renamed_slot old new.bytes) slots) ≡ length slots = length-map slots (renamed_slot old new.bytes) in
    λ i. record {
      serial = record { bytes = slice_range label 4 10 };
      geometry = g;
      vtoc = vtoc;
      slots = many i;
      sets = sets i;
      catalog = catalog i;
    }
