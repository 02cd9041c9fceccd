-- The names in the index of a VTOC, sorted, are those of the volume's data sets.
use Rattle.std.proofs.Common.{◌≡◌, ℕ, List, [], ◌∷◌, map, refl, sym, ap, subst, ◌∙◌}
use Rattle.std.specs.Prelude.{Result, Ok}
use Rattle.std.specs.List.{cons_option, filter_map}
use Rattle.std.specs.List.Sorted.{IsStableBy}
use Rattle.std.specs.Ordering.{is_lt, nat_cmp}
use Rattle.std.specs.Cmp.Lexicographic.{slice_cmp}
use Rattle.ckd_image.specs.declared.header.Geometry.{Geometry}
use Rattle.dscb_codec.specs.declared.Dscb.{Dscb}
use Rattle.dscb_codec.specs.declared.Dscb.TheVariants as formats
use Rattle.dscb_codec.specs.declared.F1.{F1}
use Rattle.pack_spec.specs.Blocks.{data_tracks}
use Rattle.pack_spec.specs.declared.MountErr.{MountErr}
use Rattle.pack_spec.specs.declared.slot.VtocSlot.{VtocSlot}
use Rattle.pack_spec.specs.Rules.{set_in}
use Rattle.pack_spec.specs.Slots.{slots_of_vtoc}
use Rattle.pack_spec.specs.Volume.{data_set_of, data_sets_in, volume_of, volume_with}
use Rattle.vol_model.specs.Order.{in_order}
use Rattle.vol_model.proofs.InOrder.{in_order-named}
use Rattle.vol_model.specs.declared.contents.Volume.{Volume}
use Rattle.vtoc_index.specs.declared.vol.Vol.{Vol}
use Rattle.vtoc_index.specs.Index.{IsMounted}
use Rattle.volume_manager.specs.Names.{IsListing, names_in, names_of, set_name}

-- the format 1 DSCBs in slots are those in their contents
sets_of_contents : (slots : List VtocSlot) → filter_map (λ s. set_in s.content) slots ≡ filter_map set_in (map (λ (s : VtocSlot). s.content) slots)
sets_of_contents [] = refl
sets_of_contents (s ∷ slots) = ap (cons_option (set_in s.content)) (sets_of_contents slots)

-- the name of the first data set, or none
first_name : (g : Geometry) (tracks : List (List ℕ)) (all : List VtocSlot) (d : Dscb) (sets : List F1) → names_of (map (data_set_of g tracks all) (cons_option (set_in (Ok d)) sets)) ≡ cons_option (set_name d) (names_of (map (data_set_of g tracks all) sets))
unfolding data_set_of
first_name g tracks all formats.F0 sets = refl
first_name g tracks all (formats.F1 f) sets = refl
first_name g tracks all (formats.F3 f) sets = refl
first_name g tracks all (formats.F4 f) sets = refl
first_name g tracks all (formats.F5 f) sets = refl

-- in the order of the DSCBs the names are those in them
names_of_dscbs : (g : Geometry) (tracks : List (List ℕ)) (all : List VtocSlot) (ds : List Dscb) → names_of (map (data_set_of g tracks all) (filter_map set_in (map Ok ds))) ≡ names_in ds
names_of_dscbs g tracks all [] = refl
names_of_dscbs g tracks all (d ∷ ds) = first_name g tracks all d (filter_map set_in (map Ok ds)) ∙ ap (cons_option (set_name d)) (names_of_dscbs g tracks all ds)

-- the names of the volume that an image stands for, by the index of its VTOC
pub listed_right : (image : List ℕ) (v : Vol) (volume : Volume) (listed : List (List ℕ)) → IsMounted image v → volume_of image ≡ Ok volume → IsListing (names_in v.slots.items) listed → listed ≡ names_of volume.sets
unfolding volume_with data_sets_in
listed_right image v volume listed mounted stands lists =
    let g = v.geometry in
    let tracks = data_tracks image g v.vtoc in
    let slots = slots_of_vtoc image g v.vtoc in
    let given : names_of (data_sets_in g tracks slots) ≡ names_in v.slots.items =
    ap (λ fs. names_of (map (data_set_of g tracks slots) fs)) (sets_of_contents slots ∙ ap (filter_map set_in) mounted.index.slots) ∙ names_of_dscbs g tracks slots v.slots.items in
    let same : listed ≡ names_of (in_order (data_sets_in g tracks slots)) = in_order-named (data_sets_in g tracks slots) listed lists.sorted (subst (λ (l : List (List ℕ)). IsStableBy (λ x y. is_lt (slice_cmp nat_cmp x y)) l listed) (sym given) lists.same) in
    same ∙ ap names_of (meant (sym mounted.volume ∙ stands))
  where
    meant : {a : Volume} → ◌≡◌ {A = Result Volume MountErr} (Ok a) (Ok volume) → a.sets ≡ volume.sets
    meant is = cc
