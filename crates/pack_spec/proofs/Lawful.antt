-- The volume that an image stands for is lawful.
use Rattle.std.proofs.Common.{◌≡◌, ◌+◌, ◌^◌, ◌<◌, ◌≤◌, ℕ, zero, suc, Bool, true, false, cond, not, eqb, ◌&&◌, ◌||◌, List, [], ◌∷◌, ◌++◌, length, take, map, Option, Some, None, Result, Ok, Err, refl, ap, ◌∙◌, subst, arith, length-take}
use Rattle.std.specs.Prelude.{is_some, nat_le, nat_lt, slice_get, slice_range}
use Rattle.std.specs.List.{AllByRecursion, count_by, enumerate_from, filter_map, flat_map, list_all, list_any}
use Rattle.std.proofs.Math.Dec.{eqb, eqb-suc-zero}
use Rattle.std.proofs.Math.Nat.{mul-le-mul_right}
use Rattle.std.proofs.lemmas.Bool.{and_parts, leb-true, ltb-true}
use Rattle.std.proofs.lemmas.List.{length-map}
use Rattle.std.proofs.lemmas.List.Elements.{All-from_recursion, recursion_from_All}
use Rattle.std.proofs.lemmas.List.Sorted.{All-permutation}
use Rattle.std.proofs.lemmas.List.Sums.{sum_by-append, sum_by-cons}
use Rattle.ckd_image.specs.declared.header.Geometry.{Geometry}
use Rattle.ckd_image.specs.declared.header.ImageErr.{ImageErr}
use Rattle.ckd_image.specs.Device.{row_of}
use Rattle.ckd_image.specs.Header.{HasGeometry, geometry_of}
use Rattle.ckd_image.proofs.GeometryLemmas.{has_geometry}
use Rattle.vol_model.specs.declared.contents.Volume.{Volume}
use Rattle.vol_model.specs.Order.{IsAscending, in_order}
use Rattle.vol_model.specs.Lawful.{IsLawfulBody, IsLawfulCatalog, IsLawfulSet, IsLawfulVolume, IsOnPack, is_of_kind}
use Rattle.vol_model.specs.Shelf.{catalog_name, has_name, is_catalog, is_partitioned, is_sequential}
use Rattle.vol_model.specs.declared.catalogs.CatBody.TheVariants as catalogs
use Rattle.vol_model.specs.declared.contents.Attr.{Attr}
use Rattle.vol_model.specs.declared.contents.Body.TheVariants.{Other, Unreadable}
use Rattle.vol_model.specs.declared.contents.DataSet.{DataSet}
use Rattle.vol_model.specs.Places.{tracks_in}
use Rattle.vol_model.specs.Space.{is_in}
use Rattle.vol_model.proofs.InOrder.{in_order-permutation}
use Rattle.vol_model.proofs.Steps.{in_order-ascending}
use Rattle.std.proofs.Math.Nat.{mod-lt}
use Rattle.dscb_codec.specs.declared.F1.{F1}
use Rattle.dscb_codec.specs.declared.Dscb.{Dscb}
use Rattle.dscb_codec.specs.declared.Dscb.TheVariants as formats
use Rattle.dscb_codec.specs.declared.DscbErr.{DscbErr}
use Rattle.vol_model.specs.declared.contents.Run.{Run}
use Rattle.pack_spec.specs.declared.MountErr.{MountErr}
use Rattle.pack_spec.specs.declared.MountErr.TheVariants.{BadVtoc, UnsupportedExtent, BadExtent, BadChain}
use Rattle.pack_spec.specs.declared.address.Address.{Address}
use Rattle.pack_spec.specs.declared.slot.VtocSlot.{VtocSlot}
use Rattle.pack_spec.specs.Label.{address_at, heads_of, is_inside, label_of, track_of_address}
use Rattle.pack_spec.specs.Vtoc.{is_extent, is_vtoc_extent, lower_of, run_of_extent, upper_of, vtoc_at, vtoc_by, vtoc_of, vtoc_on}
use Rattle.pack_spec.specs.Slots.{slots_of_vtoc, track_faults}
use Rattle.pack_spec.specs.Rules.{content_fault, counted_extents, extents_fault, front_faults, has_chain, has_extents, has_types, is_f4, name_faults, set_in, slot_fault, slot_faults, slots_faults}
use Rattle.pack_spec.specs.Owned.{overlap_faults, room_faults, volume_faults}
use Rattle.pack_spec.specs.Blocks.{data_tracks, seq_body}
use Rattle.pack_spec.specs.Directories.{part_body}
use Rattle.pack_spec.specs.Bodies.{body_of, catalog_of}
use Rattle.pack_spec.specs.Volume.{attr_of, counted_runs, data_set_of, data_sets_in, secondary_of, unless, volume_by, volume_of, volume_on, volume_with, volume_within, vtoc_fault}
use Rattle.pack_spec.proofs.FirstFaults.{cons_option-none, first_append-both}
use Rattle.pack_spec.proofs.SetNames.{all_sets, distinct_sets, names_apart}
use Rattle.pack_spec.proofs.PartBodies.{part_or_unread}
use Rattle.pack_spec.proofs.PartLawful.{lawful_part}
use Rattle.pack_spec.proofs.SeqBodies.{lawful_seq, seq_or_unread}
use Rattle.pack_spec.proofs.SlotCounts.{few_slots}
use Rattle.pack_spec.proofs.OwnedAmounts.{few_owned}
use Rattle.pack_spec.proofs.OwnedRuns.{runs_owned}
use Rattle.pack_spec.proofs.OwnedTracks.{has_room, owned_end, owns_once}

-- a set's body is of the kind that its name and organization give, and lawful
module _ (g : Geometry) (tracks : List (List ℕ)) (name : List ℕ) (attr : Attr) (extents : List Run) (lstar : List ℕ) where
  kind_of_body : is_of_kind name attr (body_of g tracks name attr extents lstar) ≡ true
  unfolding body_of
  kind_of_body = by_tests (is_catalog name) (is_sequential name attr) (is_partitioned name attr) refl refl refl
    where
      by_tests : (c s p : Bool) → is_catalog name ≡ c → is_sequential name attr ≡ s → is_partitioned name attr ≡ p
          → is_of_kind name attr (cond s (seq_body g tracks extents lstar) (cond p (part_body g tracks extents lstar) (cond c (Unreadable 0) Other))) ≡ true
      by_tests c true p catalog sequential partitioned = seq_or_unread g tracks extents lstar (λ b. is_of_kind name attr b ≡ true) (λ bs. sequential) (λ k. refl)
      by_tests c false true catalog sequential partitioned = part_or_unread g tracks extents lstar (λ b. is_of_kind name attr b ≡ true) (λ n end es bs. partitioned) (λ k. refl)
      by_tests true false false catalog sequential partitioned = refl
      by_tests false false false catalog sequential partitioned =
          ap (λ (b : Bool). not (b || (is_sequential name attr || is_partitioned name attr))) catalog
          ∙ ap (λ (b : Bool). not (b || is_partitioned name attr)) sequential
          ∙ ap not partitioned

  lawful_body : tracks_in extents < 65535 → IsLawfulBody (tracks_in extents) (body_of g tracks name attr extents lstar)
  unfolding body_of
  lawful_body few = by_tests (is_sequential name attr) (is_partitioned name attr) (is_catalog name)
    where
      by_tests : (a b c : Bool) → IsLawfulBody (tracks_in extents) (cond a (seq_body g tracks extents lstar) (cond b (part_body g tracks extents lstar) (cond c (Unreadable 0) Other)))
      by_tests true b c = lawful_seq g tracks extents lstar few
      by_tests false true c = lawful_part g tracks extents lstar few
      by_tests false false true = tt
      by_tests false false false = tt

-- there is a catalog where there is a SYSCTLG, and it isn't read
catalog_is : (sets : List DataSet) → list_any (has_name catalog_name) sets ≡ is_some (catalog_of sets)
unfolding catalog_of
catalog_is sets = by_test (list_any (has_name catalog_name) sets)
  where
    by_test : (b : Bool) → b ≡ is_some (cond b (Some (catalogs.Unreadable 0)) None)
    by_test true = refl
    by_test false = refl

lawful_catalog : (sets : List DataSet) → IsLawfulCatalog (catalog_of sets)
unfolding catalog_of
lawful_catalog sets = by_test (list_any (has_name catalog_name) sets)
  where
    by_test : (b : Bool) → IsLawfulCatalog (cond b (Some (catalogs.Unreadable 0)) None)
    by_test true = tt
    by_test false = tt

-- the tracks of an extent lie on the pack
on_pack : (g : Geometry) (extent : List ℕ) → is_extent g extent ≡ true → IsOnPack g (run_of_extent g extent)
on_pack g extent is =
    let upper = upper_of extent in
    let ends = and_parts (is_inside g (lower_of extent) && is_inside g upper) _ is in
    let inside = and_parts (nat_lt upper.cylinder g.cylinders) _ (and_parts (is_inside g (lower_of extent)) _ ends.0).1 in
    let order : track_of_address g (lower_of extent) ≤ track_of_address g upper = leb-true _ _ ends.1 in
    let cylinder : suc upper.cylinder ≤ g.cylinders = omega (arith, ltb-true upper.cylinder g.cylinders inside.0) in
    let head : upper.head < heads_of g = ltb-true upper.head (heads_of g) inside.1 in
    let whole = mul-le-mul_right {m = suc upper.cylinder} {n = g.cylinders} (heads_of g) cylinder in
    (omega arith, omega (arith, order, head, whole))

all_on_pack : (g : Geometry) (extents : List (List ℕ)) → list_all (is_extent g) extents ≡ true → AllByRecursion (IsOnPack g) (map (run_of_extent g) extents)
all_on_pack g [] are = tt
all_on_pack g (extent ∷ extents) are =
    let parts = and_parts (is_extent g extent) (list_all (is_extent g) extents) are in
    (on_pack g extent parts.0, all_on_pack g extents parts.1)

-- no more extents are counted than the count says
few_counted : (slots : List VtocSlot) (f : F1) → length (counted_extents slots f) ≤ f.extents
unfolding counted_extents
few_counted slots f = few_taken f.extents _
  where
    few_taken : (n : ℕ) (xs : List (List ℕ)) → length (take n xs) ≤ n
    few_taken n xs = omega (arith, length-take n xs)

-- a secondary quantity has three bytes
short : (f : F1) → secondary_of f < 2 ^ 24
short f = by_unit _ (mod-lt f.scalo (omega arith))
  where
    by_unit : {n : ℕ} (b : Bool) → n < 2 ^ 24 → cond b n 0 < 2 ^ 24
    by_unit true less = less
    by_unit false less = omega arith

-- A data set has what a lawful one has, if a TTR can say each of its tracks.
record IsGoodSet (g : Geometry) (x : DataSet) : Type 0 where
  few : length x.extents ≤ 16
  extents : AllByRecursion (IsOnPack g) x.extents
  secondary : x.attr.secondary < 2 ^ 24
  kind : is_of_kind x.name.bytes x.attr x.body ≡ true
  body : tracks_in x.extents < 65535 → IsLawfulBody (tracks_in x.extents) x.body

-- a data set whose extents are good
good_set : (g : Geometry) (tracks : List (List ℕ)) (slots : List VtocSlot) (f : F1) → has_extents g slots f ≡ true → IsGoodSet g (data_set_of g tracks slots f)
unfolding data_set_of attr_of has_extents
good_set g tracks slots f has =
    let parts = and_parts (nat_le f.extents 16) (list_all (is_extent g) (counted_extents slots f)) has in
    record {
      few = omega (arith, length-map (counted_extents slots f) (run_of_extent g), few_counted slots f, leb-true f.extents 16 parts.0);
      extents = all_on_pack g (counted_extents slots f) parts.1;
      secondary = short f;
      kind = kind_of_body g tracks f.name (attr_of f) (counted_runs g slots f) f.lstar;
      body = lawful_body g tracks f.name (attr_of f) (counted_runs g slots f) f.lstar;
    }

-- sets of which none owns a track twice, nor two the same
lawful_all : (g : Geometry) → g.cylinders ≤ (row_of g.device).most_cylinders → (xs : List DataSet) → AllByRecursion (IsGoodSet g) xs → ((t : ℕ) → count_by (is_in t) (flat_map (λ (x : DataSet). x.extents) xs) ≤ 1) → AllByRecursion (IsLawfulSet g) xs
lawful_all g most [] all once = tt
lawful_all g most (x ∷ xs) all once =
    let others = flat_map (λ (y : DataSet). y.extents) xs in
    let split : (t : ℕ) → count_by (is_in t) (x.extents ++ others) ≡ count_by (is_in t) x.extents + count_by (is_in t) others = λ t. sum_by-append (λ (r : Run). cond (is_in t r) 1 0) x.extents others in
    let few : tracks_in x.extents < 65535 = few_owned g x.extents most all.0.extents (λ t. let both = split t in let one = once t in omega (arith, both, one)) in (
      record { few = all.0.few; extents = all.0.extents; secondary = all.0.secondary; kind = all.0.kind; body = all.0.body few },
      lawful_all g most xs all.1 (λ t. let both = split t in let one = once t in omega (arith, both, one)),
    )

-- the extents of a data set are good, where no rule on them is broken
middle_holds : (a b c : Bool) (k : ℕ) → cond (not a) (Some (UnsupportedExtent k)) (cond (not b) (Some (BadExtent k)) (cond (not c) (Some (BadChain k)) None)) ≡ None → b ≡ true
middle_holds true true c k e = refl
middle_holds true false c k e = cc
middle_holds false b c k e = cc

good_content : (g : Geometry) (slots : List VtocSlot) (k : ℕ) (c : Result Dscb DscbErr) (f : F1) → content_fault g slots k c ≡ None → set_in c ≡ Some f → has_extents g slots f ≡ true
unfolding extents_fault
good_content g slots k (Ok formats.F0) f none is = cc
good_content g slots k (Ok (formats.F1 h)) f none is =
    let same : h ≡ f = cc in
    subst (λ (x : F1). has_extents g slots x ≡ true) same (middle_holds (has_types slots h) (has_extents g slots h) (has_chain slots (take k slots) h) k none)
good_content g slots k (Ok (formats.F3 h)) f none is = cc
good_content g slots k (Ok (formats.F4 h)) f none is = cc
good_content g slots k (Ok (formats.F5 h)) f none is = cc
good_content g slots k (Err e) f none is = cc

-- a slot, if it is a data set, has good extents
abbrev HasGoodExtents : Geometry → List VtocSlot → VtocSlot → Type 0
HasGoodExtents g slots s = (f : F1) → set_in s.content ≡ Some f → has_extents g slots f ≡ true

good_slot : (g : Geometry) (slots : List VtocSlot) (k : ℕ) (s : VtocSlot) → 0 < k → slot_fault g slots k s ≡ None → HasGoodExtents g slots s
unfolding slot_fault
good_slot g slots zero s behind none f is = absurd (omega arith)
good_slot g slots (suc k) s behind none f is =
    good_content g slots (suc k) s.content f (behind_first (eqb (suc k) 0) (content_fault g slots (suc k) s.content) (eqb-suc-zero k) none) is
  where
    behind_first : (b : Bool) (o : Option MountErr) → b ≡ false → cond b None o ≡ None → o ≡ None
    behind_first true o h e = cc
    behind_first false o h e = e

good_behind : (g : Geometry) (slots : List VtocSlot) (k : ℕ) (rest : List VtocSlot) → 0 < k → slice_get (filter_map (λ p. slot_fault g slots p.0 p.1) (enumerate_from k rest)) 0 ≡ None → AllByRecursion (HasGoodExtents g slots) rest
good_behind g slots k [] behind none = tt
good_behind g slots k (s ∷ rest) behind none =
    let parts = cons_option-none (slot_fault g slots k s) (filter_map (λ p. slot_fault g slots p.0 p.1) (enumerate_from (k + 1) rest)) none in
    (good_slot g slots k s behind parts.0, good_behind g slots (k + 1) rest (omega arith) parts.1)

-- slot 0 is exempt from these rules, but it is a format 4
f4_no_set : (c : Result Dscb DscbErr) (f : F1) → is_f4 c ≡ true → set_in c ≡ Some f → ⊥
f4_no_set (Ok formats.F0) f four is = cc
f4_no_set (Ok (formats.F1 h)) f four is = cc
f4_no_set (Ok (formats.F3 h)) f four is = cc
f4_no_set (Ok (formats.F4 h)) f four is = cc
f4_no_set (Ok (formats.F5 h)) f four is = cc
f4_no_set (Err e) f four is = cc

first_is_f4 : (s : VtocSlot) (slots : List VtocSlot) → slice_get (front_faults (s ∷ slots)) 0 ≡ None → is_f4 s.content ≡ true
unfolding front_faults
first_is_f4 s slots e = front_none (is_f4 s.content) _ _ e
  where
    front_none : (b : Bool) (x : MountErr) (ys : List MountErr) → slice_get (cond b [] (x ∷ []) ++ ys) 0 ≡ None → b ≡ true
    front_none true x ys e = refl
    front_none false x ys e = cc

all_good : (g : Geometry) (slots : List VtocSlot) → slice_get (front_faults slots) 0 ≡ None → slice_get (slot_faults g slots) 0 ≡ None → AllByRecursion (HasGoodExtents g slots) slots
unfolding slot_faults
all_good g [] front none = tt
all_good g (s ∷ rest) front none =
    let parts = cons_option-none (slot_fault g (s ∷ rest) 0 s) (filter_map (λ p. slot_fault g (s ∷ rest) p.0 p.1) (enumerate_from 1 rest)) none in
    (λ f is. absurd (f4_no_set s.content f (first_is_f4 s rest front) is), good_behind g (s ∷ rest) 1 rest (omega arith) parts.1)

all_mapped : (g : Geometry) (tracks : List (List ℕ)) (slots : List VtocSlot) (fs : List F1) → AllByRecursion (λ f. IsGoodSet g (data_set_of g tracks slots f)) fs → AllByRecursion (IsGoodSet g) (map (data_set_of g tracks slots) fs)
all_mapped g tracks slots [] all = tt
all_mapped g tracks slots (f ∷ fs) all = (all.0, all_mapped g tracks slots fs all.1)

-- no rule of the three groups is broken
pub groups_hold : (g : Geometry) (slots : List VtocSlot) → slots_faults g slots ≡ [] → (slice_get (front_faults slots) 0 ≡ None) × (slice_get (slot_faults g slots) 0 ≡ None) × (slice_get (name_faults slots) 0 ≡ None)
unfolding slots_faults
groups_hold g slots none =
    let front = first_append-both (front_faults slots) (slot_faults g slots ++ name_faults slots) (ap (λ (l : List MountErr). slice_get l 0) none) in
    let behind = first_append-both (slot_faults g slots) (name_faults slots) front.1 in
    (front.0, behind.0, behind.1)

-- a data set in slots that break no rule has good extents
pub good_sets : (g : Geometry) (slots : List VtocSlot) → slots_faults g slots ≡ [] → (k : ℕ) (s : VtocSlot) (f : F1) → slice_get slots k ≡ Some s → set_in s.content ≡ Some f → has_extents g slots f ≡ true
good_sets g slots none =
    let groups = groups_hold g slots none in
    at slots (all_good g slots groups.0 groups.1)
  where
    at : (xs : List VtocSlot) → AllByRecursion (HasGoodExtents g slots) xs → (k : ℕ) (s : VtocSlot) (f : F1) → slice_get xs k ≡ Some s → set_in s.content ≡ Some f → has_extents g slots f ≡ true
    at [] all k s f there is = cc
    at (x ∷ xs) all zero s f there is =
        let same : x ≡ s = cc in
        all.0 f (ap (λ (y : VtocSlot). set_in y.content) same ∙ is)
    at (x ∷ xs) all (suc k) s f there is = at xs all.1 k s f there is

-- the data sets in slots that break no rule, in their order
good_in_order : (g : Geometry) (tracks : List (List ℕ)) (slots : List VtocSlot) → slots_faults g slots ≡ [] → AllByRecursion (IsGoodSet g) (in_order (data_sets_in g tracks slots))
unfolding data_sets_in
good_in_order g tracks slots none =
    let groups = groups_hold g slots none in
    let held : AllByRecursion (IsGoodSet g) (data_sets_in g tracks slots) =
    all_mapped g tracks slots _ (all_sets (λ f. IsGoodSet g (data_set_of g tracks slots f)) (HasGoodExtents g slots) (λ s f is good. good_set g tracks slots f (good f is)) slots (all_good g slots groups.0 groups.1)) in
    recursion_from_All (IsGoodSet g) (in_order (data_sets_in g tracks slots))
    (All-permutation (IsGoodSet g) (data_sets_in g tracks slots) (in_order (data_sets_in g tracks slots)) (in_order-permutation (data_sets_in g tracks slots)) (All-from_recursion (IsGoodSet g) (data_sets_in g tracks slots) held))

-- no name stands twice
ascending_sets : (g : Geometry) (tracks : List (List ℕ)) (slots : List VtocSlot) → slots_faults g slots ≡ [] → IsAscending (in_order (data_sets_in g tracks slots))
unfolding name_faults data_sets_in
ascending_sets g tracks slots none =
    in_order-ascending (data_sets_in g tracks slots) (distinct_sets g tracks slots _ (names_apart slots (groups_hold g slots none).2))

-- a VTOC that is found has at most 257 tracks
chosen_run : (b : Bool) (r vtoc : Run) (e : MountErr) → cond b (Ok r) (Err e) ≡ Ok vtoc → (b ≡ true) × (r ≡ vtoc)
chosen_run true r vtoc e is = (refl, cc)
chosen_run false r vtoc e is = cc

-- it lies on the pack, and has few tracks
abbrev IsShort : Geometry → Run → Type 0
IsShort g run = IsOnPack g run × (run.len ≤ 257)

short_by : (g : Geometry) (at : Address) (o : Option (List ℕ)) (vtoc : Run) → vtoc_by g at o ≡ Ok vtoc → IsShort g vtoc
short_by g at None vtoc is = cc
short_by g at (Some slot) vtoc is =
    let extent : List ℕ = slice_range slot 105 115 in
    let found = chosen_run (is_vtoc_extent g at extent) _ vtoc BadVtoc is in
    let last = and_parts _ (nat_le (run_of_extent g extent).len 257) found.0 in
    let begins = and_parts (is_extent g extent && eqb (lower_of extent).cylinder at.cylinder) _ last.0 in
    let inside = and_parts (is_extent g extent) _ begins.0 in
    subst (λ (r : Run). IsShort g r) found.1 (on_pack g extent inside.0, leb-true (run_of_extent g extent).len 257 last.1)

short_at : (image : List ℕ) (g : Geometry) (o : Option (List ℕ)) (vtoc : Run) → vtoc_at image g o ≡ Ok vtoc → IsShort g vtoc
unfolding vtoc_at vtoc_on
short_at image g None vtoc is = cc
short_at image g (Some label) vtoc is =
    short_by g (address_at 11 label) _ vtoc (inside (is_inside g (address_at 11 label)) _ is)
  where
    inside : (b : Bool) (r : Result Run MountErr) → cond b r (Err BadVtoc) ≡ Ok vtoc → r ≡ Ok vtoc
    inside true r e = e
    inside false r e = cc

short_vtoc : (image : List ℕ) (g : Geometry) (vtoc : Run) → vtoc_of image g ≡ Ok vtoc → IsShort g vtoc
unfolding vtoc_of
short_vtoc image g vtoc is = short_at image g (label_of image g) vtoc is

-- the rules on the volume as a whole
no_faults : (volume : Volume) → volume_faults volume ≡ [] → (overlap_faults volume ≡ []) × (room_faults volume ≡ [])
unfolding volume_faults
no_faults volume none = both_empty (overlap_faults volume) (room_faults volume) none
  where
    both_empty : (xs ys : List MountErr) → xs ++ ys ≡ [] → (xs ≡ []) × (ys ≡ [])
    both_empty [] ys e = (refl, e)
    both_empty (x ∷ xs) ys e = absurd (cc)

only_extents : (g : Geometry) (xs : List DataSet) → AllByRecursion (IsGoodSet g) xs → AllByRecursion (λ (x : DataSet). AllByRecursion (IsOnPack g) x.extents) xs
only_extents g [] all = tt
only_extents g (x ∷ xs) all = (all.0.extents, only_extents g xs all.1)

-- no two data sets own a track, where track 0, the VTOC and they own it once
later_once : (vtoc : Run) (xs : List DataSet) (t : ℕ) → count_by (is_in t) (runs_owned vtoc xs) ≤ 1 → count_by (is_in t) (flat_map (λ (x : DataSet). x.extents) xs) ≤ 1
later_once vtoc xs t once =
    let test : Run → ℕ = λ r. cond (is_in t r) 1 0 in
    let others = flat_map (λ (x : DataSet). x.extents) xs in
    let first : Run = record { start = 0; len = 1 } in
    let one = sum_by-cons test first (vtoc ∷ others) in
    let two = sum_by-cons test vtoc others in
    omega (arith, once, one, two)

-- The volume of a label and a VTOC that break no rule is lawful.
pub lawful_with : (len : ℕ) (image : List ℕ) (g : Geometry) (vtoc : Run) → HasGeometry len g → vtoc_of image g ≡ Ok vtoc → slots_faults g (slots_of_vtoc image g vtoc) ≡ []
    → volume_faults (volume_by image g vtoc) ≡ [] → IsLawfulVolume (volume_by image g vtoc)
unfolding volume_with
lawful_with len image g vtoc has found none whole =
    let volume : Volume = volume_by image g vtoc in
    let tracks = data_tracks image g vtoc in
    let short = short_vtoc image g vtoc found in
    let good = good_in_order g tracks (slots_of_vtoc image g vtoc) none in
    let faults = no_faults volume whole in
    let once = owns_once volume (owned_end volume short.0 (only_extents g _ good)) faults.0 in
    record {
      some = has.cylinders;
      most = has.most;
      slots = few_slots image g vtoc short.1;
      room = has_room volume faults.1;
      order = ascending_sets g tracks (slots_of_vtoc image g vtoc) none;
      sets = lawful_all g has.most volume.sets good (λ t. later_once vtoc volume.sets t (once t));
      owned = once;
      has_catalog = catalog_is volume.sets;
      catalog = lawful_catalog volume.sets;
    }

-- What an image has that stands for a volume.
pub record HasVolume (image : List ℕ) (volume : Volume) : Type 0 where
  pub geometry : Geometry
  pub vtoc : Run
  pub header : geometry_of (take 512 image) (length image) ≡ Ok geometry
  pub found : vtoc_of image geometry ≡ Ok vtoc
  pub tracks : track_faults image geometry vtoc ≡ []
  pub slots : slots_faults geometry (slots_of_vtoc image geometry vtoc) ≡ []
  pub whole : volume_faults (volume_by image geometry vtoc) ≡ []
  pub is : volume_by image geometry vtoc ≡ volume

nothing_first : {X : Type 0} (xs : List X) → slice_get xs 0 ≡ None → xs ≡ []
nothing_first [] is = refl
nothing_first (x ∷ xs) is = cc

-- a volume is that of a header, an extent and slots that break no rule
pub has_volume : (image : List ℕ) (volume : Volume) → volume_of image ≡ Ok volume → HasVolume image volume
unfolding volume_of vtoc_fault
has_volume image volume is = by_header (geometry_of (take 512 image) (length image)) refl is
  where
    by_fault : (g : Geometry) (vtoc : Run) → geometry_of (take 512 image) (length image) ≡ Ok g → vtoc_of image g ≡ Ok vtoc → (o : Option MountErr) → vtoc_fault image g vtoc ≡ o
        → unless o (volume_by image g vtoc) ≡ Ok volume → HasVolume image volume
    by_fault g vtoc header found (Some e) none given = cc
    by_fault g vtoc header found None none given =
        let first = first_append-both (track_faults image g vtoc) (slots_faults g (slots_of_vtoc image g vtoc) ++ volume_faults (volume_by image g vtoc)) none in
        let second = first_append-both (slots_faults g (slots_of_vtoc image g vtoc)) (volume_faults (volume_by image g vtoc)) first.1 in
        record {
          geometry = g;
          vtoc = vtoc;
          header = header;
          found = found;
          tracks = nothing_first (track_faults image g vtoc) first.0;
          slots = nothing_first (slots_faults g (slots_of_vtoc image g vtoc)) second.0;
          whole = nothing_first (volume_faults (volume_by image g vtoc)) second.1;
          is = cc;
        }

    by_vtoc : (g : Geometry) → geometry_of (take 512 image) (length image) ≡ Ok g → (r : Result Run MountErr) → vtoc_of image g ≡ r → volume_within image g r ≡ Ok volume → HasVolume image volume
    by_vtoc g header (Err e) found given = cc
    by_vtoc g header (Ok vtoc) found given = by_fault g vtoc header found (vtoc_fault image g vtoc) refl given

    by_header : (r : Result Geometry ImageErr) → geometry_of (take 512 image) (length image) ≡ r → volume_on image r ≡ Ok volume → HasVolume image volume
    by_header (Err e) header given = cc
    by_header (Ok g) header given = by_vtoc g header (vtoc_of image g) refl given

-- The volume of an image that mounts is lawful.
pub lawful_volume : (image : List ℕ) (volume : Volume) → volume_of image ≡ Ok volume → IsLawfulVolume volume
lawful_volume image volume is =
    let has = has_volume image volume is in
    subst IsLawfulVolume has.is
    (lawful_with (length image) image has.geometry has.vtoc (has_geometry (take 512 image) (length image) has.geometry has.header) has.found has.slots has.whole)
