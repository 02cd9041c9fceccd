-- No data set of a mounted image owns a track of its VTOC, track 0, or one of another data set.
use Rattle.std.proofs.Common.{◌≡◌, ◌≢◌, ◌+◌, ◌≤◌, ◌<◌, inl, inr, ℕ, zero, suc, Bool, true, false, cond, List, [], ◌∷◌, ◌++◌, map, Option, Some, None, Result, Ok, refl, ap, ◌∙◌, subst, arith}
use Rattle.std.specs.Prelude.{slice_get}
use Rattle.std.specs.List.{cons_option, filter_map, flat_map}
use Rattle.ckd_image.specs.declared.header.Geometry.{Geometry}
use Rattle.dscb_codec.specs.declared.Dscb.{Dscb}
use Rattle.dscb_codec.specs.declared.Dscb.TheVariants as formats
use Rattle.dscb_codec.specs.declared.DscbErr.{DscbErr}
use Rattle.dscb_codec.specs.declared.F1.{F1}
use Rattle.pack_spec.specs.declared.slot.VtocSlot.{VtocSlot}
use Rattle.pack_spec.specs.Alike.{IsIn}
use Rattle.pack_spec.specs.Blocks.{owned_tracks}
use Rattle.pack_spec.specs.Label.{tracks_of}
use Rattle.pack_spec.specs.Rules.{set_in}
use Rattle.pack_spec.specs.Slots.{slots_of_vtoc, tracks_in}
use Rattle.pack_spec.specs.Volume.{counted_runs, data_set_of, data_sets_in, volume_by, volume_with}
use Rattle.pack_spec.proofs.Lawful.{lawful_volume}
use Rattle.pack_spec.proofs.OwnedRuns.{owners_permuted, runs_owned}
use Rattle.vol_model.specs.declared.contents.DataSet.{DataSet}
use Rattle.vol_model.specs.declared.contents.Run.{Run}
use Rattle.vol_model.specs.Lawful.{IsOnPack}
use Rattle.vol_model.specs.Order.{in_order}
use Rattle.vol_model.specs.Space.{is_in}
use Rattle.vol_model.proofs.InOrder.{in_order-permutation}
use Rattle.vtoc_index.specs.declared.vol.Vol.{Vol}
use Rattle.vtoc_index.specs.Index.{AreDscbs}
use Rattle.vtoc_sets.specs.Sets.{IsSetIn, data_in, extents_in, owned_in}
use Rattle.vtoc_sets.proofs.OwnedPlaces.{extent_on_pack}
use Rattle.vtoc_sets.proofs.Owners.{either, is_within, one_of, owned_apart, owned_some, owners, owners_more, run_at, two_of}

-- the place of a format 1 among the data sets in slots
pub among_sets : (slots : List VtocSlot) (dscbs : List Dscb) (k : ℕ) (f : F1) → AreDscbs dscbs slots → slice_get dscbs k ≡ Some (formats.F1 f) → (m : ℕ) × (slice_get (filter_map (λ (s : VtocSlot). set_in s.content) slots) m ≡ Some f)
among_sets slots [] k f are is = cc
among_sets [] (d ∷ dscbs) k f are is = absurd (empty (map Ok dscbs) are)
  where
    empty : (rest : List (Result Dscb DscbErr)) → [] ≡ Ok d ∷ rest → ⊥
    empty rest same = cc
among_sets (s ∷ slots) (d ∷ dscbs) zero f are is =
    let same : d ≡ formats.F1 f = cc in
    let content : s.content ≡ Ok d = cc in
    let set : set_in s.content ≡ Some f = ap set_in (content ∙ ap Ok same) in
    (zero, ap (λ (o : Option F1). slice_get (cons_option o (filter_map (λ (s : VtocSlot). set_in s.content) slots)) zero) set)
among_sets (s ∷ slots) (d ∷ dscbs) (suc k) f are is =
    let more : AreDscbs dscbs slots = cc in
    let rest = among_sets slots dscbs k f more is in
    let at = behind (set_in s.content) (filter_map (λ (s : VtocSlot). set_in s.content) slots) rest.0 rest.1 in
    at
  where
    behind : (o : Option F1) (fs : List F1) (m : ℕ) → slice_get fs m ≡ Some f → (j : ℕ) × (slice_get (cons_option o fs) j ≡ Some f)
    behind None fs m there = (m, there)
    behind (Some x) fs m there = (suc m, there)

-- the tracks of runs on the pack are on it
tracks_inside : (g : Geometry) (xs : List Run) → ((m : ℕ) (r : Run) → slice_get xs m ≡ Some r → IsOnPack g r) → (k t : ℕ) → slice_get (owned_tracks xs) k ≡ Some t → t < tracks_of g
unfolding owned_tracks
tracks_inside g [] on k t is = cc
tracks_inside g (r ∷ rs) on k t is = elim (either (tracks_in r) (flat_map tracks_in rs) k t is) [
  | inl w ↦ let at = run_at r.start r.len k t w in let here = on zero r refl in omega (arith, at.0, at.1, here.1)
  | inr w ↦ tracks_inside g rs (λ m x there. on (suc m) x there) w.0 t w.2
]

module _ (image : List ℕ) (v : Vol) (f : F1) (set : IsSetIn image v f) where
  abbrev pub slots : List VtocSlot
  slots = slots_of_vtoc image v.geometry v.vtoc

  -- the format 1s of the data sets
  abbrev pub fs : List F1
  fs = filter_map (λ (s : VtocSlot). set_in s.content) slots

  -- the runs of a data set
  abbrev pub runs : F1 → List Run
  runs = counted_runs v.geometry slots

  -- those of all
  abbrev pub all_runs : List Run
  all_runs = flat_map runs fs

  extents_all : (xs : List F1) → flat_map (λ (x : DataSet). x.extents) (map (data_set_of v.geometry (data_in image v) slots) xs) ≡ flat_map runs xs
  unfolding data_set_of
  extents_all [] = refl
  extents_all (x ∷ xs) = ap (λ (l : List Run). runs x ++ l) (extents_all xs)

  -- track 0, the VTOC and the data sets own a track once
  all_once : (t : ℕ) → owners t (record { start = 0; len = 1 } ∷ v.vtoc ∷ all_runs) ≤ 1
  unfolding volume_with data_sets_in
  all_once t =
      let sets : List DataSet = data_sets_in v.geometry (data_in image v) slots in
      let lawful = lawful_volume image (volume_by image v.geometry v.vtoc) set.set.mounted.volume in
      let least : owners t (runs_owned v.vtoc sets) ≤ 1 = omega (arith, lawful.owned t, owners_permuted t v.vtoc sets (in_order sets) (in_order-permutation sets)) in
      subst (λ (l : List Run). owners t (record { start = 0; len = 1 } ∷ v.vtoc ∷ l) ≤ 1) (extents_all fs) least

  pub sets_once : (t : ℕ) → owners t all_runs ≤ 1
  sets_once t = omega (arith, all_once t, owners_more t (record { start = 0; len = 1 }) (v.vtoc ∷ all_runs), owners_more t v.vtoc all_runs)

  not_both : (b : Bool) (n m p : ℕ) → n ≤ 1 → n ≡ p + m → p ≡ cond b 1 0 → 1 ≤ m → b ≡ false
  not_both true n m p most is e low = absurd (omega (arith, most, is, e, low))
  not_both false n m p most is e low = refl

  -- no track of a data set is one of the VTOC
  pub set_out : (x : F1) (n k t : ℕ) → slice_get fs n ≡ Some x → slice_get (owned_tracks (runs x)) k ≡ Some t → is_in t v.vtoc ≡ false
  set_out x n k t is there =
      let mine : 1 ≤ owners t all_runs = omega (arith, one_of runs t fs n x is, owned_some (runs x) k t there) in
      let most : owners t (v.vtoc ∷ all_runs) ≤ 1 = omega (arith, all_once t, owners_more t (record { start = 0; len = 1 }) (v.vtoc ∷ all_runs)) in
      not_both (is_in t v.vtoc) (owners t (v.vtoc ∷ all_runs)) (owners t all_runs) (cond (is_in t v.vtoc) 1 0) most (owners_more t v.vtoc all_runs) refl mine

  pub among : (m : ℕ) × (slice_get fs m ≡ Some f)
  among = among_sets slots v.slots.items set.slot f set.set.mounted.index.slots set.dscb

  pub outside : (k t : ℕ) → slice_get (owned_in image v f) k ≡ Some t → is_in t v.vtoc ≡ false
  outside k t there = set_out f among.0 k t among.1 there

  pub not_in_vtoc : (k t : ℕ) → slice_get (owned_in image v f) k ≡ Some t → IsIn v.vtoc t → ⊥
  not_in_vtoc k t there within = both (is_in t v.vtoc) (is_within t v.vtoc within.0 within.1) (outside k t there)
    where
      both : (b : Bool) → b ≡ true → b ≡ false → ⊥
      both b one two = cc

  -- nor track 0
  pub not_first : (k : ℕ) → slice_get (owned_in image v f) k ≡ Some 0 → ⊥
  not_first k there =
      let mine : 1 ≤ owners 0 all_runs = omega (arith, one_of runs 0 fs among.0 f among.1, owned_some (runs f) k 0 there) in
      let first : owners 0 (record { start = 0; len = 1 } ∷ v.vtoc ∷ all_runs) ≡ 1 + owners 0 (v.vtoc ∷ all_runs) = owners_more 0 (record { start = 0; len = 1 }) (v.vtoc ∷ all_runs) in
      omega (arith, mine, first, all_once 0, owners_more 0 v.vtoc all_runs)

  -- each is owned once
  pub mine_once : (t : ℕ) → owners t (extents_in image v f) ≤ 1
  mine_once t = omega (arith, sets_once t, one_of runs t fs among.0 f among.1)

  -- and stands once among its tracks
  pub own_once : (j k t : ℕ) → slice_get (owned_in image v f) j ≡ Some t → slice_get (owned_in image v f) k ≡ Some t → j ≡ k
  own_once j k t first second = owned_apart (runs f) j k t first second (mine_once t)

  -- and among those of no other data set
  pub others_apart : (x : F1) (n j k t : ℕ) → slice_get fs n ≡ Some x → n ≢ among.0 → slice_get (owned_tracks (runs x)) k ≡ Some t → slice_get (owned_in image v f) j ≡ Some t → ⊥
  others_apart x n j k t is apart there mine = omega (arith, sets_once t, two_of runs t fs n among.0 x f is among.1 apart, owned_some (runs x) k t there, owned_some (runs f) j t mine)

  -- each is on the pack
  pub own_inside : (k t : ℕ) → slice_get (owned_in image v f) k ≡ Some t → t < tracks_of v.geometry
  own_inside k t is = tracks_inside v.geometry (extents_in image v f) (extent_on_pack image v f set.set) k t is
