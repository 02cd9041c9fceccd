-- A data set in slots that break no rule has good extents, each a run of tracks of the pack.
use Rattle.std.proofs.Common.{◌≡◌, ℕ, zero, suc, ◌+◌, ◌*◌, ◌<◌, ◌≤◌, Bool, true, false, cond, not, ◌&&◌, List, [], ◌∷◌, ◌++◌, length, map, take, get_or, Option, Some, None, Result, Ok, Err, refl, sym, ap, ◌∙◌, arith}
use Rattle.std.specs.Prelude.{nat_lt, slice_get}
use Rattle.std.specs.List.{AllByRecursion, list_all}
use Rattle.std.specs.Option.{option_map_or}
use Rattle.std.proofs.Math.Dec.{eqb, eqb-suc-zero}
use Rattle.std.proofs.Math.Nat.{mul-le-mul_right}
use Rattle.std.proofs.lemmas.Bool.{and_parts, leb-true, ltb-true}
use Rattle.std.proofs.lemmas.Option.{slice_get-get_or}
use Rattle.ckd_image.specs.declared.header.Geometry.{Geometry}
use Rattle.dscb_codec.specs.declared.Dscb.{Dscb}
use Rattle.dscb_codec.specs.declared.Dscb.TheVariants as formats
use Rattle.dscb_codec.specs.declared.DscbErr.{DscbErr}
use Rattle.dscb_codec.specs.declared.F1.{F1}
use Rattle.vol_model.specs.Lawful.{IsOnPack}
use Rattle.pack_spec.specs.declared.MountErr.{MountErr}
use Rattle.pack_spec.specs.declared.MountErr.TheVariants.{BadChain, BadExtent, NoFormat4, UnsupportedExtent}
use Rattle.pack_spec.specs.declared.slot.VtocSlot.{VtocSlot}
use Rattle.pack_spec.specs.Label.{heads_of, is_inside, track_of_address}
use Rattle.pack_spec.specs.Vtoc.{is_extent, lower_of, run_of_extent, upper_of}
use Rattle.pack_spec.specs.Rules.{content_fault, extents_fault, front_faults, has_chain, has_extents, has_types, is_f4, set_in, slot_fault, slot_faults, slots_faults}
use Rattle.pack_spec.proofs.FirstFaults.{none_at}
use Rattle.pack_spec.proofs.Lawful.{groups_hold}

middle_holds : (a b c : Bool) (k : ℕ) → cond (not a) (Some (UnsupportedExtent k)) (cond (not b) (Some (BadExtent k)) (cond (not c) (Some (BadChain k)) None)) ≡ None → b ≡ true
middle_holds true true c k e = refl
middle_holds true false c k e = cc
middle_holds false b c k e = cc

front_none : (b : Bool) (x : MountErr) (ys : List MountErr) → slice_get (cond b [] (x ∷ []) ++ ys) 0 ≡ None → b ≡ true
front_none true x ys e = refl
front_none false x ys e = cc

-- slot 0 is a format 4
first_f4 : (ss : List VtocSlot) (d : VtocSlot) → 0 < length ss → slice_get (front_faults ss) 0 ≡ None → is_f4 (get_or ss 0 d).content ≡ true
unfolding front_faults
first_f4 ss d low none =
    sym (ap (λ (o : Option VtocSlot). option_map_or (λ s. is_f4 s.content) o false) (slice_get-get_or ss 0 d low)) ∙ front_none _ NoFormat4 _ none

behind_first : (b : Bool) (o : Option MountErr) → b ≡ false → cond b None o ≡ None → o ≡ None
behind_first true o h e = cc
behind_first false o h e = e

-- the format 1 in a slot after it
behind_good : (g : Geometry) (ss : List VtocSlot) (k n : ℕ) (s : VtocSlot) (f : F1) → n ≡ suc k → slot_fault g ss n s ≡ None → s.content ≡ Ok (formats.F1 f) → has_extents g ss f ≡ true
unfolding slot_fault extents_fault
behind_good g ss k n s f number none is =
    let first : eqb n 0 ≡ false = ap (λ (m : ℕ). eqb m 0) number ∙ eqb-suc-zero k in
    let content : content_fault g ss n (Ok (formats.F1 f)) ≡ None = sym (ap (content_fault g ss n) is) ∙ behind_first (eqb n 0) (content_fault g ss n s.content) first none in
    middle_holds (has_types ss f) (has_extents g ss f) (has_chain ss (take n ss) f) n content

-- the content that a format 1 is
content_is : (c : Result Dscb DscbErr) (f : F1) → set_in c ≡ Some f → c ≡ Ok (formats.F1 f)
content_is (Ok formats.F0) f is = cc
content_is (Ok (formats.F1 h)) f is = let same : h ≡ f = cc in ap (λ (x : F1). Ok (formats.F1 x)) same
content_is (Ok (formats.F3 h)) f is = cc
content_is (Ok (formats.F4 h)) f is = cc
content_is (Ok (formats.F5 h)) f is = cc
content_is (Err e) f is = cc

pub good_extents : (g : Geometry) (ss : List VtocSlot) (i : ℕ) (d : VtocSlot) (f : F1) → slots_faults g ss ≡ [] → i < length ss → set_in (get_or ss i d).content ≡ Some f → has_extents g ss f ≡ true
unfolding slot_faults
good_extents g ss zero d f none low is =
    let four : is_f4 (Ok (formats.F1 f)) ≡ true = sym (ap is_f4 (content_is (get_or ss 0 d).content f is)) ∙ first_f4 ss d low (groups_hold g ss none).0 in
    absurd (let wrong : false ≡ true = four in cc)
good_extents g ss (suc k) d f none low is =
    behind_good g ss k (0 + suc k) (get_or ss (suc k) d) f (omega arith) (none_at (λ p. slot_fault g ss p.0 p.1) 0 ss (suc k) d (groups_hold g ss none).1 low) (content_is (get_or ss (suc k) d).content f is)

-- the tracks of an extent lie on the pack
pub on_pack : (g : Geometry) (extent : List ℕ) → is_extent g extent ≡ true → IsOnPack g (run_of_extent g extent)
on_pack g extent is =
    let upper = upper_of extent in
    let ends = and_parts (is_inside g (lower_of extent) && is_inside g upper) _ is in
    let inside = and_parts (nat_lt upper.cylinder g.cylinders) _ (and_parts (is_inside g (lower_of extent)) _ ends.0).1 in
    let order : track_of_address g (lower_of extent) ≤ track_of_address g upper = leb-true _ _ ends.1 in
    let cylinder : suc upper.cylinder ≤ g.cylinders = omega (arith, ltb-true upper.cylinder g.cylinders inside.0) in
    let head : upper.head < heads_of g = ltb-true upper.head (heads_of g) inside.1 in
    let whole = mul-le-mul_right {m = suc upper.cylinder} {n = g.cylinders} (heads_of g) cylinder in
    (omega arith, omega (arith, order, head, whole))

pub all_on_pack : (g : Geometry) (extents : List (List ℕ)) → list_all (is_extent g) extents ≡ true → AllByRecursion (IsOnPack g) (map (run_of_extent g) extents)
all_on_pack g [] are = tt
all_on_pack g (extent ∷ extents) are =
    let parts = and_parts (is_extent g extent) (list_all (is_extent g) extents) are in
    (on_pack g extent parts.0, all_on_pack g extents parts.1)
