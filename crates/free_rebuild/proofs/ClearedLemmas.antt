-- What clearing leaves: data sets and what they lead to, no format 5 after slot 1, and no unused format 3.
use Rattle.std.proofs.Common.{◌≡◌, ◌≢◌, ◌+◌, ◌≤◌, ℕ, suc, Bool, true, false, cond, not, ◌||◌, ◌&&◌, List, [], ◌∷◌, length, Some, Ok, refl, sym, ap, ◌∙◌, ⊎_elim, arith}
use Rattle.std.specs.Prelude.{nat_le, nat_lt, slice_get}
use Rattle.std.proofs.Math.ListN.{set}
use Rattle.std.proofs.lemmas.Bool.Decides.{nat_tests}
use Rattle.std.proofs.lemmas.List.{length-set}
use Rattle.dscb_codec.specs.declared.Dscb.{Dscb}
use Rattle.dscb_codec.specs.declared.Dscb.TheVariants as formats
use Rattle.pack_spec.specs.Rules.{is_f3}
use Rattle.pack_spec.specs.Settled.{is_f5}
use Rattle.free_rebuild.specs.Clearing.{AreCleared, is_extra, is_pointed, points_to}
use Rattle.free_rebuild.proofs.ChainLemmas.{get_low, get_set, get_set_other, same_or_not}

-- what belongs to nothing points nowhere
extra_points : (ds : List Dscb) (a b : List ℕ) (d : Dscb) → is_extra ds a d ≡ true → points_to b d ≡ false
extra_points ds a b formats.F0 is = cc
extra_points ds a b (formats.F1 f) is = cc
extra_points ds a b (formats.F3 f) is = refl
extra_points ds a b (formats.F4 f) is = refl
extra_points ds a b (formats.F5 f) is = refl

-- lists of one length whose items point alike have the same address in them
pointed_alike : (a : List ℕ) (ds es : List Dscb) → length es ≡ length ds → ((k : ℕ) (d e : Dscb) → slice_get ds k ≡ Some d → slice_get es k ≡ Some e → points_to a e ≡ points_to a d) → is_pointed es a ≡ is_pointed ds a
pointed_alike a [] [] size each = refl
pointed_alike a [] (e ∷ es) size each = absurd (omega (arith, size))
pointed_alike a (d ∷ ds) [] size each = absurd (omega (arith, size))
pointed_alike a (d ∷ ds) (e ∷ es) size each =
    ap (λ (t : Bool). t || is_pointed es a) (each 0 d e refl refl)
    ∙ ap (λ (t : Bool). points_to a d || t) (pointed_alike a ds es (omega (arith, size)) (λ k x y is_x is_y. each (suc k) x y is_x is_y))

-- nothing is cleared so far
pub cleared_none : (at : ℕ → List ℕ) (upto : ℕ) (ds : List Dscb) → upto ≤ 2 → AreCleared at upto ds ds
cleared_none at upto ds low = record { size = refl; each = λ k d is. is ∙ ap Some (sym (same (nat_le 2 k) (nat_lt k upto) (is_extra ds (at k) d) d (apart k))) }
  where
    apart : (k : ℕ) → (nat_le 2 k && nat_lt k upto) ≡ false
    apart k = grind (arith, nat_tests)

    same : (t u v : Bool) (d : Dscb) → (t && u) ≡ false → cond (t && (u && v)) formats.F0 d ≡ d
    same true true v d e = cc
    same true false v d e = refl
    same false u v d e = refl

module _ (at : ℕ → List ℕ) (upto : ℕ) (ds es : List Dscb) (cleared : AreCleared at upto ds es) where
  item : (k : ℕ) (d e : Dscb) → slice_get ds k ≡ Some d → slice_get es k ≡ Some e → e ≡ cond (nat_le 2 k && (nat_lt k upto && is_extra ds (at k) d)) formats.F0 d
  item k d e is_d is_e = let both : Some e ≡ Some (cond (nat_le 2 k && (nat_lt k upto && is_extra ds (at k) d)) formats.F0 d) = sym is_e ∙ cleared.each k d is_d in cc

  -- data sets point as before
  pub cleared_pointed : (a : List ℕ) → is_pointed es a ≡ is_pointed ds a
  cleared_pointed a = pointed_alike a ds es cleared.size (λ k d e is_d is_e. ap (points_to a) (item k d e is_d is_e) ∙ by_test k d (nat_le 2 k) (nat_lt k upto) (is_extra ds (at k) d) refl)
    where
      by_test : (k : ℕ) (d : Dscb) (t u v : Bool) → is_extra ds (at k) d ≡ v → points_to a (cond (t && (u && v)) formats.F0 d) ≡ points_to a d
      by_test k d true true true extra = sym (extra_points ds (at k) a d extra)
      by_test k d true true false extra = refl
      by_test k d true false v extra = refl
      by_test k d false u v extra = refl

  -- so a slot belongs to nothing as before
  pub cleared_extra : (a : List ℕ) (d : Dscb) → is_extra es a d ≡ is_extra ds a d
  cleared_extra a d = ap (λ (t : Bool). is_f5 (Ok d) || (is_f3 (Ok d) && not t)) (cleared_pointed a)

  -- a slot that isn't reached stands
  pub cleared_behind : (k : ℕ) (d : Dscb) → upto ≤ k → slice_get ds k ≡ Some d → slice_get es k ≡ Some d
  cleared_behind k d high is = cleared.each k d is ∙ ap Some (same (nat_le 2 k) (nat_lt k upto) (is_extra ds (at k) d) (not_below k high))
    where
      not_below : (k : ℕ) → upto ≤ k → nat_lt k upto ≡ false
      not_below k high = grind (arith, nat_tests)

      same : (t u v : Bool) → u ≡ false → cond (t && (u && v)) formats.F0 d ≡ d
      same true true v e = cc
      same true false v e = refl
      same false u v e = refl

-- one slot more, which belongs to nothing
pub cleared_more : (at : ℕ → List ℕ) (i : ℕ) (ds es : List Dscb) (d : Dscb) → 2 ≤ i → AreCleared at i ds es → slice_get es i ≡ Some d → is_extra es (at i) d ≡ true → AreCleared at (i + 1) ds (set es i formats.F0)
cleared_more at i ds es d two cleared is extra = record {
  size = length-set es i formats.F0 ∙ cleared.size;
  each = λ k x there. ⊎_elim
      (λ here.
      let held : slice_get es i ≡ Some x = cleared_behind at i ds es cleared i x (omega arith) (ap (slice_get ds) (sym here) ∙ there) in
      let same : d ≡ x = let both : Some d ≡ Some x = sym is ∙ held in cc in
      let was : is_extra ds (at i) x ≡ true = sym (cleared_extra at i ds es cleared (at i) x) ∙ ap (is_extra es (at i)) (sym same) ∙ extra in
      let all : (nat_le 2 k && (nat_lt k (i + 1) && is_extra ds (at k) x)) ≡ true = ap (λ (n : ℕ). nat_le 2 n && (nat_lt n (i + 1) && is_extra ds (at n) x)) here ∙ tests i (is_extra ds (at i) x) two was in
      ap (slice_get (set es i formats.F0)) here ∙ get_set es i formats.F0 (get_low es i d is) ∙ ap (λ (t : Bool). Some (cond t formats.F0 x)) (sym all))
      (λ other. get_set_other es i k formats.F0 other ∙ cleared.each k x there ∙ ap (λ (t : Bool). Some (cond (nat_le 2 k && (t && is_extra ds (at k) x)) formats.F0 x)) (below k other))
      (same_or_not k i);
}
  where
    tests : (i : ℕ) (t : Bool) → 2 ≤ i → t ≡ true → (nat_le 2 i && (nat_lt i (i + 1) && t)) ≡ true
    tests i t two is = grind (arith, nat_tests)

    below : (k : ℕ) → k ≢ i → nat_lt k i ≡ nat_lt k (i + 1)
    below k other = grind (arith, nat_tests)

-- one slot more, which belongs to something
pub cleared_kept : (at : ℕ → List ℕ) (i : ℕ) (ds es : List Dscb) (d : Dscb) → AreCleared at i ds es → slice_get es i ≡ Some d → is_extra es (at i) d ≡ false → AreCleared at (i + 1) ds es
cleared_kept at i ds es d cleared is extra = record {
  size = cleared.size;
  each = λ k x there. ⊎_elim
      (λ here.
      let held : slice_get es i ≡ Some x = cleared_behind at i ds es cleared i x (omega arith) (ap (slice_get ds) (sym here) ∙ there) in
      let same : d ≡ x = let both : Some d ≡ Some x = sym is ∙ held in cc in
      let was : is_extra ds (at k) x ≡ false = ap (λ (n : ℕ). is_extra ds (at n) x) here ∙ sym (cleared_extra at i ds es cleared (at i) x) ∙ ap (is_extra es (at i)) (sym same) ∙ extra in
      ap (slice_get es) here ∙ held ∙ ap Some (sym (ap (λ (t : Bool). cond (nat_le 2 k && (nat_lt k (i + 1) && t)) formats.F0 x) was ∙ none (nat_le 2 k) (nat_lt k (i + 1)) x)))
      (λ other. cleared.each k x there ∙ ap (λ (t : Bool). Some (cond (nat_le 2 k && (t && is_extra ds (at k) x)) formats.F0 x)) (below k other))
      (same_or_not k i);
}
  where
    none : (t u : Bool) (x : Dscb) → cond (t && (u && false)) formats.F0 x ≡ x
    none true true x = refl
    none true false x = refl
    none false u x = refl

    below : (k : ℕ) → k ≢ i → nat_lt k i ≡ nat_lt k (i + 1)
    below k other = grind (arith, nat_tests)
