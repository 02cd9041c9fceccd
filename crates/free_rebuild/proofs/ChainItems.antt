-- What the slots hold into which a chain is written: format 5 in the chain, and else what they held.
use Rattle.std.proofs.Common.{◌≡◌, ◌+◌, ◌<◌, ℕ, zero, suc, Bool, true, false, cond, List, [], ◌∷◌, length, take, map, Option, Some, None, Ok, refl, sym, ap, ◌∙◌, ◌⊎◌, inl, inr, ⊎_elim, arith}
use Rattle.std.specs.Prelude.{count_by, replicate, slice_get}
use Rattle.std.proofs.Math.ListN.{set}
use Rattle.std.proofs.lemmas.List.Sums.{sum_by-cons}
use Rattle.dscb_codec.specs.declared.Dscb.{Dscb}
use Rattle.pack_spec.specs.Settled.{is_f5}
use Rattle.free_rebuild.specs.Chain.{chained, is_open, next_or, space_of}
use Rattle.free_rebuild.proofs.ChainLemmas.{HasRoom, get_set, get_set_other, get_low, next_alike, next_is, next_there, open_set, room_alike, same_or_not}

-- a format 5
abbrev pub is_five : Dscb → Bool
is_five d = is_f5 (Ok d)

module _ (at : ℕ → List ℕ) where
  set_item : (ds : List Dscb) (k j : ℕ) (e d : Dscb) → is_five e ≡ true → slice_get (set ds k e) j ≡ Some d → (is_five d ≡ true) ⊎ (slice_get ds j ≡ Some d)
  set_item ds k j e d five is = ⊎_elim
      (λ here. by_there (slice_get ds k) refl here)
      (λ other. inr (sym (get_set_other ds k j e other) ∙ is))
      (same_or_not j k)
    where
      by_there : (o : Option Dscb) → slice_get ds k ≡ o → j ≡ k → (is_five d ≡ true) ⊎ (slice_get ds j ≡ Some d)
      by_there (Some x) there here =
          let same : e ≡ d = let both : Some e ≡ Some d = sym (get_set ds k e (get_low ds k x there)) ∙ ap (slice_get (set ds k e)) (sym here) ∙ is in cc in
          inl (ap is_five (sym same) ∙ five)
      by_there None there here = inr (absent ds k j here there is)
        where
          absent : (ds : List Dscb) (k j : ℕ) → j ≡ k → slice_get ds k ≡ None → slice_get (set ds k e) j ≡ Some d → slice_get ds j ≡ Some d
          absent [] k j here there is = is
          absent (x ∷ ds) zero j here there is = cc
          absent (x ∷ ds) (suc k) zero here there is = absurd (omega (arith, here))
          absent (x ∷ ds) (suc k) (suc j) here there is = absent ds k j (omega (arith, here)) there is

  -- each item is of format 5, or as it was
  pub chained_item : (ds : List Dscb) (k j : ℕ) (ess : List (List (List ℕ))) (d : Dscb) → slice_get (chained at ds k ess) j ≡ Some d → (is_five d ≡ true) ⊎ (slice_get ds j ≡ Some d)
  chained_item ds k j [] d is = inr is
  chained_item ds k j (es ∷ []) d is = set_item ds k j (space_of es (replicate 5 0)) d refl is
  chained_item ds k j (es ∷ more ∷ others) d is =
      let e : Dscb = space_of es (at (next_or ds k)) in
      ⊎_elim (λ five. inl five) (λ was. set_item ds k j e d refl was) (chained_item (set ds k e) (next_or ds k) j (more ∷ others) d is)

  closed_set : (ds : List Dscb) (k j : ℕ) (x e d : Dscb) → slice_get ds k ≡ Some x → is_open x ≡ true → slice_get ds j ≡ Some d → is_open d ≡ false → slice_get (set ds k e) j ≡ Some d
  closed_set ds k j x e d there opened is closed = ⊎_elim
      (λ here.
      let same : x ≡ d = let both : Some x ≡ Some d = sym there ∙ ap (slice_get ds) (sym here) ∙ is in cc in
      let both : true ≡ false = sym opened ∙ ap is_open same ∙ closed in
      absurd cc)
      (λ other. get_set_other ds k j e other ∙ is)
      (same_or_not j k)

  -- what isn't open stands
  pub chained_closed : (ds : List Dscb) (k j : ℕ) (ess : List (List (List ℕ))) (x d : Dscb) → HasRoom ds k ess → slice_get ds k ≡ Some x → is_open x ≡ true → slice_get ds j ≡ Some d → is_open d ≡ false → slice_get (chained at ds k ess) j ≡ Some d
  chained_closed ds k j [] x d room there opened is closed = is
  chained_closed ds k j (es ∷ []) x d room there opened is closed = closed_set ds k j x (space_of es (replicate 5 0)) d there opened is closed
  chained_closed ds k j (es ∷ more ∷ others) x d room there opened is closed =
      let n : ℕ = room.0 in
      let e : Dscb = space_of es (at (next_or ds k)) in
      let same : map is_open (set ds k e) ≡ map is_open ds = open_set ds k x e there opened refl in
      let next = next_there (set ds k e) (k + 1) n (next_alike (set ds k e) ds (k + 1) same ∙ room.1) in
      ap (λ (m : ℕ). slice_get (chained at (set ds k e) m (more ∷ others)) j) (next_is at ds k n room.1)
      ∙ chained_closed (set ds k e) n j (more ∷ others) next.there d (room_alike ds (set ds k e) n (more ∷ others) same room.2) next.at next.is_open (closed_set ds k j x e d there opened is closed) closed

-- how many pass a test, one by one
pub count_more : {X : Type 0} (p : X → Bool) (x : X) (xs : List X) → count_by p (x ∷ xs) ≡ cond (p x) 1 0 + count_by p xs
count_more p x xs = sum_by-cons (λ y. cond (p y) 1 0) x xs

-- as many of format 5 as stood in front, and one for each DSCB of the chain
abbrev pub fives : List Dscb → ℕ
fives ds = count_by is_five ds

-- no format 5 stands after a slot
abbrev pub NoneBehind : List Dscb → ℕ → Type 0
NoneBehind ds k = (j : ℕ) (d : Dscb) → k < j → slice_get ds j ≡ Some d → is_five d ≡ false

none_at_all : (ds : List Dscb) → ((j : ℕ) (d : Dscb) → slice_get ds j ≡ Some d → is_five d ≡ false) → fives ds ≡ 0
none_at_all [] none = refl
none_at_all (x ∷ ds) none = count_more is_five x ds ∙ ap (λ (t : Bool). cond t 1 0 + fives ds) (none 0 x refl) ∙ omega (arith, none_at_all ds (λ j d is. none (suc j) d is))

-- those up to a slot, where none stands after
fives_set : (ds : List Dscb) (k : ℕ) (x e : Dscb) → slice_get ds k ≡ Some x → is_five e ≡ true → NoneBehind ds k → fives (set ds k e) ≡ fives (take k ds) + 1
fives_set [] k x e there five none = cc
fives_set (y ∷ ds) zero x e there five none = count_more is_five e ds ∙ ap (λ (t : Bool). cond t 1 0 + fives ds) five ∙ omega (arith, none_at_all ds (λ j d is. none (suc j) d (omega arith) is))
fives_set (y ∷ ds) (suc k) x e there five none =
    let rest = fives_set ds k x e there five (λ j d behind is. none (suc j) d (omega (arith, behind)) is) in
    count_more is_five y (set ds k e) ∙ ap (λ (n : ℕ). cond (is_five y) 1 0 + n) rest ∙ omega (arith, count_more is_five y (take k ds))

-- those in front of a later slot, which are as many
fives_front : (ds : List Dscb) (k n : ℕ) (x e : Dscb) → slice_get ds k ≡ Some x → is_five e ≡ true → NoneBehind ds k → k < n → fives (take n (set ds k e)) ≡ fives (take k ds) + 1
fives_front [] k n x e there five none low = cc
fives_front (y ∷ ds) k zero x e there five none low = absurd (omega (arith, low))
fives_front (y ∷ ds) zero (suc n) x e there five none low = count_more is_five e (take n ds) ∙ ap (λ (t : Bool). cond t 1 0 + fives (take n ds)) five ∙ omega (arith, few ds n (λ j d is. none (suc j) d (omega arith) is))
  where
    few : (ds : List Dscb) (n : ℕ) → ((j : ℕ) (d : Dscb) → slice_get ds j ≡ Some d → is_five d ≡ false) → fives (take n ds) ≡ 0
    few [] zero none = refl
    few [] (suc n) none = refl
    few (x ∷ ds) zero none = refl
    few (x ∷ ds) (suc n) none = count_more is_five x (take n ds) ∙ ap (λ (t : Bool). cond t 1 0 + fives (take n ds)) (none 0 x refl) ∙ omega (arith, few ds n (λ j d is. none (suc j) d is))
fives_front (y ∷ ds) (suc k) (suc n) x e there five none low =
    let rest = fives_front ds k n x e there five (λ j d behind is. none (suc j) d (omega (arith, behind)) is) (omega (arith, low)) in
    count_more is_five y (take n (set ds k e)) ∙ ap (λ (m : ℕ). cond (is_five y) 1 0 + m) rest ∙ omega (arith, count_more is_five y (take k ds))

module _ (at : ℕ → List ℕ) where
  pub chained_fives : (ds : List Dscb) (k : ℕ) (ess : List (List (List ℕ))) (x : Dscb) → 0 < length ess → HasRoom ds k ess → slice_get ds k ≡ Some x → is_open x ≡ true → NoneBehind ds k → fives (chained at ds k ess) ≡ fives (take k ds) + length ess
  chained_fives ds k [] x some room there opened none = absurd (omega (arith, some))
  chained_fives ds k (es ∷ []) x some room there opened none = fives_set ds k x (space_of es (replicate 5 0)) there refl none
  chained_fives ds k (es ∷ more ∷ others) x some room there opened none =
      let n : ℕ = room.0 in
      let e : Dscb = space_of es (at (next_or ds k)) in
      let ds' : List Dscb = set ds k e in
      let same : map is_open ds' ≡ map is_open ds = open_set ds k x e there opened refl in
      let next = next_there ds' (k + 1) n (next_alike ds' ds (k + 1) same ∙ room.1) in
      let none' : NoneBehind ds' n = λ j d behind is. none j d (omega (arith, behind, next.behind)) (sym (get_set_other ds k j e (λ here. omega (arith, here, behind, next.behind))) ∙ is) in
      let rest = chained_fives ds' n (more ∷ others) next.there (omega arith) (room_alike ds ds' n (more ∷ others) same room.2) next.at next.is_open none' in
      let front = fives_front ds k n x e there refl none (omega (arith, next.behind)) in
      ap (λ (m : ℕ). fives (chained at ds' m (more ∷ others))) (next_is at ds k n room.1) ∙ rest ∙ omega (arith, front)
