-- The address of the last format 1, found from slot to slot.
use Rattle.std.proofs.Common.{◌≡◌, ◌+◌, ◌≤◌, ◌<◌, ℕ, zero, suc, Bool, true, false, cond, List, [], ◌∷◌, length, drop, map, Option, Some, None, Ok, refl, sym, ap, ◌∙◌, arith}
use Rattle.std.specs.Prelude.{filter, get_or, replicate, slice_get, unwrap_or}
use Rattle.std.specs.List.{enumerate_from, last_or}
use Rattle.std.specs.Option.{option_map}
use Rattle.dscb_codec.specs.declared.Dscb.{Dscb}
use Rattle.pack_spec.specs.declared.slot.VtocSlot.{VtocSlot}
use Rattle.pack_spec.specs.Settled.{highest_of, is_f1}
use Rattle.free_rebuild.specs.Clearing.{highest_among}
use Rattle.free_rebuild.proofs.ChainLemmas.{AreHeld}

-- the addresses of the format 1 DSCBs in slots from a number on
abbrev pub sets_from : (ℕ → List ℕ) → ℕ → List Dscb → List (List ℕ)
sets_from at n ds = map (λ p. at p.0) (filter (λ p. is_f1 (Ok p.1)) (enumerate_from n ds))

-- no address
abbrev pub zeros : List ℕ
zeros = replicate 5 0

-- the last one so far, and those to come
abbrev pub IsSoFar : (ℕ → List ℕ) → List Dscb → ℕ → List ℕ → Type 0
IsSoFar at ds k highest = unwrap_or (last_or (Some highest) (sets_from at k (drop k ds))) zeros ≡ highest_among at ds

by_default : {X : Type 0} (z : X) (xs : List X) → unwrap_or (last_or (Some z) xs) z ≡ unwrap_or (last_or None xs) z
by_default z [] = refl
by_default z (x ∷ xs) = refl

drop_none : {X : Type 0} (ys : List X) → drop 0 ys ≡ ys
drop_none [] = refl
drop_none (y ∷ ys) = refl

pub none_so_far : (at : ℕ → List ℕ) (ds : List Dscb) → IsSoFar at ds 0 zeros
none_so_far at ds = ap (λ (l : List Dscb). unwrap_or (last_or (Some zeros) (sets_from at 0 l)) zeros) (drop_none ds) ∙ by_default zeros (sets_from at 0 ds)

drop_first : (k : ℕ) (ds : List Dscb) (d : Dscb) → k < length ds → drop k ds ≡ get_or ds k d ∷ drop (k + 1) ds
drop_first k [] d low = absurd (omega (arith, low))
drop_first zero (x ∷ ds) d low = let e : zero + 1 ≡ suc zero = omega arith in ap (λ (l : List Dscb). x ∷ l) (sym (drop_none ds)) ∙ ap (λ (n : ℕ). x ∷ drop n (x ∷ ds)) (sym e)
drop_first (suc k) (x ∷ ds) d low = let e : suc (k + 1) ≡ suc k + 1 = omega arith in drop_first k ds d (omega (arith, low)) ∙ ap (λ (n : ℕ). get_or ds k d ∷ drop n (x ∷ ds)) e

pub one_so_far : (at : ℕ → List ℕ) (ds : List Dscb) (k : ℕ) (highest next : List ℕ) (d : Dscb) → k < length ds → IsSoFar at ds k highest → next ≡ cond (is_f1 (Ok (get_or ds k d))) (at k) highest → IsSoFar at ds (k + 1) next
one_so_far at ds k highest next d low so_far is =
    let rest : List (List ℕ) = sets_from at (k + 1) (drop (k + 1) ds) in
    ap (λ (h : List ℕ). unwrap_or (last_or (Some h) rest) zeros) is
    ∙ by_set (is_f1 (Ok (get_or ds k d))) rest
    ∙ sym (ap (λ (l : List Dscb). unwrap_or (last_or (Some highest) (sets_from at k l)) zeros) (drop_first k ds d low) ∙ head (get_or ds k d) (drop (k + 1) ds))
    ∙ so_far
  where
    next_of : Bool → List (List ℕ) → List (List ℕ)
    next_of true rest = at k ∷ rest
    next_of false rest = rest

    by_set : (t : Bool) (rest : List (List ℕ)) → unwrap_or (last_or (Some (cond t (at k) highest)) rest) zeros ≡ unwrap_or (last_or (Some highest) (next_of t rest)) zeros
    by_set true rest = refl
    by_set false rest = refl

    head : (x : Dscb) (xs : List Dscb) → unwrap_or (last_or (Some highest) (sets_from at k (x ∷ xs))) zeros ≡ unwrap_or (last_or (Some highest) (next_of (is_f1 (Ok x)) (sets_from at (k + 1) xs))) zeros
    head x xs = by_test (is_f1 (Ok x)) refl
      where
        by_test : (t : Bool) → is_f1 (Ok x) ≡ t → unwrap_or (last_or (Some highest) (sets_from at k (x ∷ xs))) zeros ≡ unwrap_or (last_or (Some highest) (next_of t (sets_from at (k + 1) xs))) zeros
        by_test true test = rw test refl
        by_test false test = rw test refl

pub all_so_far : (at : ℕ → List ℕ) (ds : List Dscb) (k : ℕ) (highest : List ℕ) → length ds ≤ k → IsSoFar at ds k highest → highest ≡ highest_among at ds
all_so_far at ds k highest high so_far = sym (ap (λ (l : List Dscb). unwrap_or (last_or (Some highest) (sets_from at k l)) zeros) (past k ds high)) ∙ so_far
  where
    past : (n : ℕ) (xs : List Dscb) → length xs ≤ n → drop n xs ≡ []
    past zero [] high = refl
    past (suc n) [] high = refl
    past zero (x ∷ xs) high = absurd (omega (arith, high))
    past (suc n) (x ∷ xs) high = past n xs (omega (arith, high))

-- the same of slots that hold these DSCBs at their addresses
pub highest_held : (at : ℕ → List ℕ) (slots : List VtocSlot) (ds : List Dscb) → AreHeld at slots ds → highest_among at ds ≡ highest_of slots
highest_held at slots ds held =
    ap (λ (o : Option (List ℕ)). unwrap_or o zeros)
    (walk None 0 slots ds (λ i. let e : 0 + i ≡ i = omega arith in held i ∙ ap (λ (n : ℕ). option_map (λ (d : Dscb). record { address = at n; content = Ok d }) (slice_get ds i)) (sym e)))
  where
    walk : (o : Option (List ℕ)) (n : ℕ) (ss : List VtocSlot) (ds : List Dscb) → ((i : ℕ) → slice_get ss i ≡ option_map (λ (d : Dscb). record { address = at (n + i); content = Ok d }) (slice_get ds i))
        → last_or o (sets_from at n ds) ≡ last_or o (map (λ (s : VtocSlot). s.address) (filter (λ (s : VtocSlot). is_f1 s.content) ss))
    walk o n [] [] each = refl
    walk o n [] (d ∷ ds) each = let first = each 0 in absurd cc
    walk o n (s ∷ ss) [] each = let first = each 0 in absurd cc
    walk o n (s ∷ ss) (d ∷ ds) each =
        let none : n + 0 ≡ n = omega arith in
        let here : s ≡ record { address = at n; content = Ok d } = let one = each 0 in let is : s ≡ record { address = at (n + 0); content = Ok d } = cc in is ∙ ap (λ (m : ℕ). record { address = at m; content = Ok d }) none in
        let rest : (i : ℕ) → slice_get ss i ≡ option_map (λ (x : Dscb). record { address = at (n + 1 + i); content = Ok x }) (slice_get ds i) = λ i.
        let e : n + suc i ≡ n + 1 + i = omega arith in each (suc i) ∙ ap (λ (m : ℕ). option_map (λ (x : Dscb). record { address = at m; content = Ok x }) (slice_get ds i)) e in
        by_test (is_f1 (Ok d)) refl here (walk (Some (at n)) (n + 1) ss ds rest) (walk o (n + 1) ss ds rest)
      where
        by_test : (t : Bool) → is_f1 (Ok d) ≡ t → s ≡ record { address = at n; content = Ok d }
            → last_or (Some (at n)) (sets_from at (n + 1) ds) ≡ last_or (Some (at n)) (map (λ (x : VtocSlot). x.address) (filter (λ (x : VtocSlot). is_f1 x.content) ss))
            → last_or o (sets_from at (n + 1) ds) ≡ last_or o (map (λ (x : VtocSlot). x.address) (filter (λ (x : VtocSlot). is_f1 x.content) ss))
            → last_or o (sets_from at n (d ∷ ds)) ≡ last_or o (map (λ (x : VtocSlot). x.address) (filter (λ (x : VtocSlot). is_f1 x.content) (s ∷ ss)))
        by_test true test here one two = rw here (rw test one)
        by_test false test here one two = rw here (rw test two)
