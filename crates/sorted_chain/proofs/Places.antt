-- The places of a plan's writes: each is written once, and takes the block that is to stand there.
use Rattle.std.proofs.Common.{get_or, eqb, length, length-append, ◌-◌, ◌≡◌, ℕ, suc, ◌<◌, ◌≤◌, List, [], ◌∷◌, ◌++◌, refl, ap, sym, ◌∙◌, arith, append_assoc, reverse, Option, Some, set, subst}
use Rattle.std.specs.List.{All}
use Rattle.std.specs.Prelude.{slice_get}
use Rattle.std.proofs.Math.Seq.{get_or-append_seam}
use Rattle.std.proofs.lemmas.Option.{slice_get-get_or}
use Rattle.std.proofs.lemmas.List.Elements.{All-cons, All-nil}
use Rattle.std.proofs.lemmas.List.{get_or-reverse, get_or-set_other, length-reverse, reverse-append, reverse-reverse, set-get_or}
use Rattle.chain_spec.proofs.StoreLemmas.{stored_at}
use Rattle.std.proofs.lemmas.Grind.{reverse_onto}
use Rattle.chain_spec.specs.Store.{Block, stored}
use Rattle.sorted_chain.specs.Cutting.{forward_writes}
use Rattle.sorted_chain.specs.Plan.{after_writes, after_write}

-- the writes of these blocks, from the last to the first
abbrev pub backward_writes : {E : Type 0} → List (List E) → List (ℕ × List E)
backward_writes bs = reverse (forward_writes 0 bs)

-- none of these writes is at the place
abbrev pub Avoids : {E : Type 0} → ℕ → List (ℕ × List E) → Type 0
Avoids place [] = Unit {0}
Avoids place (w ∷ ws) = (w.0 ≡ place → ⊥) × Avoids place ws

All-reverse : {X : Type 0} (P : X → Type 0) (xs : List X) → All P xs → All P (reverse xs)
All-reverse P xs all = λ k d h.
    let within : k < length xs = omega (arith, h, length-reverse xs) in
    let from : length xs - 1 - k < length xs = omega (arith, within) in
    subst P (sym (get_or-reverse xs k d within)) (all (length xs - 1 - k) d from)

module _ {E : Type 0} where
  avoids-append : (p : ℕ) (xs ys : List (ℕ × List E)) → Avoids p xs → Avoids p ys → Avoids p (xs ++ ys)
  avoids-append p [] ys h k = k
  avoids-append p (x ∷ xs) ys h k = (h.0, avoids-append p xs ys h.1 k)

  avoids-reverse : (p : ℕ) (xs : List (ℕ × List E)) → Avoids p xs → Avoids p (reverse xs)
  avoids-reverse p [] h = tt
  avoids-reverse p (x ∷ xs) h = subst (Avoids p) (sym (reverse_onto xs x [])) (avoids-append p (reverse xs) (x ∷ []) (avoids-reverse p xs h.1) (h.0, tt))

  avoids_below : (p i : ℕ) (cs : List (List E)) → p < i → Avoids p (forward_writes i cs)
  avoids_below p i [] h = tt
  avoids_below p i (c ∷ cs) h = ((λ e. omega (arith, e, h)), avoids_below p (suc i) cs (omega (arith, h)))

  at_least : (i : ℕ) (cs : List (List E)) (xs : List (ℕ × List E)) (w : ℕ × List E) (ys : List (ℕ × List E)) → forward_writes i cs ≡ xs ++ (w ∷ ys) → i ≤ w.0
  at_least i [] [] w ys same = absurd (cc same)
  at_least i [] (x ∷ xs) w ys same = absurd (cc same)
  at_least i (c ∷ cs) [] w ys same = let first : (i, c) ≡ w = cc in let place : i ≡ w.0 = ap (λ (v : ℕ × List E). v.0) first in omega (arith, place)
  at_least i (c ∷ cs) (x ∷ xs) w ys same = let rest : forward_writes (suc i) cs ≡ xs ++ (w ∷ ys) = cc in omega (arith, at_least (suc i) cs xs w ys rest)

  forward_split : (i : ℕ) (cs : List (List E)) (xs : List (ℕ × List E)) (w : ℕ × List E) (ys : List (ℕ × List E)) → forward_writes i cs ≡ xs ++ (w ∷ ys) → Avoids w.0 xs × Avoids w.0 ys
  forward_split i [] [] w ys same = absurd (cc same)
  forward_split i [] (x ∷ xs) w ys same = absurd (cc same)
  forward_split i (c ∷ cs) [] w ys same =
      let first : (i, c) ≡ w = cc in
      let rest : forward_writes (suc i) cs ≡ ys = cc in
      let place : i ≡ w.0 = ap (λ (v : ℕ × List E). v.0) first in
      (tt, subst (Avoids w.0) rest (avoids_below w.0 (suc i) cs (omega (arith, place))))
  forward_split i (c ∷ cs) (x ∷ xs) w ys same =
      let first : (i, c) ≡ x = cc in
      let rest : forward_writes (suc i) cs ≡ xs ++ (w ∷ ys) = cc in
      let place : i ≡ x.0 = ap (λ (v : ℕ × List E). v.0) first in
      let above = at_least (suc i) cs xs w ys rest in
      let inner = forward_split (suc i) cs xs w ys rest in
      (((λ e. omega (arith, e, place, above)), inner.0), inner.1)

  pub forward_fresh : (i : ℕ) (cs : List (List E)) (xs : List (ℕ × List E)) (w : ℕ × List E) (ys : List (ℕ × List E)) → forward_writes i cs ≡ xs ++ (w ∷ ys) → Avoids w.0 xs
  forward_fresh i cs xs w ys same = (forward_split i cs xs w ys same).0

  pub backward_fresh : (cs : List (List E)) (xs : List (ℕ × List E)) (w : ℕ × List E) (ys : List (ℕ × List E)) → backward_writes cs ≡ xs ++ (w ∷ ys) → Avoids w.0 xs
  backward_fresh cs xs w ys same =
      let turned : forward_writes 0 cs ≡ reverse ys ++ (w ∷ reverse xs) = sym (reverse-reverse (forward_writes 0 cs)) ∙ ap reverse same ∙ reverse-append xs (w ∷ ys) ∙ ap (λ vs. vs ++ reverse xs) (reverse_onto ys w []) ∙ append_assoc (reverse ys) (w ∷ []) (reverse xs) in
      subst (Avoids w.0) (reverse-reverse xs) (avoids-reverse w.0 (reverse xs) (forward_split 0 cs (reverse ys) w (reverse xs) turned).1)

  -- what stands at a place that is not written stays
  pub untouched : (n p : ℕ) (ws : List (ℕ × List E)) (s : List (Option (Block E))) (d : Option (Block E)) → Avoids p ws → get_or (after_writes n ws s) p d ≡ get_or s p d
  untouched n p [] s d h = refl
  untouched n p (w ∷ ws) s d h = untouched n p ws (after_write n w s) d h.1 ∙ get_or-set_other s w.0 p (Some (record { entries = w.1; ends = eqb (suc w.0) n })) d (λ e. h.0 (sym e))

  -- so a write of what stood at its place may be left out
  pub left_out : (n : ℕ) (before : List (ℕ × List E)) (w : ℕ × List E) (s : List (Option (Block E))) → Avoids w.0 before → get_or s w.0 (Some (record { entries = w.1; ends = eqb (suc w.0) n })) ≡ Some (record { entries = w.1; ends = eqb (suc w.0) n }) → after_write n w (after_writes n before s) ≡ after_writes n before s
  left_out n before w s avoids same =
      let b : Option (Block E) = Some (record { entries = w.1; ends = eqb (suc w.0) n }) in
      ap (set (after_writes n before s) w.0) (sym (untouched n w.0 before s b avoids ∙ same)) ∙ set-get_or (after_writes n before s) w.0 b

  -- a block of the old chain
  pub left_old : (n : ℕ) (before : List (ℕ × List E)) (w : ℕ × List E) (old : List (List E)) (behind : List (Option (Block E))) → Avoids w.0 before → slice_get old w.0 ≡ Some w.1 → eqb (suc w.0) (length old) ≡ eqb (suc w.0) n → after_write n w (after_writes n before (stored old ++ behind)) ≡ after_writes n before (stored old ++ behind)
  left_old n before w old behind avoids is last = left_out n before w (stored old ++ behind) avoids (stored_at old w.0 w.1 behind (Some (record { entries = w.1; ends = eqb (suc w.0) n })) is ∙ ap (λ b. Some (record { entries = w.1; ends = b })) last)

  -- each write from the first to the last takes its block
  puts_from : (front cs : List (List E)) (i : ℕ) → i ≡ length front → All (λ (w : ℕ × List E). slice_get (front ++ cs) w.0 ≡ Some w.1) (forward_writes i cs)
  puts_from front [] i at = All-nil (λ (w : ℕ × List E). slice_get (front ++ []) w.0 ≡ Some w.1)
  puts_from front (c ∷ cs) i at =
      let P = λ (w : ℕ × List E). slice_get (front ++ (c ∷ cs)) w.0 ≡ Some w.1 in
      let within : i < length (front ++ (c ∷ cs)) = omega (arith, at, length-append front (c ∷ cs)) in
      let own : slice_get (front ++ (c ∷ cs)) i ≡ Some c = slice_get-get_or (front ++ (c ∷ cs)) i c within ∙ ap (λ k. Some (get_or (front ++ (c ∷ cs)) k c)) at ∙ ap Some (get_or-append_seam front c cs c) in
      All-cons P (i, c) (forward_writes (suc i) cs) own (subst (λ bs. All (λ (w : ℕ × List E). slice_get bs w.0 ≡ Some w.1) (forward_writes (suc i) cs)) (append_assoc front (c ∷ []) cs) (puts_from (front ++ (c ∷ [])) cs (suc i) (omega (arith, at, length-append front (c ∷ [])))))

  pub forward_puts : (cs : List (List E)) → All (λ (w : ℕ × List E). slice_get cs w.0 ≡ Some w.1) (forward_writes 0 cs)
  forward_puts cs = puts_from [] cs 0 refl

  pub backward_puts : (cs : List (List E)) → All (λ (w : ℕ × List E). slice_get cs w.0 ≡ Some w.1) (backward_writes cs)
  backward_puts cs = All-reverse (λ (w : ℕ × List E). slice_get cs w.0 ≡ Some w.1) (forward_writes 0 cs) (forward_puts cs)
