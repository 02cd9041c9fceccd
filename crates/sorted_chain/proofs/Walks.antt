-- The steps of walks over entries and blocks.
use Rattle.std.proofs.Common.{◌≡◌, ℕ, ◌+◌, ◌<◌, ◌≤◌, List, [], ◌∷◌, ◌++◌, refl, ap, sym, ◌∙◌, arith, length, take, get_or, map, Vec, vec_items, reverse, Some, None, ◌-◌}
use Rattle.std.proofs.lemmas.List.{length-map, map-append, map_push, take_all, take_more}
use Rattle.std.proofs.lemmas.Option.{get_or_from_slice_get, slice_get-get_or, slice_get_within}
use Rattle.std.proofs.lemmas.Grind.{reverse_onto}
use Rattle.std.specs.Prelude.{slice_get}
use Rattle.chain_spec.proofs.CutLemmas.{total-append}
use Rattle.chain_spec.specs.Cut.{total}
use Rattle.chain_spec.specs.Kept.{joined}
use Rattle.sorted_chain.proofs.CutSteps.{joined-push}
use Rattle.sorted_chain.specs.Plan.{write_of}

pub take_read : {X : Type 0} (xs : List X) (i : ℕ) (x : X) → i < length xs → x ≡ get_or xs i x → take (i + 1) xs ≡ take i xs ++ (x ∷ [])
take_read xs i x h is = take_more xs i x h ∙ ap (λ y. take i xs ++ (y ∷ [])) (sym is)

pub total_more : {E : Type 0} (size : E → ℕ) (xs : List E) (i : ℕ) (x : E) → i < length xs → x ≡ get_or xs i x → total size (take (i + 1) xs) ≡ total size (take i xs) + size x
total_more size xs i x h is = ap (total size) (take_read xs i x h is) ∙ total-append size (take i xs) (x ∷ []) ∙ omega arith

pub joined_more : {E A : Type 0} (bs : List (Vec E A)) (i : ℕ) (b : Vec E A) → i < length bs → b ≡ get_or bs i b → joined (map vec_items (take (i + 1) bs)) ≡ joined (map vec_items (take i bs)) ++ vec_items b
joined_more bs i b h is = ap (λ cs. joined (map vec_items cs)) (take_read bs i b h is) ∙ ap joined (map-append vec_items (take i bs) (b ∷ [])) ∙ joined-push (map vec_items (take i bs)) (vec_items b)

pub writes-push : {E A : Type 0} (ws : List (ℕ × Vec E A)) (n : ℕ) (b : Vec E A) → map write_of (ws ++ ((n, b) ∷ [])) ≡ map write_of ws ++ ((n, vec_items b) ∷ [])
writes-push ws n b = map_push write_of ws (n, b)

pub length-writes : {E A : Type 0} (ws : List (ℕ × Vec E A)) → length (map write_of ws) ≡ length ws
length-writes ws = length-map ws write_of

pub writes-reverse : {E A : Type 0} (ws : List (ℕ × Vec E A)) → map write_of (reverse ws) ≡ reverse (map write_of ws)
writes-reverse [] = refl
writes-reverse (w ∷ ws) = ap (map write_of) (reverse_onto ws w []) ∙ map_push write_of (reverse ws) w ∙ ap (λ vs. vs ++ (write_of w ∷ [])) (writes-reverse ws) ∙ sym (reverse_onto (map write_of ws) (write_of w) [])

-- what the last element tells of a list
pub by_last : {X : Type 0} (xs : List X) (l : X) → slice_get xs (length xs - 1) ≡ Some l → (front : List X) × (xs ≡ front ++ (l ∷ []))
by_last xs l is =
    let i = length xs - 1 in
    let h : i < length xs = slice_get_within xs i l is in
    let all : length xs ≤ i + 1 = omega arith in
    (take i xs, sym (take_all (i + 1) xs all) ∙ take_read xs i l h (sym (get_or_from_slice_get xs i l l is)))

pub by_none : {X : Type 0} (xs : List X) → slice_get xs (length xs - 1) ≡ None → xs ≡ []
by_none [] is = refl
by_none (x ∷ xs) is =
    let h : length (x ∷ xs) - 1 < length (x ∷ xs) = omega arith in
    let some = slice_get-get_or (x ∷ xs) (length (x ∷ xs) - 1) x h in
    absurd (cc (some, is))
