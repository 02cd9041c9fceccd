-- Parts of bytes, copied one after another: part i of xs has the bytes f (xs at i).
use Rattle.std.proofs.Common.{◌≡◌, ℕ, ◌+◌, ◌≤◌, ◌<◌, List, [], ◌∷◌, ◌++◌, map, length, take, drop, get_or, refl, arith, ap, sym, ◌∙◌, append_assoc, drop-cons}
use Rattle.std.specs.List.{concat}
use Rattle.std.proofs.Math.Numerals.{suc-eq-add-one}
use Rattle.std.proofs.lemmas.List.{append-nil, drop_all, length-append, length-take-le}

-- part i is the first of those that are left
pub split_at : {X : Type 0} (f : X → List ℕ) (xs : List X) (i : ℕ) (d : X) (before : List ℕ) → i < length xs → before ++ concat (map f (drop i xs)) ≡ concat (map f xs) → before ++ (f (get_or xs i d) ++ concat (map f (drop (i + 1) xs))) ≡ concat (map f xs)
split_at {X = X} f xs i d before below is =
    let parts : drop i xs ≡ get_or xs i d ∷ drop (i + 1) xs = drop-cons xs i d below ∙ ap (λ (j : ℕ). get_or xs i d ∷ drop j xs) (suc-eq-add-one i) in
    ap (λ (ys : List X). before ++ concat (map f ys)) (sym parts) ∙ is

-- a part that stands after what is written fits where the whole does
pub room : (out part rest whole : List ℕ) (at : ℕ) → at ≤ length out → take at out ++ (part ++ rest) ≡ whole → at + length part ≤ length whole
room out part rest whole at within is =
    omega (arith, ap length is, length-append (take at out) (part ++ rest), length-append part rest, length-take-le at out within)

-- a part that is written stands before those that are left
pub placed : (before part rest whole after : List ℕ) → after ≡ before ++ part → before ++ (part ++ rest) ≡ whole → after ++ rest ≡ whole
placed before part rest whole after written is = ap (λ (l : List ℕ). l ++ rest) written ∙ append_assoc before part rest ∙ is

-- where no part is left, the whole is written
pub written : {X : Type 0} (f : X → List ℕ) (xs : List X) (i : ℕ) (out : List ℕ) (at : ℕ) → length xs ≤ i → take at out ++ concat (map f (drop i xs)) ≡ concat (map f xs) → take at out ≡ concat (map f xs)
written {X = X} f xs i out at past is =
    sym (append-nil (take at out)) ∙ ap (λ (ys : List X). take at out ++ concat (map f ys)) (sym (drop_all i xs past)) ∙ is

-- the rows themselves as parts
pub concat-map : (rows : List (List ℕ)) → concat (map (λ row. row) rows) ≡ concat rows
concat-map [] = refl
concat-map (row ∷ rows) = ap (λ (l : List ℕ). row ++ l) (concat-map rows)
