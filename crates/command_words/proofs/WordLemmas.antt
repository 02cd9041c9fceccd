-- Words, no two of which are equal.
use Rattle.std.proofs.Common.{◌≡◌, ◌&&◌, ◌||◌, not, true, ℕ, Bool, List, [], ◌∷◌, map, refl, ap, ap₂, sym, ◌∙◌}
use Rattle.std.specs.Borrow.{Bor}
use Rattle.std.specs.List.{list_any}
use Rattle.std.specs.Str.{bytes_eq}
use Rattle.command_words.specs.Values.{are_distinct}

-- a word among others
among_texts : (w : List ℕ) (ws : List (Bor (List ℕ))) → list_any (λ (x : Bor (List ℕ)). bytes_eq w x.now) ws ≡ list_any (bytes_eq w) (map (λ x. x.now) ws)
among_texts w [] = refl
among_texts w (x ∷ xs) = ap (λ b. bytes_eq w x.now || b) (among_texts w xs)

-- a word in front of others
pub distinct_first : (all : List (Bor (List ℕ))) (w : Bor (List ℕ)) (ws : List (Bor (List ℕ))) (b r : Bool) → all ≡ w ∷ ws
    → b ≡ list_any (λ (x : Bor (List ℕ)). bytes_eq w.now x.now) ws → r ≡ are_distinct (map (λ x. x.now) ws) → (not b && r) ≡ are_distinct (map (λ x. x.now) all)
unfolding are_distinct
distinct_first all w ws b r is among rest =
    ap₂ (λ p q. not p && q) (among ∙ among_texts w.now ws) rest ∙ ap (λ (xs : List (Bor (List ℕ))). are_distinct (map (λ x. x.now) xs)) (sym is)

-- a word that stands among the others
pub repeated_first : (all : List (Bor (List ℕ))) (w : Bor (List ℕ)) (ws : List (Bor (List ℕ))) (b : Bool) → all ≡ w ∷ ws
    → b ≡ list_any (λ (x : Bor (List ℕ)). bytes_eq w.now x.now) ws → b ≡ true → not b ≡ are_distinct (map (λ x. x.now) all)
repeated_first all w ws b is among holds =
    let r = are_distinct (map (λ (x : Bor (List ℕ)). x.now) ws) in
    ap not holds ∙ sym (ap (λ c. not c && r) holds) ∙ distinct_first all w ws b r is among refl
