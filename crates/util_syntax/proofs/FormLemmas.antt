-- Counts and searches of what a list is seen as, and the pair of a list.
use Rattle.std.proofs.Common.{◌≡◌, ℕ, ◌+◌, Bool, true, false, cond, List, [], ◌∷◌, length, map, refl, sym, ◌∙◌, ap}
use Rattle.std.proofs.lemmas.List.Sums.{sum_by-cons}
use Rattle.std.specs.Prelude.{◌==◌, Option, Some, None, option_map}
use Rattle.std.specs.Borrow.{Bor}
use Rattle.std.specs.List.{count_by, find}
use Rattle.std.specs.Option.{option_copied}
use Rattle.card_text.specs.declared.values.Value.{Value}
use Rattle.card_text.specs.Tree.{trees, value_view}
use Rattle.util_syntax.specs.Forms.{pair_of}

module _ {X Y : Type 0} (p : Y → Bool) (view : X → Y) where
  pub count_by_map : (xs : List X) → count_by p (map view xs) ≡ count_by (λ x. p (view x)) xs
  count_by_map [] = refl
  count_by_map (x ∷ xs) =
      sum_by-cons (λ (y : Y). cond (p y) 1 0) (view x) (map view xs) ∙ ap (λ (n : ℕ). cond (p (view x)) 1 0 + n) (count_by_map xs) ∙ sym (sum_by-cons (λ (y : X). cond (p (view y)) 1 0) x xs)

  find_first : (x : X) (xs : List X) (t : Bool) → find p (map view xs) ≡ option_map view (find (λ y. p (view y)) xs) → cond t (Some (view x)) (find p (map view xs)) ≡ option_map view (cond t (Some x) (find (λ y. p (view y)) xs))
  find_first x xs true others = refl
  find_first x xs false others = others

  find_map : (xs : List X) → find p (map view xs) ≡ option_map view (find (λ x. p (view x)) xs)
  find_map [] = refl
  find_map (x ∷ xs) = find_first x xs (p (view x)) (find_map xs)

  seen : (r : Option (Bor X)) → option_map (λ (x : Bor X). view x.now) r ≡ option_map view (option_copied r)
  seen None = refl
  seen (Some x) = refl

  -- what a search finds, over the views
  pub found_seen : (xs : List X) (r : Option (Bor X)) → option_copied r ≡ find (λ x. p (view x)) xs → option_map (λ (x : Bor X). view x.now) r ≡ find p (map view xs)
  found_seen xs r is = seen r ∙ ap (option_map view) is ∙ sym (find_map xs)

-- a list of three values or more is no pair
pub no_pair : (all others rest : List Value) (a b : Value) → all ≡ a ∷ others → others ≡ b ∷ rest → (length rest == 0) ≡ false → None ≡ pair_of (trees (map value_view all))
no_pair all others rest a b one two some = by_rest rest some (one ∙ ap (λ (l : List Value). a ∷ l) two)
  where
    by_rest : (rest : List Value) → (length rest == 0) ≡ false → all ≡ a ∷ b ∷ rest → None ≡ pair_of (trees (map value_view all))
    by_rest [] some is = let never : ⊥ = cc in absurd never
    by_rest (c ∷ more) some is = sym (ap (λ (l : List Value). pair_of (trees (map value_view l))) is)
