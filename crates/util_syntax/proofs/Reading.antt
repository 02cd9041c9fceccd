-- Reading goes on after a statement, however many cards it may take.
use Rattle.std.proofs.Common.{◌≡◌, ◌∙◌, sym, subst, ℕ, zero, suc, ◌+◌, ◌≤◌, true, false, cond, List, [], ◌∷◌, length, refl, ap, arith, length-drop}
use Rattle.std.specs.List.{position_or_len}
use Rattle.card_text.specs.declared.cards.Card.{Card}
use Rattle.card_text.specs.Cards.{has_number}
use Rattle.util_syntax.specs.Items.{read, is_comment, cards_after, items_within}

-- fewer cards stand after one of them
fewer : (number : ℕ) (card : ℕ × Card) (others : List (ℕ × Card)) → length (cards_after number (card ∷ others)) ≤ length others
fewer number card others = omega (arith, length-drop (position_or_len (has_number number) (card ∷ others) + 1) (card ∷ others))

enough : (n m : ℕ) (cards : List (ℕ × Card)) → length cards ≤ n → length cards ≤ m → items_within n cards ≡ items_within m cards
unfolding items_within
enough n m [] p q = refl
enough zero m (card ∷ others) p q = absurd (omega arith)
enough (suc n) zero (card ∷ others) p q = absurd (omega arith)
enough (suc n) (suc m) (card ∷ others) p q =
    let r = read card others in
    let behind = cards_after r.last (card ∷ others) in
    let less = fewer r.last card others in
    elim (is_comment card) as (λ b. cond b (items_within n others) (r.item ∷ items_within n behind) ≡ cond b (items_within m others) (r.item ∷ items_within m behind)) [
      | true ↦ enough n m others (omega arith) (omega arith)
      | false ↦ ap (λ items. r.item ∷ items) (enough n m behind (omega arith) (omega arith))
    ]

read_on : (number : ℕ) (card : ℕ × Card) (others : List (ℕ × Card))
    → items_within (length others) (cards_after number (card ∷ others)) ≡ items_within (length (cards_after number (card ∷ others))) (cards_after number (card ∷ others))
read_on number card others =
    let behind = cards_after number (card ∷ others) in
    let less = fewer number card others in
    enough (length others) (length behind) behind less (omega arith)

first_item : (card : ℕ × Card) (others : List (ℕ × Card)) → is_comment card ≡ false
    → items_within (length (card ∷ others)) (card ∷ others)
    ≡ (read card others).item ∷ items_within (length (cards_after (read card others).last (card ∷ others))) (cards_after (read card others).last (card ∷ others))
unfolding items_within
first_item card others b =
    let r = read card others in
    ap (λ t. cond t (items_within (length others) others) (r.item ∷ items_within (length others) (cards_after r.last (card ∷ others)))) b
    ∙ ap (λ items. r.item ∷ items) (read_on r.last card others)

first_comment : (card : ℕ × Card) (others : List (ℕ × Card)) → is_comment card ≡ true
    → items_within (length (card ∷ others)) (card ∷ others) ≡ items_within (length others) others
unfolding items_within
first_comment card others b =
    let r = read card others in
    ap (λ t. cond t (items_within (length others) others) (r.item ∷ items_within (length others) (cards_after r.last (card ∷ others)))) b

-- the items of cards by the first of them
pub next_item : (rest : List (ℕ × Card)) (card : ℕ × Card) (others : List (ℕ × Card)) → rest ≡ card ∷ others → is_comment card ≡ false
    → items_within (length rest) rest
    ≡ (read card others).item ∷ items_within (length (cards_after (read card others).last rest)) (cards_after (read card others).last rest)
next_item rest card others e b =
    let r = read card others in
    subst (λ (cards : List (ℕ × Card)). items_within (length cards) cards ≡ r.item ∷ items_within (length (cards_after r.last cards)) (cards_after r.last cards))
    (sym e) (first_item card others b)

pub next_comment : (rest : List (ℕ × Card)) (card : ℕ × Card) (others : List (ℕ × Card)) → rest ≡ card ∷ others → is_comment card ≡ true
    → items_within (length rest) rest ≡ items_within (length others) others
next_comment rest card others e b =
    subst (λ (cards : List (ℕ × Card)). items_within (length cards) cards ≡ items_within (length others) others) (sym e) (first_comment card others b)

pub none_left : (rest : List (ℕ × Card)) → length rest ≡ 0 → items_within (length rest) rest ≡ []
unfolding items_within
none_left [] e = refl
none_left (card ∷ others) e = absurd (omega arith)

pub ruleset reading = (next_item, next_comment, none_left)
