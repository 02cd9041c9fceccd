-- What the next byte of a deck does.
use Rattle.std.proofs.Common.{◌≡◌, ◌∙◌, ap, sym, refl, subst, inl, inr, ◌⊎◌, ℕ, ◌+◌, ◌<◌, ◌≤◌, ◌==◌, Bool, true, false, if◌then◌else◌, List, [], ◌∷◌, ◌++◌, length, Ok, Err, Some, None, append_assoc, append-nil, arith}
use Rattle.std.specs.List.{list_all, prefix_len}
use Rattle.std.specs.Str.Lines.{lines}
use Rattle.std.proofs.lemmas.Bool.Decides.{nat_tests}
use Rattle.std.proofs.lemmas.List.{length-append, nil_from_length}
use Rattle.card_text.specs.declared.cards.Card.{Card}
use Rattle.deck_cards.specs.declared.reader.DeckErr.{DeckErr}
use Rattle.deck_cards.specs.declared.reader.DeckErr.TheVariants.{Long, Wide, Byte}
use Rattle.deck_cards.specs.declared.reader.Reader.{Reader}
use Rattle.deck_cards.specs.Deck.{is_printable, card_of, fault, line_fault, cards_with, cards_behind, deck_of, IsFit, Refuses}
use Rattle.deck_cards.proofs.LineParts.{printable_front, starts_with_feed, first_line, lines_fed, lines_returned, some_line, last_line}

-- at most 80 printable columns have no fault
no_fault : (card : ℕ) (line : List ℕ) → list_all is_printable line ≡ true → length line ≤ 80 → line_fault card line ≡ None
unfolding line_fault
no_fault card line h narrow =
    let printable = printable_front line [] h in
    let same : prefix_len is_printable line ≡ length line = rw (sym (append-nil line)) (rw (append-nil line) (omega (arith, subst (λ l. prefix_len is_printable l ≡ length line + 0) (append-nil line) printable))) in
    grind (arith, nat_tests, same, narrow)

-- the fault of a byte after printable columns
byte_fault : (card : ℕ) (line : List ℕ) (b : ℕ) (more : List ℕ) → list_all is_printable line ≡ true → length line ≤ 80
    → (is_printable b ≡ false) ⊎ (length line ≡ 80) → line_fault card (line ++ b ∷ more) ≡ Some (fault card (length line))
unfolding line_fault
byte_fault card line b more h narrow (inl bad) =
    let printable = printable_front line (b ∷ more) h in
    let size = length-append line (b ∷ more) in
    grind (arith, nat_tests, bad, printable, size, narrow)
byte_fault card line b more h narrow (inr wide) =
    let printable = printable_front line (b ∷ more) h in
    let size = length-append line (b ∷ more) in
    grind (arith, nat_tests, wide, printable, size)

card_more : (cards : List Card) (line : List ℕ) (others : List (List ℕ)) → length cards < 100000 → list_all is_printable line ≡ true
    → length line ≤ 80 → cards_with cards (line ∷ others) ≡ cards_with (cards ++ card_of line ∷ []) others
card_more cards line others few h narrow =
    let room : (length cards == 100000) ≡ false = grind (arith, nat_tests, few) in
    let good = no_fault (length cards + 1) line h narrow in
    rw room (rw good refl)

refused : (cards : List Card) (line : List ℕ) (b : ℕ) (more : List ℕ) (others : List (List ℕ)) → length cards < 100000
    → list_all is_printable line ≡ true → length line ≤ 80 → (is_printable b ≡ false) ⊎ (length line ≡ 80)
    → cards_with cards ((line ++ b ∷ more) ∷ others) ≡ Err (fault (length cards + 1) (length line))
refused cards line b more others few h narrow why =
    let room : (length cards == 100000) ≡ false = grind (arith, nat_tests, few) in
    let bad = byte_fault (length cards + 1) line b more h narrow why in
    rw room (rw bad refl)

refused_behind : (cards : List Card) (line : List ℕ) (b : ℕ) (rest : List ℕ) → length cards < 100000
    → list_all is_printable line ≡ true → length line ≤ 80 → (is_printable b ≡ false) ⊎ (length line ≡ 80) → (b == 10) ≡ false
    → ((b == 13) ≡ false) ⊎ (starts_with_feed rest ≡ false)
    → cards_behind cards line false (b ∷ rest) ≡ Err (fault (length cards + 1) (length line))
refused_behind cards line b rest few h narrow why no_feed kept =
    let found = first_line line b rest h no_feed kept in
    ap (cards_with cards) found.2 ∙ refused cards line b found.0 found.1 few h narrow why

fed_behind : (cards : List Card) (line : List ℕ) (returned : Bool) (rest : List ℕ) → length cards < 100000
    → list_all is_printable line ≡ true → length line ≤ 80
    → cards_behind cards line returned (10 ∷ rest) ≡ cards_with (cards ++ card_of line ∷ []) (lines rest)
fed_behind cards line true rest few h narrow = ap (cards_with cards) (lines_returned line rest h) ∙ card_more cards line (lines rest) few h narrow
fed_behind cards line false rest few h narrow = ap (cards_with cards) (lines_fed line rest h) ∙ card_more cards line (lines rest) few h narrow

-- a byte after the last card is one too many
pub full_behind : (cards : List Card) (line : List ℕ) (b : ℕ) (rest : List ℕ) → length cards ≡ 100000 → length line ≡ 0
    → cards_behind cards line false (b ∷ rest) ≡ Err Long
full_behind cards [] b rest full e =
    let found = some_line b rest in
    let many : (length cards == 100000) ≡ true = grind (arith, nat_tests, full) in
    ap (cards_with cards) found.2 ∙ rw many refl
full_behind cards (c ∷ cs) b rest full e = absurd (omega (arith, e))

pub long_deck : (reader : Reader) (b : ℕ) → IsFit reader → length reader.cards.items ≡ 100000 → (rest : List ℕ) → deck_of reader (b ∷ rest) ≡ Err Long
unfolding deck_of
long_deck reader b fit full rest =
    rw (fit.returned full) (full_behind reader.cards.items reader.line.items b rest full (fit.last full))

pub fed : (old new : Reader) (b : ℕ) → IsFit old → length old.cards.items < 100000 → b ≡ 10
    → new.cards.items ≡ old.cards.items ++ card_of old.line.items ∷ [] → new.line.items ≡ [] → new.returned ≡ false
    → (rest : List ℕ) → deck_of old (b ∷ rest) ≡ deck_of new rest
unfolding deck_of
fed old new b fit few feed cards line returned rest =
    rw feed (rw cards (rw line (rw returned (fed_behind old.cards.items old.line.items old.returned rest few fit.printable fit.line))))

pub returned_once : (old new : Reader) (b : ℕ) → old.returned ≡ false → b ≡ 13 → new.cards.items ≡ old.cards.items → new.line.items ≡ old.line.items
    → new.returned ≡ true → (rest : List ℕ) → deck_of old (b ∷ rest) ≡ deck_of new rest
unfolding deck_of
returned_once old new b going return cards line returned rest = rw going (rw return (rw cards (rw line (rw returned refl))))

pub column_added : (old new : Reader) (b : ℕ) → old.returned ≡ false → new.cards.items ≡ old.cards.items
    → new.line.items ≡ old.line.items ++ b ∷ [] → new.returned ≡ false → (rest : List ℕ) → deck_of old (b ∷ rest) ≡ deck_of new rest
unfolding deck_of
column_added old new b going cards line returned rest =
    rw going (rw cards (rw line (rw returned (ap (λ l. cards_with old.cards.items (lines l)) (sym (append_assoc old.line.items (b ∷ []) rest))))))

refuses : (card columns : ℕ) (P Q : Type 0) → P → Refuses (fault card columns) P Q
refuses card columns P Q h =
    elim (columns == 80) as (λ t. Refuses (if t then Wide card else Byte card (columns + 1)) P Q) [ true ↦ h | false ↦ h ]

refuses_as : (e : DeckErr) (reader : Reader) (b : ℕ) → e ≡ fault (length reader.cards.items + 1) (length reader.line.items)
    → ((rest : List ℕ) → deck_of reader (b ∷ rest) ≡ Err (fault (length reader.cards.items + 1) (length reader.line.items)))
    → Refuses e ((rest : List ℕ) → deck_of reader (b ∷ rest) ≡ Err e) ⊥
refuses_as e reader b same h =
    subst (λ f. Refuses f ((rest : List ℕ) → deck_of reader (b ∷ rest) ≡ Err f) ⊥) (sym same)
    (refuses (length reader.cards.items + 1) (length reader.line.items)
    ((rest : List ℕ) → deck_of reader (b ∷ rest) ≡ Err (fault (length reader.cards.items + 1) (length reader.line.items))) ⊥ h)

-- a carriage return that another byte follows
return_refuses : (reader : Reader) (b : ℕ) → IsFit reader → length reader.cards.items < 100000 → reader.returned ≡ true → (b == 10) ≡ false
    → (rest : List ℕ) → deck_of reader (b ∷ rest) ≡ Err (fault (length reader.cards.items + 1) (length reader.line.items))
unfolding deck_of
return_refuses reader b fit few returned other rest =
    rw returned (refused_behind reader.cards.items reader.line.items 13 (b ∷ rest) few fit.printable fit.line (inl refl) refl (inr other))

pub return_refused : (e : DeckErr) (reader : Reader) (b : ℕ) → e ≡ fault (length reader.cards.items + 1) (length reader.line.items)
    → IsFit reader → length reader.cards.items < 100000 → reader.returned ≡ true → (b == 10) ≡ false
    → Refuses e ((rest : List ℕ) → deck_of reader (b ∷ rest) ≡ Err e) ⊥
return_refused e reader b same fit few returned other = refuses_as e reader b same (return_refuses reader b fit few returned other)

byte_refuses : (reader : Reader) (b : ℕ) → IsFit reader → length reader.cards.items < 100000 → reader.returned ≡ false
    → (b == 10) ≡ false → (b == 13) ≡ false → (is_printable b ≡ false) ⊎ (length reader.line.items ≡ 80)
    → (rest : List ℕ) → deck_of reader (b ∷ rest) ≡ Err (fault (length reader.cards.items + 1) (length reader.line.items))
unfolding deck_of
byte_refuses reader b fit few going no_feed no_return why rest =
    rw going (refused_behind reader.cards.items reader.line.items b rest few fit.printable fit.line why no_feed (inl no_return))

pub byte_refused : (e : DeckErr) (reader : Reader) (b : ℕ) → e ≡ fault (length reader.cards.items + 1) (length reader.line.items)
    → IsFit reader → length reader.cards.items < 100000 → reader.returned ≡ false
    → (b == 10) ≡ false → (b == 13) ≡ false → (is_printable b ≡ false) ⊎ (length reader.line.items ≡ 80)
    → Refuses e ((rest : List ℕ) → deck_of reader (b ∷ rest) ≡ Err e) ⊥
byte_refused e reader b same fit few going no_feed no_return why =
    refuses_as e reader b same (byte_refuses reader b fit few going no_feed no_return why)

-- the end of input after a carriage return
pub end_refused : (e : DeckErr) (reader : Reader) → e ≡ fault (length reader.cards.items + 1) (length reader.line.items)
    → IsFit reader → length reader.cards.items < 100000 → reader.returned ≡ true → Refuses e (deck_of reader [] ≡ Err e) ⊥
unfolding deck_of
end_refused e reader same fit few returned =
    let found : deck_of reader [] ≡ Err (fault (length reader.cards.items + 1) (length reader.line.items)) =
    rw returned (refused_behind reader.cards.items reader.line.items 13 [] few fit.printable fit.line (inl refl) refl (inr refl)) in
    subst (λ f. Refuses f (deck_of reader [] ≡ Err f) ⊥) (sym same)
    (refuses (length reader.cards.items + 1) (length reader.line.items)
    (deck_of reader [] ≡ Err (fault (length reader.cards.items + 1) (length reader.line.items))) ⊥ found)

last_behind : (cards : List Card) (line : List ℕ) → length cards < 100000 → 0 < length line → list_all is_printable line ≡ true → length line ≤ 80
    → cards_behind cards line false [] ≡ Ok (cards ++ card_of line ∷ [])
last_behind cards [] few some h narrow = absurd (omega (arith, some))
last_behind cards (b ∷ bs) few some h narrow =
    ap (λ l. cards_with cards (lines l)) (append-nil (b ∷ bs)) ∙ ap (cards_with cards) (last_line b bs h)
    ∙ card_more cards (b ∷ bs) [] few h narrow

-- the end of input after columns
pub line_ends : (reader : Reader) (cards : List Card) → IsFit reader → length reader.cards.items < 100000 → reader.returned ≡ false
    → 0 < length reader.line.items → cards ≡ reader.cards.items ++ card_of reader.line.items ∷ [] → deck_of reader [] ≡ Ok cards
unfolding deck_of
line_ends reader cards fit few going some same =
    rw going (rw same (last_behind reader.cards.items reader.line.items few some fit.printable fit.line))

-- the end of input after whole cards
pub cards_end : (reader : Reader) → reader.returned ≡ false → length reader.line.items ≡ 0 → deck_of reader [] ≡ Ok reader.cards.items
unfolding deck_of
cards_end reader going none = rw going (rw (nil_from_length reader.line.items none) refl)

pub ruleset bytes = (long_deck, fed, returned_once, column_added, return_refused, byte_refused)

pub ruleset ends = (end_refused, line_ends, cards_end)
