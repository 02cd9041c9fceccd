-- The values of operands.
use Rattle.std.specs.Prelude.{ℕ, zero, suc, ◌+◌, ◌-◌, ◌==◌, Bool, false, not, ◌&&◌, ◌||◌, if◌then◌else◌, nat_lt, List, [], ◌∷◌, ◌++◌, length, map, filter, take, drop, slice_get, Option, Some, None, option_map, option_and_then}
use Rattle.std.specs.List.{list_all, slice_split}
use Rattle.std.specs.Option.{option_map_or}
use Rattle.card_text.specs.declared.nesting.Mark.{Mark}
use Rattle.card_text.specs.Nesting.{is_separator}
use Rattle.card_text.specs.Tree.{Tree, empty, word, quoted, list, trees}

-- any character but , ( ) ' = and a blank
abbrev pub in_word : Mark → Bool
in_word mark =
    let b = mark.character.byte in
    not ((b == 44) || ((b == 40) || ((b == 41) || ((b == 39) || ((b == 61) || (b == 32))))))

abbrev pub has_word_characters : List Mark → Bool
has_word_characters text = list_all in_word text

abbrev pub is_word : List Mark → Bool
is_word text = not (length text == 0) && has_word_characters text

-- a quote that ends what is in quotes
abbrev pub is_closing_quote : Mark → Bool
is_closing_quote mark = (mark.character.byte == 39) && mark.character.quoted

abbrev pub is_in_quotes : Mark → Bool
is_in_quotes mark = (mark.character.byte == 39) || mark.character.quoted

abbrev pub has_quotes_around : List Mark → Bool
has_quotes_around text = list_all is_in_quotes text

-- a text whose first character isn't in quotes, and so is a quote, and that has none outside quotes
abbrev pub is_quoted : List Mark → Bool
is_quoted text = not (length text == 0) && has_quotes_around text

abbrev pub text_of : List Mark → List ℕ
text_of text = map (λ mark. mark.character.byte) text

-- without each quote that ends what is in quotes
abbrev pub kept : List Mark → List ℕ
kept text = map (λ mark. mark.character.byte) (filter (λ mark. not (is_closing_quote mark)) text)

-- the text in quotes: of two quotes within it one stays
abbrev pub unquoted : List Mark → List ℕ
unquoted text = kept (drop 1 text)

-- a parenthesis that opens in that many others
abbrev pub opens : ℕ → Mark → Bool
opens depth mark = (mark.character.byte == 40) && (not mark.character.quoted && (mark.depth == depth))

abbrev pub closes : Mark → Bool
closes mark = (mark.character.byte == 41) && not mark.character.quoted

abbrev pub all_deeper : ℕ → List Mark → Bool
all_deeper depth text = list_all (λ mark. nat_lt depth mark.depth) text

-- what is in parentheses that stand around the whole text
abbrev pub inner : ℕ → List Mark → Option (List Mark)
inner depth text =
    if nat_lt 1 (length text)
    && (option_map_or (opens depth) (slice_get text 0) false
    && (option_map_or closes (slice_get text (length text - 1)) false
    && all_deeper depth (drop 1 text)))
    then Some (take (length text - 2) (drop 1 text)) else None

-- an item of a list, which may be empty
abbrev pub item : (List Mark → Option Tree) → List Mark → Option Tree
item value [] = Some empty
item value (mark ∷ marks) = value (mark ∷ marks)

-- the items of a list, after those that are done
abbrev pub items : (List Mark → Option Tree) → List Tree → List (List Mark) → Option (List Tree)
items value done [] = Some done
items value done (piece ∷ pieces) = option_and_then (λ tree. items value (done ++ tree ∷ []) pieces) (item value piece)

-- a word, a text in quotes, or a list
abbrev pub value_with : (List Mark → Option (List Tree)) → List Mark → Option Tree
value_with lists text =
    if is_word text then Some (word (text_of text))
    else (if is_quoted text then Some (quoted (unquoted text))
    else option_map (λ found. list (trees found)) (lists text))

-- the items of a list in that many parentheses, in which lists nest at most so many levels deep
unfoldable pub lists : ℕ → ℕ → List Mark → Option (List Tree)
lists zero depth text = None
lists (suc levels) depth text =
    option_and_then (λ found. items (value_with (lists levels (depth + 1))) [] (slice_split (is_separator (depth + 1)) found)) (inner depth text)

-- the value of a text in that many parentheses, in which lists nest at most so many levels deep
abbrev pub value : ℕ → ℕ → List Mark → Option Tree
value levels depth text = value_with (lists levels depth) text
