-- The value of an operand as a tree.
use Rattle.std.specs.Prelude.{ℕ, List, [], ◌∷◌, Option, Some, None}
use Rattle.card_text.specs.declared.values.Value.{Value, fold-Value}
use Rattle.card_text.specs.declared.values.Value.TheOpen.{Value-F}

mutual
  -- nothing, a word, a text in quotes, or a list
  pub data Tree : Type 0 where
    empty : Tree
    word : List ℕ → Tree
    quoted : List ℕ → Tree
    list : Trees → Tree

  pub data Trees : Type 0 where
    none : Trees
    more : Tree → Trees → Trees

-- the trees of a list
abbrev pub trees : List Tree → Trees
trees [] = none
trees (t ∷ ts) = more t (trees ts)

-- one level, with each value inside already seen as its tree
abbrev pub view_step : Value-F Tree → Tree
view_step Value-F.Empty = empty
view_step (Value-F.Word text) = word text
view_step (Value-F.Quoted text) = quoted text
view_step (Value-F.List items) = list (trees items.items)

abbrev pub value_view : Value → Tree
value_view = fold-Value Tree view_step

abbrev pub as_word : Tree → Option (List ℕ)
as_word empty = None
as_word (word text) = Some text
as_word (quoted text) = None
as_word (list items) = None

abbrev pub as_list : Tree → Option Trees
as_list empty = None
as_list (word text) = None
as_list (quoted text) = None
as_list (list items) = Some items
