-- Where a field comes from.
use Rattle.std.proofs.Common.{◌≡◌, ℕ, List, ap}
use Rattle.std.specs.Prelude.{Option, Some, None, option_map}
use Rattle.card_text.specs.Tree.{Tree, empty, word, quoted, list}
use Rattle.iebgener_util.specs.declared.requests.Origin.TheVariants as origin
use Rattle.iebgener_util.specs.Requests.{column_in, number_or, origin_in, text_in}

-- from a text
pub origin_text : (t : Tree) (bytes : List ℕ) → Some bytes ≡ text_in t → Some (origin.Text bytes) ≡ origin_in t
unfolding origin_in
origin_text empty bytes is = cc
origin_text (word text) bytes is = cc
origin_text (quoted text) bytes is = ap (λ (o : Option (List ℕ)). option_map origin.Text o) is
origin_text (list items) bytes is = cc

-- from a column
pub origin_column : (t : Tree) (column : Option ℕ) → None ≡ text_in t → column ≡ column_in t → option_map origin.Column column ≡ origin_in t
unfolding origin_in column_in number_or
origin_column empty column none is = ap (λ (o : Option ℕ). option_map origin.Column o) is
origin_column (word text) column none is = ap (λ (o : Option ℕ). option_map origin.Column o) is
origin_column (quoted text) column none is = cc
origin_column (list items) column none is = ap (λ (o : Option ℕ). option_map origin.Column o) is
