-- Blocks, one by one.
use Rattle.std.proofs.Common.{◌≡◌, ◌+◌, ◌<◌, ℕ, not, List, [], ◌∷◌, ◌++◌, length, take, get_or, refl, sym, ap, ◌∙◌}
use Rattle.std.proofs.lemmas.List.{take_more}
use Rattle.vol_model.specs.declared.contents.Block.{Block}
use Rattle.vol_model.specs.Places.{is_end_of_file, is_open_ended}

-- whether blocks are open ended is said by their last
open_last : (bs : List Block) (b : Block) → is_open_ended (bs ++ b ∷ []) ≡ not (is_end_of_file b)
open_last [] b = refl
open_last (c ∷ []) b = refl
open_last (c ∷ d ∷ bs) b = open_last (d ∷ bs) b

-- with one more block
pub open_more : (bs : List Block) (i : ℕ) (b : Block) → i < length bs → b ≡ get_or bs i b → is_open_ended (take (i + 1) bs) ≡ not (is_end_of_file b)
open_more bs i b inside is = ap is_open_ended (take_more bs i b inside ∙ ap (λ c. take i bs ++ c ∷ []) (sym is)) ∙ open_last (take i bs) b
