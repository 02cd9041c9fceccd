-- The blocks of a set that are read, one after another.
use Rattle.std.proofs.Common.{◌≡◌, ◌&&◌, Bool, true, false, cond, not, List, [], ◌∷◌, refl, sym, ◌∙◌, ap}
use Rattle.std.proofs.lemmas.List.Sums.{take_while-cons}
use Rattle.std.specs.List.{take_while}
use Rattle.std.specs.Prelude.{is_some, unwrap_or, Option, None, Some}
use Rattle.vol_model.specs.declared.contents.Block.{Block}
use Rattle.vol_model.specs.declared.contents.Place.{Place}
use Rattle.vol_model.specs.Places.{is_end_of_file}
use Rattle.vol_model.specs.Reading.{blocks_from, member}
use Rattle.vol_model.proofs.Keeping.{AreBlocks}
use Rattle.util_steps.specs.Copying.{behind_place}
use Rattle.util_steps.proofs.Blocks.{next_blocks}
use Rattle.util_steps.proofs.Progress.{all_from_start, first_passes, low_blocks}
use Rattle.record_files.specs.Members.{blocks_at}
use Rattle.record_files.specs.Reader.{blocks_left}

-- the blocks after the first of those from a place on
pub left_blocks : (place : Place) (bs : List Block) (b : Block) (rest : List Block) → AreBlocks bs → blocks_from place bs ≡ b ∷ rest → blocks_from (behind_place b.place) bs ≡ rest
left_blocks place bs b rest are is = next_blocks (record { tt = 0; r = 0 }) place bs are.rise (low_blocks bs are.each) b rest is (first_passes place bs b rest is)

-- the blocks in front of the end of a member
abbrev up_to_end : List Block → List Block
up_to_end bs = take_while (λ (x : Block). not (is_end_of_file x)) bs

while_first : (b : Block) (rest : List Block) → up_to_end (b ∷ rest) ≡ cond (not (is_end_of_file b)) (b ∷ up_to_end rest) []
while_first b rest = take_while-cons (λ (x : Block). not (is_end_of_file x)) b rest

-- where there is no block from a place on none is left
pub left_none : (within : Bool) (place : Place) (bs : List Block) → blocks_from place bs ≡ [] → blocks_left within place bs ≡ []
unfolding member
left_none true place bs none = ap up_to_end none
left_none false place bs none = none

-- at the end of a member none is left
pub left_end : (within : Bool) (place : Place) (bs : List Block) (b : Block) (rest : List Block) → blocks_from place bs ≡ b ∷ rest → (within && is_end_of_file b) ≡ true → blocks_left within place bs ≡ []
unfolding member
left_end false place bs b rest is end = cc
left_end true place bs b rest is end = ap up_to_end is ∙ while_first b rest ∙ ap (λ (t : Bool). cond (not t) (b ∷ up_to_end rest) []) end

-- the blocks that are left after the first are those from the place after it on
pub next_left : (within : Bool) (bs : List Block) (place : Place) (b : Block) (rest : List Block) → AreBlocks bs → blocks_from place bs ≡ b ∷ rest → (within && is_end_of_file b) ≡ false → blocks_left within place bs ≡ b ∷ blocks_left within (behind_place b.place) bs
unfolding member
next_left within bs place b rest are is goes_on = by_within within goes_on
  where
    left : blocks_from (behind_place b.place) bs ≡ rest
    left = left_blocks place bs b rest are is

    by_within : (t : Bool) → (t && is_end_of_file b) ≡ false → blocks_left t place bs ≡ b ∷ blocks_left t (behind_place b.place) bs
    by_within false further = is ∙ ap (λ (l : List Block). b ∷ l) (sym left)
    by_within true further = ap up_to_end is ∙ while_first b rest ∙ ap (λ (t : Bool). cond (not t) (b ∷ up_to_end rest) []) further ∙ ap (λ (l : List Block). b ∷ up_to_end l) (sym left)

-- the blocks that are left at the start are those that are read
pub left_at_start : (start : Option Place) (bs : List Block) → blocks_left (is_some start) (unwrap_or start (record { tt = 0; r = 0 })) bs ≡ blocks_at start bs
left_at_start None bs = all_from_start bs
left_at_start (Some p) bs = refl
