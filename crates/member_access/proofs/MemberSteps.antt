-- A member that is walked block by block.
use Rattle.std.proofs.Common.{◌≡◌, ◌≤◌, not, suc, true, false, cond, List, [], ◌∷◌, length, take, refl, sym, ◌∙◌, ap}
use Rattle.std.proofs.lemmas.List.Sums.{take_while-cons}
use Rattle.std.specs.Prelude.{take_while}
use Rattle.vol_model.specs.declared.contents.Block.{Block}
use Rattle.vol_model.specs.declared.contents.Place.{Place}
use Rattle.vol_model.specs.Places.{is_end_of_file, last_place}
use Rattle.vol_model.specs.Reading.{blocks_from, member}
use Rattle.member_access.specs.declared.ends.Walk.{Walk}
use Rattle.member_access.specs.Ends.{IsNextPlace, end_behind, member_end, whole_member}
use Rattle.member_access.proofs.LaterBlocks.{AreOrdered, blocks_behind}

-- of some blocks those of the member that begins there, with its end-of-file block
abbrev up_to_end : List Block → List Block
up_to_end bs = take_while (λ (b : Block). not (is_end_of_file b)) bs

abbrev with_end : List Block → List Block
with_end bs = take (suc (length (up_to_end bs))) bs

whole_is : (bs : List Block) (p : Place) → whole_member bs p ≡ with_end (blocks_from p bs)
unfolding member
whole_is bs p = refl

ends_with : (b : Block) (rest : List Block) → is_end_of_file b ≡ true → with_end (b ∷ rest) ≡ b ∷ []
ends_with b rest is = ap (λ (l : List Block). take (suc (length l)) (b ∷ rest)) (take_while-cons (λ (x : Block). not (is_end_of_file x)) b rest ∙ ap (λ t. cond (not t) (b ∷ up_to_end rest) []) is)

goes_on : (b : Block) (rest : List Block) → is_end_of_file b ≡ false → with_end (b ∷ rest) ≡ b ∷ with_end rest
goes_on b rest is = ap (λ (l : List Block). take (suc (length l)) (b ∷ rest)) (take_while-cons (λ (x : Block). not (is_end_of_file x)) b rest ∙ ap (λ t. cond (not t) (b ∷ up_to_end rest) []) is)

-- none is passed
pub began : (bs : List Block) (from : Place) → end_behind bs (record { last = from; next = from }) ≡ member_end bs from
unfolding end_behind member_end
began bs from = refl

module _ (bs : List Block) (w : Walk) where
  -- none is left
  pub none_left : blocks_from w.next bs ≡ [] → w.last ≡ end_behind bs w
  unfolding end_behind
  none_left none = sym (ap (last_place w.last) (whole_is bs w.next ∙ ap with_end none))

  -- the end-of-file block is the last
  pub last_passed : (b : Block) (rest : List Block) → blocks_from w.next bs ≡ b ∷ rest → is_end_of_file b ≡ true → b.place ≡ end_behind bs w
  unfolding end_behind
  last_passed b rest is ends = sym (ap (last_place w.last) (whole_is bs w.next ∙ ap with_end is ∙ ends_with b rest ends))

  -- another isn't
  pub one_passed : AreOrdered bs → w.next.r ≤ 255 → (next : Place) (b : Block) (rest : List Block) → blocks_from w.next bs ≡ b ∷ rest → is_end_of_file b ≡ false → IsNextPlace b.place next → end_behind bs (record { last = b.place; next = next }) ≡ end_behind bs w
  unfolding end_behind
  one_passed are low next b rest is more after =
      ap (last_place b.place) (whole_is bs next ∙ ap with_end (blocks_behind bs are w.next next b rest low is after))
      ∙ sym (ap (last_place w.last) (whole_is bs w.next ∙ ap with_end is ∙ goes_on b rest more))
