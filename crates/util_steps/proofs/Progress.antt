-- The blocks of a set from a place on.
use Rattle.std.proofs.Common.{◌≡◌, inl, inr, ◌+◌, ◌-◌, ◌*◌, ◌<◌, ◌≤◌, ℕ, Bool, true, false, cond, not, List, [], ◌∷◌, refl, sym, ◌∙◌, ap, subst, arith}
use Rattle.std.specs.Prelude.{Ok}
use Rattle.std.specs.List.{AllByRecursion}
use Rattle.vol_model.specs.declared.contents.Block.{Block}
use Rattle.vol_model.specs.declared.contents.Place.{Place}
use Rattle.vol_model.specs.declared.contents.Shelf.{Shelf}
use Rattle.vol_model.specs.Places.{is_before}
use Rattle.vol_model.specs.Reading.{blocks_from}
use Rattle.vol_model.specs.Lawful.{IsLawful, IsLawfulBlock}
use Rattle.vol_model.specs.Writing.{body_on}
use Rattle.vol_model.proofs.Keeping.{AreBlocks, lawful_blocks, readable_blocks}
use Rattle.util_steps.specs.declared.calls.SetRef.{SetRef}
use Rattle.util_steps.specs.Copying.{source}
use Rattle.util_steps.proofs.Blocks.{AreLow, IsBefore, before_by, not_before_start}

pub first_passes : (p : Place) (bs : List Block) (b : Block) (more : List Block) → blocks_from p bs ≡ b ∷ more → is_before b.place p ≡ false
first_passes p [] b more h = cc
first_passes p (x ∷ bs) b more h = by_test p x bs b more (is_before x.place p) refl h (first_passes p bs b more)
  where
    by_test : (p : Place) (x : Block) (bs : List Block) (b : Block) (more : List Block) (t : Bool) → is_before x.place p ≡ t → cond (not t) (x ∷ blocks_from p bs) (blocks_from p bs) ≡ b ∷ more → (blocks_from p bs ≡ b ∷ more → is_before b.place p ≡ false) → is_before b.place p ≡ false
    by_test p x bs b more true e h rest = rest h
    by_test p x bs b more false e h rest = let same : x ≡ b = cc in subst (λ (y : Block). is_before y.place p ≡ false) same e

pub all_from_start : (bs : List Block) → blocks_from (record { tt = 0; r = 0 }) bs ≡ bs
all_from_start [] = refl
all_from_start (b ∷ bs) = ap (λ (t : Bool). cond (not t) (b ∷ blocks_from (record { tt = 0; r = 0 }) bs) (blocks_from (record { tt = 0; r = 0 }) bs)) (not_before_start b.place) ∙ ap (λ (l : List Block). b ∷ l) (all_from_start bs)

pub low_blocks : (bs : List Block) → AllByRecursion IsLawfulBlock bs → AreLow bs
low_blocks [] all = tt
low_blocks (b ∷ bs) all = (all.0.place, low_blocks bs all.1)

-- the blocks of a set on a lawful shelf
pub source_blocks : (s : Shelf) (from : SetRef) (bs : List Block) → IsLawful s → source s from ≡ Ok bs → AreBlocks bs
source_blocks s from bs lawful is = subst AreBlocks (sym (readable_blocks (body_on s from.v from.dsn.bytes) bs is)) (lawful_blocks s from.v from.dsn.bytes lawful)

-- a place as a number, and how far it is from the last
abbrev pub left_from : Place → ℕ
left_from p = 16777216 - (p.tt * 256 + p.r)

pub falls : (p q : Place) → p.r ≤ 255 → q.tt ≤ 65535 → q.r ≤ 255 → is_before p q ≡ true → left_from q < left_from p
falls p q a b c h = by_order (before_by p q h)
  where
    by_order : IsBefore p q → left_from q < left_from p
    by_order (inl lower) = omega arith
    by_order (inr same) = omega (arith, same.0, same.1)
