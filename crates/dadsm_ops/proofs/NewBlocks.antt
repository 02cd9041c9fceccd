-- The blocks of a new directory on one track: what they take there.
use Rattle.std.proofs.Common.{◌≡◌, ◌+◌, ◌*◌, ℕ, zero, suc, List, [], ◌∷◌, ◌++◌, length, map, replicate, refl, sym, ap, ◌∙◌, arith}
use Rattle.std.specs.List.{range_with_len}
use Rattle.std.proofs.lemmas.List.{map-append}
use Rattle.ckd_image.specs.Track.{Record}
use Rattle.track_records.specs.Updates.{offset_of}
use Rattle.vol_model.specs.Places.{Content}
use Rattle.pack_spec.specs.Directories.{first_block, new_block, unused_block}
use Rattle.dadsm_ops.specs.Formatting.{contents_of}

-- a block has a key of 8 bytes and data of 256
pub block_lengths : (i : ℕ) → (length (new_block i).0 ≡ 8) × (length (new_block i).1 ≡ 256)
unfolding first_block unused_block
block_lengths zero = (refl, refl)
block_lengths (suc i) = (refl, refl)

-- what records take that are such blocks
pub blocks_take : (xs : List Record) (first n : ℕ) → contents_of xs ≡ map new_block (range_with_len first n) → (length xs ≡ n) × (offset_of xs (length xs) ≡ 272 * n)
blocks_take [] first zero same = (refl, refl)
blocks_take [] first (suc n) same = cc
blocks_take (x ∷ xs) first zero same = cc
blocks_take (x ∷ xs) first (suc n) same =
    let one : Content = new_block first in
    let this : (x.key, x.data) ≡ one = cc in
    let rest = blocks_take xs (first + 1) n (cc) in
    let long = block_lengths first in
    (omega (arith, rest.0), omega (arith, rest.1, long.0, long.1, ap (λ (c : Content). length c.0) this, ap (λ (c : Content). length c.1) this))

-- the numbers with the next
range_more : (first n : ℕ) → range_with_len first (n + 1) ≡ range_with_len first n ++ (first + n) ∷ []
range_more first zero = let same : first ≡ first + 0 = omega arith in let one : zero + 1 ≡ suc zero = omega arith in ap (range_with_len first) one ∙ ap (λ (k : ℕ). k ∷ []) same
range_more first (suc n) =
    let next : suc n + 1 ≡ suc (n + 1) = omega arith in
    let same : first + 1 + n ≡ first + suc n = omega arith in
    ap (range_with_len first) next ∙ ap (λ (l : List ℕ). first ∷ l) (range_more (first + 1) n ∙ ap (λ (k : ℕ). range_with_len (first + 1) n ++ k ∷ []) same)

-- one more block
pub blocks_more : (cs : List Content) (first n : ℕ) (c : Content) → cs ≡ map new_block (range_with_len first n) → c ≡ new_block (first + n) → cs ++ c ∷ [] ≡ map new_block (range_with_len first (n + 1))
blocks_more cs first n c before is =
    ap (λ (l : List Content). l ++ c ∷ []) before
    ∙ ap (λ (d : Content). map new_block (range_with_len first n) ++ d ∷ []) is
    ∙ sym (map-append new_block (range_with_len first n) ((first + n) ∷ []))
    ∙ sym (ap (map new_block) (range_more first n))

-- the first block is that of number 0
pub first_key : (n : ℕ) → n ≡ 0 → replicate 8 255 ≡ (new_block n).0
unfolding first_block
first_key n is = sym (ap (λ (k : ℕ). (new_block k).0) is)

pub first_data : (n : ℕ) → n ≡ 0 → 0 ∷ 14 ∷ (replicate 8 255 ++ replicate 246 0) ≡ (new_block n).1
unfolding first_block
first_data n is = sym (ap (λ (k : ℕ). (new_block k).1) is)

pub later_key : (n : ℕ) → (n ≡ 0 → ⊥) → replicate 8 0 ≡ (new_block n).0
unfolding unused_block
later_key zero not = absurd (not refl)
later_key (suc n) not = refl

pub later_data : (n : ℕ) → (n ≡ 0 → ⊥) → replicate 256 0 ≡ (new_block n).1
unfolding unused_block
later_data zero not = absurd (not refl)
later_data (suc n) not = refl
