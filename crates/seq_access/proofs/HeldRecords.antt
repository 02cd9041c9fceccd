-- The lengths of the records in a buffer, one after another.
use Rattle.std.proofs.Common.{◌≡◌, ◌+◌, ◌*◌, ◌<◌, ◌≤◌, ℕ, zero, suc, true, List, [], ◌∷◌, ◌++◌, length, map, take, Option, Some, None, refl, sym, ap, ◌∙◌, subst, arith, leb-true}
use Rattle.std.specs.Prelude.{nat_le, slice_get, slice_set}
use Rattle.std.specs.List.{list_all}
use Rattle.std.specs.Option.{option_map}
use Rattle.std.proofs.lemmas.Bool.{and_parts}
use Rattle.ckd_image.specs.Track.{Record}
use Rattle.pack_spec.specs.Blocks.{is_block}
use Rattle.track_records.specs.Updates.{length_of, offset_of}
use Rattle.seq_access.specs.Writing.{sizes}

-- the record of a number, whose key and data were handed out
pub record IsPart (xs : List Record) (k : ℕ) (key content : List ℕ) : Type 0 where
  pub held : Record
  pub there : slice_get xs k ≡ Some held
  pub key_is : held.key ≡ key
  pub data_is : held.«data» ≡ content
  pub key_fits : length key ≤ 255
  pub data_fits : length content ≤ 32760

each_block : (xs : List Record) (k : ℕ) (x : Record) → list_all is_block xs ≡ true → slice_get xs k ≡ Some x → is_block x ≡ true
each_block [] k x all is = cc
each_block (y ∷ xs) zero x all is =
    let same : y ≡ x = cc in
    ap is_block (sym same) ∙ (and_parts (is_block y) (list_all is_block xs) all).0
each_block (y ∷ xs) (suc k) x all is = each_block xs k x (and_parts (is_block y) (list_all is_block xs) all).1 is

pub part_of : (xs : List Record) (n k : ℕ) (key content : List ℕ) → n ≡ k → list_all is_block xs ≡ true → option_map (λ (x : Record). x.key) (slice_get xs n) ≡ Some key → option_map (λ (x : Record). x.«data») (slice_get xs n) ≡ Some content → IsPart xs k key content
part_of xs n k key content same all first second =
    by (slice_get xs k) refl (ap (λ (m : ℕ). option_map (λ (x : Record). x.key) (slice_get xs m)) (sym same) ∙ first) (ap (λ (m : ℕ). option_map (λ (x : Record). x.«data») (slice_get xs m)) (sym same) ∙ second)
  where
    by : (o : Option Record) → slice_get xs k ≡ o → option_map (λ (x : Record). x.key) o ≡ Some key → option_map (λ (x : Record). x.«data») o ≡ Some content → IsPart xs k key content
    by None is one two = cc
    by (Some x) is one two =
        let parts = and_parts (nat_le (length x.key) 255) (nat_le (length x.«data») 32760) (each_block xs k x all is) in
        let key_is : x.key ≡ key = cc in
        let data_is : x.«data» ≡ content = cc in
        let short : length x.key ≤ 255 = leb-true (length x.key) 255 parts.0 in
        let low : length x.«data» ≤ 32760 = leb-true (length x.«data») 32760 parts.1 in
        record {
          held = x;
          there = is;
          key_is = key_is;
          data_is = data_is;
          key_fits = subst (λ (l : List ℕ). length l ≤ 255) key_is short;
          data_fits = subst (λ (l : List ℕ). length l ≤ 32760) data_is low;
        }

pub key_short : (xs : List Record) (n : ℕ) (key : List ℕ) → list_all is_block xs ≡ true → option_map (λ (x : Record). x.key) (slice_get xs n) ≡ Some key → length key ≤ 255
key_short xs n key all first = by (slice_get xs n) refl first
  where
    by : (o : Option Record) → slice_get xs n ≡ o → option_map (λ (x : Record). x.key) o ≡ Some key → length key ≤ 255
    by None is one = cc
    by (Some x) is one =
        let key_is : x.key ≡ key = cc in
        subst (λ (l : List ℕ). length l ≤ 255) key_is (leb-true (length x.key) 255 (and_parts (nat_le (length x.key) 255) (nat_le (length x.«data») 32760) (each_block xs n x all is)).0)

pub data_short : (xs : List Record) (n : ℕ) (content : List ℕ) → list_all is_block xs ≡ true → option_map (λ (x : Record). x.«data») (slice_get xs n) ≡ Some content → length content ≤ 32760
data_short xs n content all first = by (slice_get xs n) refl first
  where
    by : (o : Option Record) → slice_get xs n ≡ o → option_map (λ (x : Record). x.«data») o ≡ Some content → length content ≤ 32760
    by None is one = cc
    by (Some x) is one =
        let data_is : x.«data» ≡ content = cc in
        subst (λ (l : List ℕ). length l ≤ 32760) data_is (leb-true (length x.«data») 32760 (and_parts (nat_le (length x.key) 255) (nat_le (length x.«data») 32760) (each_block xs n x all is)).1)

-- one more record
offset_more : (xs : List Record) (k : ℕ) (x : Record) → slice_get xs k ≡ Some x → offset_of xs (suc k) ≡ offset_of xs k + length_of x
offset_more [] k x is = cc
offset_more (y ∷ []) zero x is = let same : y ≡ x = cc in let l : length_of y ≡ length_of x = ap length_of same in omega arith
offset_more (y ∷ (z ∷ xs)) zero x is = let same : y ≡ x = cc in let l : length_of y ≡ length_of x = ap length_of same in omega arith
offset_more (y ∷ xs) (suc k) x is = omega (arith, offset_more xs k x is)

sizes_more : (xs : List Record) (k : ℕ) (x : Record) → slice_get xs k ≡ Some x → map sizes (take (suc k) xs) ≡ map sizes (take k xs) ++ sizes x ∷ []
sizes_more [] k x is = cc
sizes_more (y ∷ xs) zero x is = let same : y ≡ x = cc in ap (λ (z : Record). sizes z ∷ []) same
sizes_more (y ∷ xs) (suc k) x is = ap (λ (l : List (ℕ × ℕ)). sizes y ∷ l) (sizes_more xs k x is)

set_more : (ls : List (ℕ × ℕ)) (k : ℕ) (v : ℕ × ℕ) → k < length ls → take (suc k) (slice_set ls k v) ≡ take k ls ++ v ∷ []
set_more [] k v low = absurd (omega (arith, low))
set_more (l ∷ ls) zero v low = refl
set_more (l ∷ ls) (suc k) v low = ap (λ (m : List (ℕ × ℕ)). l ∷ m) (set_more ls k v (omega (arith, low)))

pub lengths_more : (xs : List Record) (ls : List (ℕ × ℕ)) (k : ℕ) (key content : List ℕ) → IsPart xs k key content → k < length ls → take k ls ≡ map sizes (take k xs) → take (k + 1) (slice_set ls k (length key, length content)) ≡ map sizes (take (k + 1) xs)
lengths_more xs ls k key content part low before =
    let next : k + 1 ≡ suc k = omega arith in
    let both : sizes part.held ≡ (length key, length content) = ap (λ (l : List ℕ). (length l, length part.held.«data»)) part.key_is ∙ ap (λ (l : List ℕ). (length key, length l)) part.data_is in
    ap (λ (n : ℕ). take n (slice_set ls k (length key, length content))) next
    ∙ set_more ls k (length key, length content) low
    ∙ ap (λ (l : List (ℕ × ℕ)). l ++ (length key, length content) ∷ []) before
    ∙ ap (λ (v : ℕ × ℕ). map sizes (take k xs) ++ v ∷ []) (sym both)
    ∙ sym (sizes_more xs k part.held part.there)
    ∙ ap (λ (n : ℕ). map sizes (take n xs)) (sym next)

pub end_more : (xs : List Record) (k at : ℕ) (key content : List ℕ) → IsPart xs k key content → at ≡ 21 + offset_of xs k → at + (8 + length key + length content) ≡ 21 + offset_of xs (k + 1)
end_more xs k at key content part before =
    let next : k + 1 ≡ suc k = omega arith in
    let first : length part.held.key ≡ length key = ap length part.key_is in
    let second : length part.held.«data» ≡ length content = ap length part.data_is in
    omega (arith, before, offset_more xs k part.held part.there, first, second, ap (offset_of xs) next)

pub length-put : (ls : List (ℕ × ℕ)) (k : ℕ) (v : ℕ × ℕ) → length (slice_set ls k v) ≡ length ls
length-put [] k v = refl
length-put (l ∷ ls) zero v = refl
length-put (l ∷ ls) (suc k) v = ap suc (length-put ls k v)

pub offset_none : (xs : List Record) → offset_of xs 0 ≡ 0
offset_none [] = refl
offset_none (x ∷ xs) = refl

pub offset_most : (xs : List Record) → list_all is_block xs ≡ true → offset_of xs (length xs) ≤ 33023 * length xs
offset_most [] all = omega arith
offset_most (x ∷ xs) all =
    let parts = and_parts (is_block x) (list_all is_block xs) all in
    let sizes_fit = and_parts (nat_le (length x.key) 255) (nat_le (length x.«data») 32760) parts.0 in
    omega (arith, offset_most xs parts.1, leb-true (length x.key) 255 sizes_fit.0, leb-true (length x.«data») 32760 sizes_fit.1)
