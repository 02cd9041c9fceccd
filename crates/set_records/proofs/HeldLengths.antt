-- A record of a buffer that has a key and data of these lengths, by the test of both.
use Rattle.std.proofs.Common.{◌≡◌, ◌<◌, ℕ, zero, suc, Bool, true, false, List, [], ◌∷◌, length, Some, sym, ap₂, ◌∙◌, arith, ⊎_elim}
use Rattle.std.specs.Prelude.{◌==◌, ◌&&◌, slice_get}
use Rattle.std.specs.Option.{option_map}
use Rattle.std.proofs.lemmas.Bool.{and_parts}
use Rattle.std.proofs.lemmas.Bool.Decides.{eqb_tells, nat_tests}
use Rattle.ckd_image.specs.Track.{Record}
use Rattle.track_records.specs.Updates.{HasLengths}

equal : (m n : ℕ) → (m == n) ≡ true → n ≡ m
equal m n is = ⊎_elim (λ w. sym w.1) (λ w. absurd (never (sym is ∙ w.0))) (eqb_tells m n)
  where
    never : true ≡ false → ⊥
    never e = cc

itself : (n : ℕ) → (n == n) ≡ true
itself n = grind (arith, nat_tests)

module _ (keys contents : ℕ) where
  abbrev test : Record → Bool
  test x = (length x.key == keys) && (length x.data == contents)

  pub held_lengths : (xs : List Record) (k : ℕ) → option_map (λ (x : Record). (length x.key == keys) && (length x.data == contents)) (slice_get xs k) ≡ Some true → HasLengths xs k keys contents
  held_lengths [] k is = cc
  held_lengths (x ∷ xs) zero is =
      let both : test x ≡ true = cc in
      let parts = and_parts (length x.key == keys) (length x.data == contents) both in
      (equal (length x.key) keys parts.0, equal (length x.data) contents parts.1)
  held_lengths (x ∷ xs) (suc k) is = held_lengths xs k is

  pub other_lengths : (xs : List Record) (k : ℕ) → option_map (λ (x : Record). (length x.key == keys) && (length x.data == contents)) (slice_get xs k) ≡ Some false → HasLengths xs k keys contents → ⊥
  other_lengths [] k is has = cc
  other_lengths (x ∷ xs) zero is has =
      let both : test x ≡ true = ap₂ (λ (m n : ℕ). (m == keys) && (n == contents)) (sym has.0) (sym has.1) ∙ ap₂ (λ (a b : Bool). a && b) (itself keys) (itself contents) in cc
  other_lengths (x ∷ xs) (suc k) is has = other_lengths xs k is has

pub lengths_within : (xs : List Record) (k m n : ℕ) → HasLengths xs k m n → k < length xs
lengths_within [] k m n has = absurd has
lengths_within (x ∷ xs) zero m n has = omega arith
lengths_within (x ∷ xs) (suc k) m n has = let rest = lengths_within xs k m n has in omega (arith, rest)
