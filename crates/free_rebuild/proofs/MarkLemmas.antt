-- The bits of a format 4 that is marked, and of one that isn't any more.
use Rattle.std.proofs.Common.{◌≡◌, ℕ, Bool, true, false, not, List, refl, sym, ap, ◌∙◌}
use Rattle.std.specs.Prelude.{◌==◌, bit_and, bit_or}
use Rattle.std.specs.Int.Bits.{and_zero_r}
use Rattle.std.proofs.lemmas.Nat.{and_assoc, and_or_self}
use Rattle.std.proofs.lemmas.Bool.{eqb-true}
use Rattle.dscb_codec.specs.declared.F4.{F4}
use Rattle.pack_spec.specs.Settled.{is_marked}

-- the bit of an interrupted update is one of the two
pub marked_on : (f : F4) → is_marked (record f { indicators = bit_or f.indicators 0x04 }) ≡ true
marked_on f = by_test (bit_and (bit_or f.indicators 0x04) 0x84 == 0) refl
  where
    by_test : (t : Bool) → (bit_and (bit_or f.indicators 0x04) 0x84 == 0) ≡ t → not (bit_and (bit_or f.indicators 0x04) 0x84 == 0) ≡ true
    by_test true test =
        let none : bit_and (bit_or f.indicators 0x04) 0x84 ≡ 0 = eqb-true _ 0 test in
        let four : bit_and (bit_or f.indicators 0x04) 0x04 ≡ 0x04 = and_or_self 0x04 f.indicators in
        let same : bit_and (bit_and (bit_or f.indicators 0x04) 0x84) 0x04 ≡ bit_and (bit_or f.indicators 0x04) 0x04 = and_assoc 0x04 (bit_or f.indicators 0x04) 0x84 in
        let never : ◌≡◌ {A = ℕ} 0 0x04 = ap (λ (n : ℕ). bit_and n 0x04) (sym none) ∙ same ∙ four in
        cc
    by_test false test = ap not test

-- with all other bits alone, neither is on
pub marked_off : (f : F4) (free : ℕ) (highest : List ℕ) → is_marked (record f { highest = highest; free = free; indicators = bit_and f.indicators 0x7B }) ≡ false
marked_off f free highest = ap (λ (n : ℕ). not (n == 0)) (and_assoc 0x84 f.indicators 0x7B ∙ and_zero_r f.indicators)
