-- Definitions on cases that a near reading answers otherwise.
use Rattle.std.proofs.Common.{◌≡◌, ◌≤◌, ℕ, refl, inl, inr, ⊎_elim, arith}
use Rattle.std.specs.Fmt.{digits}
use Rattle.std.specs.Prelude.{◌⊎◌, codes}
use Rattle.deck_cards.specs.declared.reader.DeckErr.TheVariants.{Long, Wide, Byte}
use Rattle.pack_spec.specs.declared.MountErr.TheVariants.{SameSerial}
use Rattle.volume_manager.specs.Lines.{deck_line, deck_reason, reason_of}
use Rattle.volume_manager.specs.Run.{IsFinal, IsStatus, IsUnasked, IsUnbegun}

-- condition codes and refusals are final, faults and want of memory aren't
codes_final : (n : ℕ) → n ≤ 16 → IsFinal n
codes_final n few = inl (omega (arith, few))

refusals_final : IsFinal 20 × (IsFinal 21 × IsFinal 26)
refusals_final = (inl (omega arith), (inl (omega arith), inr refl))

faults_not_final : (n : ℕ) → 22 ≤ n → n ≤ 25 → ¬ IsFinal n
faults_not_final n low high final = ⊎_elim (λ (few : n ≤ 21). omega (arith, low, few)) (λ (deck : n ≡ 26). omega (arith, high, deck)) final

-- 16 and 20 are statuses, what stands between them and after 26 is none
statuses : IsStatus 0 × (IsStatus 16 × (IsStatus 20 × IsStatus 26))
statuses = (inl (omega arith), (inl (omega arith), (inr (omega arith, omega arith), inr (omega arith, omega arith))))

no_statuses : (IsStatus 17 → ⊥) × ((IsStatus 19 → ⊥) × (IsStatus 27 → ⊥))
no_statuses = (
  λ is. ⊎_elim (λ (few : 17 ≤ 16). omega (arith, few)) (λ (high : (20 ≤ 17) × (17 ≤ 26)). omega (arith, high.0)) is,
  (
    λ is. ⊎_elim (λ (few : 19 ≤ 16). omega (arith, few)) (λ (high : (20 ≤ 19) × (19 ≤ 26)). omega (arith, high.0)) is,
    λ is. ⊎_elim (λ (few : 27 ≤ 16). omega (arith, few)) (λ (high : (20 ≤ 27) × (27 ≤ 26)). omega (arith, high.1)) is,
  ),
)

-- with 21 a file was asked for, and nothing begun
begun_none : IsUnbegun 20 × (IsUnbegun 21 × (IsUnbegun 23 × IsUnbegun 26))
begun_none = (inl (omega arith, omega arith), (inl (omega arith, omega arith), (inr (inl refl), inr (inr refl))))

begun_some : (n : ℕ) → (n ≤ 16) ⊎ ((n ≡ 22) ⊎ ((n ≡ 24) ⊎ (n ≡ 25))) → ¬ IsUnbegun n
begun_some n which is = ⊎_elim (λ few. omega (arith, which, few.0, few.1)) (λ more. omega (arith, which, more)) is

asked_some : IsUnasked 21 → ⊥
asked_some is = ⊎_elim (λ (words : 21 ≡ 20). omega (arith, words)) (λ more. omega (arith, more)) is

-- the lines of a deck that is refused, and of a check
wide_line : deck_line (Wide 7) ≡ codes "VOLMAN DECK WIDE 7\n"
unfolding deck_line deck_reason digits
wide_line = refl

byte_line : deck_line (Byte 12 73) ≡ codes "VOLMAN DECK BYTE 12 73\n"
unfolding deck_line deck_reason digits
byte_line = refl

long_line : deck_line Long ≡ codes "VOLMAN DECK LONG\n"
unfolding deck_line deck_reason digits
long_line = refl

-- two units of one serial
same_serial_line : reason_of (SameSerial 1 0) ≡ codes "SAME-SERIAL 1 0"
unfolding reason_of digits
same_serial_line = refl
