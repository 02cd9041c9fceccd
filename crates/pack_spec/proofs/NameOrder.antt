-- Names of eight bytes stand in the order of the numbers that they spell.
use Rattle.std.proofs.Common.{◌≡◌, ◌⊎◌, ◌+◌, ◌*◌, ◌^◌, ◌≤◌, ◌<◌, ℕ, suc, Bool, true, false, cond, List, [], ◌∷◌, length, sym, ap, ◌∙◌, inl, inr, arith}
use Rattle.std.specs.Prelude.{◌==◌, nat_lt}
use Rattle.std.specs.Int.{w64, from_be_bytes}
use Rattle.std.specs.List.{AllByRecursion}
use Rattle.std.specs.Cmp.Lexicographic.{slice_cmp}
use Rattle.std.specs.Ordering.{is_lt, nat_cmp, ordering_then}
use Rattle.std.specs.declared.cmp.Ordering.TheVariants.{Less, Equal, Greater}
use Rattle.std.proofs.Math.Nat.{mul-le-mul_right, pow-suc}
use Rattle.std.proofs.lemmas.Bool.Decides.{eqb_tells, leb_tells}
use Rattle.vol_model.specs.declared.contents.Entry.{Entry}
use Rattle.vol_model.specs.Shelf.{is_entry_before}
use Rattle.pack_spec.specs.Directories.{name_number}

-- bytes are below 256
abbrev pub AreBytes : List ℕ → Type 0
AreBytes bytes = AllByRecursion (λ (x : ℕ). x < 256) bytes

-- the number that bytes spell, the high one first
abbrev value : List ℕ → ℕ
value [] = 0
value (x ∷ xs) = x * 256 ^ length xs + value xs

value_low : (xs : List ℕ) → AreBytes xs → value xs < 256 ^ length xs
value_low [] are = omega arith
value_low (x ∷ xs) are =
    let most = mul-le-mul_right {m = suc x} {n = 256} (256 ^ length xs) are.0 in
    omega (arith, most, value_low xs are.1, pow-suc 256 (length xs))

-- bytes of a lower number stand before as many of a higher one
value_before : (xs ys : List ℕ) → AreBytes xs → AreBytes ys → length xs ≡ length ys → value xs < value ys → is_lt (slice_cmp nat_cmp xs ys) ≡ true
value_before [] [] first second same less = absurd (omega (arith, less))
value_before [] (y ∷ ys) first second same less = absurd (omega (arith, same))
value_before (x ∷ xs) [] first second same less = absurd (omega (arith, same))
value_before (x ∷ xs) (y ∷ ys) first second same less = by (leb_tells (suc x) y) (eqb_tells x y) (λ h. value_before xs ys first.1 second.1 (omega (arith, same)) h)
  where
    long : length xs ≡ length ys
    long = omega (arith, same)

    power : 256 ^ length xs ≡ 256 ^ length ys
    power = ap (λ (n : ℕ). 256 ^ n) long

    by : ((nat_lt x y ≡ true) × (suc x ≤ y)) ⊎ ((nat_lt x y ≡ false) × (y < suc x)) → (((x == y) ≡ true) × (x ≡ y)) ⊎ (((x == y) ≡ false) × (x ≡ y → ⊥)) → (value xs < value ys → is_lt (slice_cmp nat_cmp xs ys) ≡ true) → is_lt (slice_cmp nat_cmp (x ∷ xs) (y ∷ ys)) ≡ true
    by (inl w) o rest = ap (λ (b : Bool). is_lt (ordering_then (cond b Less (cond (x == y) Equal Greater)) (slice_cmp nat_cmp xs ys))) w.0
    by (inr w) (inl e) rest =
        ap (λ (b : Bool). is_lt (ordering_then (cond b Less (cond (x == y) Equal Greater)) (slice_cmp nat_cmp xs ys))) w.0
        ∙ ap (λ (b : Bool). is_lt (ordering_then (cond b Equal Greater) (slice_cmp nat_cmp xs ys))) e.0
        ∙ rest (omega (arith, less, ap (λ (z : ℕ). z * 256 ^ length xs) e.1, ap (λ (z : ℕ). y * z) power))
    by (inr w) (inr e) rest =
        let more : suc y ≤ x = omega (arith, w.1, e.1) in
        let most = mul-le-mul_right {m = suc y} {n = x} (256 ^ length xs) more in
        absurd (omega (arith, less, most, value_low ys second.1, power, ap (λ (z : ℕ). y * z) power))

spelled : (xs : List ℕ) → length xs ≡ 8 → from_be_bytes w64 xs ≡ value xs
spelled (a ∷ b ∷ c ∷ d ∷ e ∷ f ∷ g ∷ h ∷ []) long = omega arith
spelled _ long = absurd (omega (arith, long))

-- The name of an entry has eight bytes.
pub record HasName (e : Entry) : Type 0 where
  pub eight : length e.name.bytes ≡ 8
  pub bytes : AreBytes e.name.bytes

-- An entry whose name spells a lower number stands before one whose name spells a higher one.
pub number_before : (d e : Entry) → HasName d → HasName e → name_number d < name_number e → is_entry_before d e ≡ true
number_before d e first second less =
    value_before d.name.bytes e.name.bytes first.bytes second.bytes (first.eight ∙ sym second.eight) (omega (arith, less, spelled d.name.bytes first.eight, spelled e.name.bytes second.eight))
