-- The code page read at a character, and the two ways of it against one another.
use Rattle.std.proofs.Common.{inl, inr, subst, ◌≡◌, ℕ, ◌+◌, ◌-◌, ◌<◌, ◌≤◌, true, false, List, length, get_or, refl, sym, ap, ◌∙◌, arith}
use Rattle.std.specs.Prelude.{nat_lt, slice_get, Option, Some, None, map, Contains, MatchOption, position, ◌==◌}
use Rattle.std.specs.List.{range_with_len}
use Rattle.std.specs.Option.{option_map_or}
use Rattle.std.proofs.lemmas.List.FromFn.{get_or-map-range_with_len, get_or-range_with_len}
use Rattle.std.proofs.lemmas.Bool.{cond-true, cond-false}
use Rattle.std.proofs.lemmas.Bool.Decides.{nat_tests}
use Rattle.std.proofs.lemmas.Option.{slice_get_cases, slice_get-get_or}
use Rattle.std.proofs.lemmas.Grind.{get_or_default_zero}
use Rattle.std.proofs.lemmas.List.Quantifiers.{position-Some}
use Rattle.ebcdic_names.specs.CodePage.{ascii_of, ebcdic_of, code_page}

table : map (λ m. ascii_of (get_or code_page m 0)) (range_with_len 0 95) ≡ range_with_len 32 95
unfolding ascii_of code_page
table = refl

page_len : length code_page ≡ 95
unfolding code_page
page_len = refl

is_low : (c : ℕ) → c < 32 → nat_lt c 32 ≡ true
is_low c h = grind (arith, nat_tests)

is_not_low : (c : ℕ) → 32 ≤ c → nat_lt c 32 ≡ false
is_not_low c h = grind (arith, nat_tests)

-- below the blank there is no byte
pub none_low : (c : ℕ) → c < 32 → ebcdic_of c ≡ None
none_low c h = cond-true (nat_lt c 32) None (slice_get code_page (c - 32)) (is_low c h)

none_past : (k : ℕ) → 95 ≤ k → slice_get code_page k ≡ None
none_past k h = elim (slice_get_cases code_page k).1 [ inl within ↦ absurd (omega (arith, within.1, page_len)) | inr past ↦ past.1 ]

-- nor above the tilde
pub none_high : (c : ℕ) → 127 ≤ c → ebcdic_of c ≡ None
none_high c h = cond-false (nat_lt c 32) None (slice_get code_page (c - 32)) (is_not_low c (omega arith)) ∙ none_past (c - 32) (omega arith)

-- between the two it is that of the table
pub some_byte : (c : ℕ) → 32 ≤ c → c < 127 → ebcdic_of c ≡ Some (get_or code_page (c - 32) 0)
some_byte c low high =
    cond-false (nat_lt c 32) None (slice_get code_page (c - 32)) (is_not_low c low)
    ∙ slice_get-get_or code_page (c - 32) 0 (omega (arith, page_len))

-- the character of a byte of the table has that byte
pub ascii_at : (k : ℕ) → k < 95 → ascii_of (get_or code_page k 0) ≡ 32 + k
ascii_at k h = sym (get_or-map-range_with_len (λ m. ascii_of (get_or code_page m 0)) 0 95 k k 0 h (omega arith)) ∙ ap (λ (l : List ℕ). get_or l k 0) table ∙ get_or-range_with_len 32 95 k 0 h

-- the byte of a printable character has that character
pub ascii_of-ebcdic_of : (c : ℕ) → 32 ≤ c → c < 127 → MatchOption (ebcdic_of c) ⊥ (λ e. ascii_of e ≡ c)
ascii_of-ebcdic_of c low high =
    let P : Option ℕ → Type 0 = λ o. MatchOption o ⊥ (λ e. ascii_of e ≡ c) in
    let same : 32 + (c - 32) ≡ c = omega (arith, low) in
    subst P (sym (some_byte c low high)) (ascii_at (c - 32) (omega (arith, low, high)) ∙ same)

-- the character of a byte of the code page has that byte
pub ebcdic_of-ascii_of : (e : ℕ) → Contains code_page e → ebcdic_of (ascii_of e) ≡ Some e
ebcdic_of-ascii_of e (k, within, is) =
    let zero : get_or code_page k 0 ≡ e = sym (get_or_default_zero code_page k e within) ∙ is in
    let low : k < 95 = omega (arith, within, page_len) in
    let at : 32 + k - 32 ≡ k = omega arith in
    ap ebcdic_of (ap ascii_of (sym zero) ∙ ascii_at k low)
    ∙ some_byte (32 + k) (omega arith) (omega (arith, low))
    ∙ ap (λ (i : ℕ). Some (get_or code_page i 0)) at
    ∙ ap (λ (x : ℕ). Some x) zero

-- each of the 95 printable characters has a byte, and the two ways of the code page undo one another
pub code_page_law : ((c : ℕ) → 32 ≤ c → c < 127 → MatchOption (ebcdic_of c) ⊥ (λ e. ascii_of e ≡ c)) × ((e : ℕ) → Contains code_page e → ebcdic_of (ascii_of e) ≡ Some e)
code_page_law = (ascii_of-ebcdic_of, ebcdic_of-ascii_of)

-- a character of the code page is printable ASCII
pub ascii_bound : (e : ℕ) → ascii_of e < 128
unfolding ascii_of
ascii_bound e =
    let P : Option ℕ → Type 0 = λ o. (position (λ b. b == e) code_page ≡ o) → option_map_or (λ k. 32 + k) o 46 < 128 in
    let all : (o : Option ℕ) → P o = λ o. elim o as P [ None ↦ λ h. omega arith | Some k ↦ λ h. omega (arith, (position-Some (λ b. b == e) code_page k 0 h).0, page_len) ] in
    all (position (λ b. b == e) code_page) refl
