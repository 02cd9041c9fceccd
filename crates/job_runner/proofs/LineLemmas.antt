-- Names in lines.
use Rattle.std.proofs.Common.{◌≡◌, ◌<◌, ◌-◌, ℕ, zero, suc, Bool, true, false, List, [], ◌∷◌, ◌++◌, length, map, take, refl, sym, ◌∙◌, ap, arith, append_assoc}
use Rattle.std.proofs.lemmas.Bool.Decides.{nat_tests}
use Rattle.std.specs.Fmt.{decimal}
use Rattle.std.specs.Prelude.{Some, None, Result, Ok, Err, OnOk, is_ok, replicate, ◌==◌, if◌then◌else◌}
use Rattle.ebcdic_names.specs.CodePage.{ascii_of}
use Rattle.ebcdic_names.specs.Names.{shown, without_blanks}
use Rattle.ebcdic_names.specs.declared.names.Name8.{Name8}
use Rattle.job_runner.specs.Lines.{code_digits, name_text, or_hyphen}

-- a blank name
pub hyphen_for : (name : Name8) → length (without_blanks name.bytes) ≡ 0 → name_text None ≡ name_text (Some name)
unfolding name_text shown
hyphen_for name none = by_list (without_blanks name.bytes) none
  where
    by_list : (l : List ℕ) → length l ≡ 0 → name_text None ≡ or_hyphen (map ascii_of l)
    by_list [] none = refl
    by_list (c ∷ l) none = absurd (omega (arith, none))

-- another
pub shown_for : (name : Name8) → 0 < length (without_blanks name.bytes) → shown name.bytes ≡ name_text (Some name)
unfolding name_text shown
shown_for name some = by_list (without_blanks name.bytes) some
  where
    by_list : (l : List ℕ) → 0 < length l → map ascii_of l ≡ or_hyphen (map ascii_of l)
    by_list [] some = absurd (omega (arith, some))
    by_list (c ∷ l) some = refl

pub on_ok : {T E : Type 0} {P Q : Type 0} (r : Result T E) → (P → Q) → OnOk r P → OnOk r Q
on_ok (Ok x) f p = f p
on_ok (Err e) f p = tt

-- a text that was extended, where there was memory
pub extended : {T E : Type 0} (r : Result T E) (new base more all : List ℕ) → new ≡ (if is_ok r then base ++ more else base) → base ++ more ≡ all → OnOk r (new ≡ all)
extended (Ok x) new base more all is so = is ∙ so
extended (Err e) new base more all is so = tt

-- what the test for no bytes says
pub none_of : (l m : List ℕ) (r : Bool) → r ≡ (length l == 0) → l ≡ m → r ≡ true → length m ≡ 0
none_of l m r is same so = let e : length l ≡ 0 = grind (arith, nat_tests, is, so) in ap length (sym same) ∙ e

pub some_of : (l m : List ℕ) (r : Bool) → r ≡ (length l == 0) → l ≡ m → r ≡ false → 0 < length m
some_of l m r is same so = let e : 0 < length l = grind (arith, nat_tests, is, so) in omega (arith, e, ap length same)

abbrev pub four_zeros : List ℕ
four_zeros = 48 ∷ 48 ∷ 48 ∷ 48 ∷ []

-- zeros in front of digits
zeros : (n : ℕ) → take (4 - n) four_zeros ≡ replicate (4 - n) 48
zeros zero = refl
zeros (suc zero) = refl
zeros (suc (suc zero)) = refl
zeros (suc (suc (suc zero))) = refl
zeros (suc (suc (suc (suc n)))) = let none : 4 - suc (suc (suc (suc n))) ≡ 0 = omega arith in ap (λ (k : ℕ). take k four_zeros) none ∙ sym (ap (λ (k : ℕ). replicate k 48) none)

pub code_parts : (line mid digits : List ℕ) (code k : ℕ) → digits ≡ decimal code → k ≡ 4 - length digits → mid ≡ line ++ take k four_zeros → mid ++ digits ≡ line ++ code_digits code
unfolding code_digits
code_parts line mid digits code k is count parts =
    let front : take k four_zeros ≡ replicate (4 - length (decimal code)) 48 =
    ap (λ (i : ℕ). take i four_zeros) (let e : k ≡ 4 - length (decimal code) = omega (arith, count, ap length is) in e) ∙ zeros (length (decimal code)) in
    ap (λ (l : List ℕ). l ++ digits) (parts ∙ ap (λ (z : List ℕ). line ++ z) front) ∙ append_assoc line (replicate (4 - length (decimal code)) 48) digits
    ∙ ap (λ (d : List ℕ). line ++ (replicate (4 - length (decimal code)) 48 ++ d)) is
