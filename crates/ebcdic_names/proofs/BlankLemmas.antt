-- A name and the blanks after it.
use Rattle.std.proofs.Common.{◌≡◌, ◌≢◌, ℕ, suc, ◌-◌, Bool, true, false, cond, eqb, List, [], ◌∷◌, ◌++◌, length, replicate, take, reverse, length-append, refl, sym, ap, ◌∙◌, arith}
use Rattle.std.specs.Prelude.{◌&&◌}
use Rattle.std.specs.List.{take_while}
use Rattle.std.proofs.lemmas.Bool.{cond-false}
use Rattle.std.proofs.lemmas.Bool.Decides.{nat_tests}
use Rattle.std.proofs.lemmas.List.{reverse-reverse, length-reverse, take_all, take-append-le}
use Rattle.std.proofs.lemmas.List.Sums.{take_while-cons}
use Rattle.std.proofs.lemmas.Grind.{common_steps, reverse_onto}
use Rattle.ebcdic_names.specs.Names.{are_blanks, without_blanks}

-- blanks alone are as many blanks
blanks_alone : (bs : List ℕ) → are_blanks bs ≡ true → bs ≡ replicate (length bs) 64
blanks_alone [] h = refl
blanks_alone (b ∷ bs) h = grind (arith, common_steps, nat_tests, blanks_alone bs)

-- the cases of a front byte
front_cases : (P : List ℕ → Type 0) (b : ℕ) (bs : List ℕ)
    → (are_blanks (b ∷ bs) ≡ true → P [])
    → (are_blanks (b ∷ bs) ≡ false → P (b ∷ without_blanks bs))
    → P (without_blanks (b ∷ bs))
front_cases P b bs blank more =
    let Q : Bool → Type 0 = λ v. are_blanks (b ∷ bs) ≡ v → P (cond v [] (b ∷ without_blanks bs)) in
    let all : (v : Bool) → Q v = λ v. elim v as Q [ true ↦ blank | false ↦ more ] in
    all (are_blanks (b ∷ bs)) refl

-- bytes are a name and blanks alone after it
pub without_blanks-blanks : (bs : List ℕ) → bs ≡ without_blanks bs ++ replicate (length bs - length (without_blanks bs)) 64
without_blanks-blanks [] = refl
without_blanks-blanks (b ∷ bs) =
    front_cases (λ w. b ∷ bs ≡ w ++ replicate (length (b ∷ bs) - length w) 64) b bs
    (λ h. blanks_alone (b ∷ bs) h ∙ ap (λ (n : ℕ). replicate {A = ℕ} n 64) (let e : length (b ∷ bs) ≡ length (b ∷ bs) - 0 = omega arith in e))
    (λ h. ap (λ (l : List ℕ). b ∷ l) (without_blanks-blanks bs ∙ ap (λ (n : ℕ). without_blanks bs ++ replicate {A = ℕ} n 64) (let e : length bs - length (without_blanks bs) ≡ suc (length bs) - suc (length (without_blanks bs)) = omega arith in e)))

-- a name with no bytes has blanks alone
empty_blank : (bs : List ℕ) → without_blanks bs ≡ [] → are_blanks bs ≡ true
empty_blank [] = λ h. refl
empty_blank (b ∷ bs) = front_cases (λ w. w ≡ [] → are_blanks (b ∷ bs) ≡ true) b bs (λ h e. h) (λ h e. cc)

-- the name doesn't end with a blank
pub without_blanks-end : (bs front : List ℕ) → without_blanks bs ≢ front ++ 64 ∷ []
without_blanks-end [] [] = λ e. cc
without_blanks-end [] (f ∷ front) = λ e. cc
without_blanks-end (b ∷ bs) [] =
    front_cases (λ w. w ≢ 64 ∷ []) b bs (λ h e. cc) (λ h e. let rest : without_blanks bs ≡ [] = cc in let first : b ≡ 64 = cc in let blank = empty_blank bs rest in grind (arith, nat_tests))
without_blanks-end (b ∷ bs) (f ∷ front) =
    front_cases (λ w. w ≢ f ∷ (front ++ 64 ∷ [])) b bs (λ h e. cc) (λ h e. let rest : without_blanks bs ≡ front ++ 64 ∷ [] = cc in without_blanks-end bs front rest)

-- a blank after other bytes
same_blanks : (bs : List ℕ) → are_blanks (bs ++ 64 ∷ []) ≡ are_blanks bs
same_blanks [] = refl
same_blanks (b ∷ bs) = ap (λ (v : Bool). eqb b 64 && v) (same_blanks bs)

push_blank : (bs : List ℕ) → without_blanks (bs ++ 64 ∷ []) ≡ without_blanks bs
push_blank [] = refl
push_blank (b ∷ bs) =
    ap (λ (v : Bool). cond (eqb b 64 && v) [] (b ∷ without_blanks (bs ++ 64 ∷ []))) (same_blanks bs)
    ∙ ap (λ (w : List ℕ). cond (are_blanks (b ∷ bs)) [] (b ∷ w)) (push_blank bs)

-- another byte after them
and_false : (v : Bool) → (v && false) ≡ false
and_false true = refl
and_false false = refl

no_blanks : (bs : List ℕ) (x : ℕ) → eqb x 64 ≡ false → are_blanks (bs ++ x ∷ []) ≡ false
no_blanks [] x h = ap (λ (v : Bool). v && true) h
no_blanks (b ∷ bs) x h = ap (λ (v : Bool). eqb b 64 && v) (no_blanks bs x h) ∙ and_false (eqb b 64)

push_other : (bs : List ℕ) (x : ℕ) → eqb x 64 ≡ false → without_blanks (bs ++ x ∷ []) ≡ bs ++ x ∷ []
push_other [] x h = ap (λ (v : Bool). cond (v && true) [] (x ∷ [])) h
push_other (b ∷ bs) x h =
    cond-false (are_blanks (b ∷ (bs ++ x ∷ []))) [] (b ∷ without_blanks (bs ++ x ∷ [])) (no_blanks (b ∷ bs) x h)
    ∙ ap (λ (l : List ℕ). b ∷ l) (push_other bs x h)

-- the blanks are found from the end
counted : (ys : List ℕ) → without_blanks (reverse ys) ≡ take (length ys - length (take_while (λ b. eqb b 64) ys)) (reverse ys)
counted [] = refl
counted (y ∷ ys) =
    let Q : Bool → Type 0 = λ v. eqb y 64 ≡ v → without_blanks (reverse ys ++ y ∷ []) ≡ take (suc (length ys) - length (cond v (y ∷ take_while (λ (b : ℕ). eqb b 64) ys) [])) (reverse ys ++ y ∷ []) in
    let all : (v : Bool) → Q v = λ v. elim v as Q [
      | true ↦ λ h.
          let is : y ≡ 64 = grind (arith, nat_tests) in
          let fewer : length ys - length (take_while (λ (b : ℕ). eqb b 64) ys) ≡ suc (length ys) - suc (length (take_while (λ (b : ℕ). eqb b 64) ys)) = omega arith in
          ap (λ (x : ℕ). without_blanks (reverse ys ++ x ∷ [])) is
          ∙ push_blank (reverse ys)
          ∙ counted ys
          ∙ ap (λ (n : ℕ). take n (reverse ys)) fewer
          ∙ sym (take-append-le (suc (length ys) - suc (length (take_while (λ (b : ℕ). eqb b 64) ys))) (reverse ys) (y ∷ []) (omega (arith, length-reverse ys)))
      | false ↦ λ h. push_other (reverse ys) y h ∙ sym (take_all (suc (length ys) - 0) (reverse ys ++ y ∷ []) (omega (arith, length-append (reverse ys) (y ∷ []), length-reverse ys)))
    ] in
    rw (reverse_onto ys y [], take_while-cons (λ (b : ℕ). eqb b 64) y ys) (all (eqb y 64) refl)

-- what is left where as many bytes are cut off as blanks are found from the end
pub without_blanks-take : (bs : List ℕ) → without_blanks bs ≡ take (length bs - length (take_while (λ b. eqb b 64) (reverse bs))) bs
without_blanks-take bs = simp (reverse-reverse, length-reverse) at (counted (reverse bs))
