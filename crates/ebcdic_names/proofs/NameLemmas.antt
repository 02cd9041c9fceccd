-- The scan of a name against the faults of its levels.
use Rattle.std.proofs.Common.{inl, inr, nat_lt, ◌≡◌, ◌≢◌, ℕ, ◌+◌, ◌<◌, ◌≤◌, Bool, true, false, cond, eqb, List, [], ◌∷◌, ◌++◌, length, get_or, drop, refl, sym, ap, ◌∙◌, arith, append-nil, append_assoc}
use Rattle.std.specs.Prelude.{◌==◌, slice_get, Option, Some, None}
use Rattle.std.proofs.lemmas.List.{at_drop_more, at_drop_all, length_push}
use Rattle.std.proofs.lemmas.Option.{none-some}
use Rattle.std.proofs.lemmas.Bool.{cond-true, cond-false, cases_lt}
use Rattle.ebcdic_names.specs.Names.{char_faults, char_faults_from, ends_level, level_fault, levels_faults, levels, name_fault, onto_first, serial_allows, serial_faults}
use Rattle.ebcdic_names.specs.declared.names.NameForm.{NameForm}
use Rattle.ebcdic_names.specs.declared.names.NameForm.TheVariants.{OneLevel}
use Rattle.ebcdic_names.specs.declared.names.NameErr.{NameErr}
use Rattle.ebcdic_names.specs.declared.names.NameErr.TheVariants.{BadLevel, BadChar, Empty, TooLong}

-- the faults of the characters of level k from its i-th on, which may be none
abbrev pub level_rest : NameForm → ℕ → ℕ → ℕ → List ℕ → List NameErr
level_rest j k i o [] = cond (eqb i 0) (BadLevel k ∷ []) []
level_rest j k i o (c ∷ cs) = char_faults_from j k i o (c ∷ cs)

-- the faults from character i of level k on
abbrev pub rest_faults : NameForm → ℕ → ℕ → ℕ → List (List ℕ) → List NameErr
rest_faults j k i o [] = []
rest_faults j k i o (l ∷ ls) = level_rest j k i o l ++ levels_faults j (k + 1) (o + length l + 1) ls

-- the first of them
abbrev pub rest_fault : NameForm → ℕ → ℕ → ℕ → List ℕ → Option NameErr
rest_fault j k i o cs = slice_get (rest_faults j k i o (levels j cs)) 0

-- at its first character nothing of a level is judged yet
pub rest_whole : (j : NameForm) (k o : ℕ) (ls : List (List ℕ)) → rest_faults j k 0 o ls ≡ levels_faults j k o ls
rest_whole j k o [] = refl
rest_whole j k o ([] ∷ ls) = refl
rest_whole j k o ((c ∷ cs) ∷ ls) = refl

not_zero : (i : ℕ) → i ≢ 0 → eqb i 0 ≡ false
not_zero i n = grind arith

-- after its first character a level isn't empty
level_rest_more : (j : NameForm) (k i o : ℕ) (l : List ℕ) → level_rest j k (i + 1) o l ≡ char_faults_from j k (i + 1) o l
level_rest_more j k i o [] = ap (λ (b : Bool). cond b (BadLevel k ∷ []) []) (not_zero (i + 1) (λ e. omega (arith, e)))
level_rest_more j k i o (c ∷ cs) = refl

onto : (j : NameForm) (k i o c : ℕ) (ls : List (List ℕ)) → rest_faults j k i o (onto_first c ls) ≡ char_faults j k i o c ++ rest_faults j k (i + 1) (o + 1) ls
onto j k i o c [] = append-nil _
onto j k i o c (l ∷ ls) =
    let place : o + length (c ∷ l) + 1 ≡ (o + 1) + length l + 1 = omega arith in
    append_assoc (char_faults j k i o c) (char_faults_from j k (i + 1) (o + 1) l) (levels_faults j (k + 1) (o + length (c ∷ l) + 1) ls)
    ∙ ap (λ (r : List NameErr). char_faults j k i o c ++ (r ++ levels_faults j (k + 1) (o + length (c ∷ l) + 1) ls)) (sym (level_rest_more j k i (o + 1) l))
    ∙ ap (λ (p : ℕ). char_faults j k i o c ++ (level_rest j k (i + 1) (o + 1) l ++ levels_faults j (k + 1) p ls)) place

-- the next character of those left
next_char : (j : NameForm) (k i o c : ℕ) (cs : List ℕ) → (o < length cs) × (c ≡ get_or cs o c) → rest_fault j k i o (drop o cs) ≡ rest_fault j k i o (c ∷ drop (o + 1) cs)
next_char j k i o c cs h = at_drop_more (rest_fault j k i o) cs o c h.0 ∙ ap (λ (x : ℕ). rest_fault j k i o (x ∷ drop (o + 1) cs)) (sym h.1)

-- a character that parts no levels
at_char : (j : NameForm) (k i o c : ℕ) (cs : List ℕ) → (o < length cs) × (c ≡ get_or cs o c) → ends_level j c ≡ false
    → rest_fault j k i o (drop o cs) ≡ slice_get (char_faults j k i o c ++ rest_faults j k (i + 1) (o + 1) (levels j (drop (o + 1) cs))) 0
at_char j k i o c cs turn e =
    next_char j k i o c cs turn
    ∙ ap (λ (ls : List (List ℕ)). slice_get (rest_faults j k i o ls) 0) (cond-false (ends_level j c) ([] ∷ levels j (drop (o + 1) cs)) (onto_first c (levels j (drop (o + 1) cs))) e)
    ∙ ap (λ (fs : List NameErr). slice_get fs 0) (onto j k i o c (levels j (drop (o + 1) cs)))

some_none : (x : NameErr) → Some x ≡ None → ⊥
some_none x h = none-some x (sym h)

-- the first fault of two lists
some_first : (xs ys : List NameErr) (f : NameErr) → slice_get xs 0 ≡ Some f → slice_get (xs ++ ys) 0 ≡ Some f
some_first [] ys f h = absurd (some_none f (sym h))
some_first (x ∷ xs) ys f h = h

none_first : (xs ys : List NameErr) → slice_get xs 0 ≡ None → slice_get (xs ++ ys) 0 ≡ slice_get ys 0
none_first [] ys h = refl
none_first (x ∷ xs) ys h = absurd (some_none x h)

-- a character with a fault
pub at_fault : (j : NameForm) (k i o c : ℕ) (cs : List ℕ) (f : NameErr) → (o < length cs) × (c ≡ get_or cs o c) → ends_level j c ≡ false → slice_get (char_faults j k i o c) 0 ≡ Some f
    → rest_fault j k i o (drop o cs) ≡ Some f
at_fault j k i o c cs f turn e h = at_char j k i o c cs turn e ∙ some_first (char_faults j k i o c) _ f h

-- the ninth character has a fault
pub not_ninth : (j : NameForm) (k i o c : ℕ) → slice_get (char_faults j k i o c) 0 ≡ None → i ≢ 8
unfolding char_faults
not_ninth j k i o c h n = some_none (BadLevel k) (sym (ap (λ (m : ℕ). slice_get (char_faults j k m o c) 0) n) ∙ h)

period_parts : (j : NameForm) (k i o c : ℕ) (cs : List ℕ) → (o < length cs) × (c ≡ get_or cs o c) → ends_level j c ≡ true
    → rest_fault j k i o (drop o cs) ≡ slice_get (cond (eqb i 0) (BadLevel k ∷ []) [] ++ levels_faults j (k + 1) (o + 1) (levels j (drop (o + 1) cs))) 0
period_parts j k i o c cs turn e =
    next_char j k i o c cs turn
    ∙ ap (λ (ls : List (List ℕ)). slice_get (rest_faults j k i o ls) 0) (cond-true (ends_level j c) ([] ∷ levels j (drop (o + 1) cs)) (onto_first c (levels j (drop (o + 1) cs))) e)
    ∙ ap (λ (p : ℕ). slice_get (cond (eqb i 0) (BadLevel k ∷ []) [] ++ levels_faults j (k + 1) (p + 1) (levels j (drop (o + 1) cs))) 0) (let same : o + 0 ≡ o = omega arith in same)

-- a period after an empty level
pub at_empty : (j : NameForm) (k i o c : ℕ) (cs : List ℕ) → (o < length cs) × (c ≡ get_or cs o c) → ends_level j c ≡ true → i ≡ 0 → rest_fault j k i o (drop o cs) ≡ Some (BadLevel k)
at_empty j k i o c cs turn e n =
    period_parts j k i o c cs turn e
    ∙ ap (λ (m : ℕ). slice_get (cond (eqb m 0) (BadLevel k ∷ []) [] ++ levels_faults j (k + 1) (o + 1) (levels j (drop (o + 1) cs))) 0) n

-- the end of the text after an empty level
pub at_end_empty : (j : NameForm) (k i o : ℕ) → i ≡ 0 → rest_fault j k i o [] ≡ Some (BadLevel k)
at_end_empty j k i o n = ap (λ (m : ℕ). slice_get (cond (eqb m 0) (BadLevel k ∷ []) [] ++ []) 0) n

-- the end of the text after a level
pub at_end : (j : NameForm) (k i o : ℕ) → i ≢ 0 → rest_fault j k i o [] ≡ None
at_end j k i o n = ap (λ (b : Bool). slice_get (cond b (BadLevel k ∷ []) [] ++ []) 0) (not_zero i n)

-- what is left after a period
pub after_period : (j : NameForm) (k i k' i' o c : ℕ) (cs : List ℕ) (fault : Option NameErr)
    → (o < length cs) × (c ≡ get_or cs o c) → ends_level j c ≡ true → i ≢ 0 → k' ≡ k + 1 → i' ≡ 0
    → rest_fault j k i o (drop o cs) ≡ fault → rest_fault j k' i' (o + 1) (drop (o + 1) cs) ≡ fault
after_period j k i k' i' o c cs fault turn e n level start before =
    rw (level, start) (ap (λ (fs : List NameErr). slice_get fs 0) (rest_whole j (k + 1) (o + 1) (levels j (drop (o + 1) cs))))
    ∙ sym (ap (λ (b : Bool). slice_get (cond b (BadLevel k ∷ []) [] ++ levels_faults j (k + 1) (o + 1) (levels j (drop (o + 1) cs))) 0) (not_zero i n))
    ∙ sym (period_parts j k i o c cs turn e)
    ∙ before

-- what is left after a character with no fault
pub after_char : (j : NameForm) (k i k' i' o c : ℕ) (cs : List ℕ) (fault : Option NameErr)
    → (o < length cs) × (c ≡ get_or cs o c) → ends_level j c ≡ false → slice_get (char_faults j k i o c) 0 ≡ None → k' ≡ k → i' ≡ i + 1
    → rest_fault j k i o (drop o cs) ≡ fault → rest_fault j k' i' (o + 1) (drop (o + 1) cs) ≡ fault
after_char j k i k' i' o c cs fault turn e none level start before =
    rw (level, start) (sym (none_first (char_faults j k i o c) _ none)) ∙ sym (at_char j k i o c cs turn e) ∙ before

-- what is left at the end
pub nothing_left : (j : NameForm) (k i : ℕ) (cs : List ℕ) (n : ℕ) (fault : Option NameErr) → n ≡ length cs → rest_fault j k i n (drop n cs) ≡ fault → rest_fault j k i n [] ≡ fault
nothing_left j k i cs n fault all before = sym (at_drop_all (rest_fault j k i n) cs n (omega (arith, all))) ∙ before

-- an empty list of faults and its parts
none_left : (xs ys : List NameErr) → slice_get (xs ++ ys) 0 ≡ None → slice_get xs 0 ≡ None
none_left [] ys h = refl
none_left (x ∷ xs) ys h = h

none_right : (xs ys : List NameErr) → slice_get (xs ++ ys) 0 ≡ None → slice_get ys 0 ≡ None
none_right [] ys h = h
none_right (x ∷ xs) ys h = absurd (some_none x h)

-- nine characters have a fault
long_level : (j : NameForm) (k i o : ℕ) (cs : List ℕ) → i ≤ 8 → 9 ≤ i + length cs → slice_get (char_faults_from j k i o cs) 0 ≡ None → ⊥
long_level j k i o [] low high h = let n : 9 ≤ i + 0 = high in omega (arith, n)
long_level j k i o (c ∷ cs) low high h =
    elim (cases_lt i 8) [
      | inl less ↦ long_level j k (i + 1) (o + 1) cs (omega (arith, less)) (omega (arith, high)) (none_right (char_faults j k i o c) _ h)
      | inr more ↦ not_ninth j k i o c (none_left (char_faults j k i o c) _ h) (omega (arith, more))
    ]

one_level : (cs : List ℕ) → levels OneLevel cs ≡ cs ∷ []
one_level [] = refl
one_level (c ∷ cs) = ap (λ (ls : List (List ℕ)). onto_first c ls) (one_level cs)

skip : (b : Bool) (x : NameErr) (o : Option NameErr) → cond b (Some x) o ≡ None → o ≡ None
skip b x o = elim b as (λ v. cond v (Some x) o ≡ None → o ≡ None) [ true ↦ λ h. absurd (some_none x h) | false ↦ λ h. h ]

short_level : (cs : List ℕ) → slice_get (levels_faults OneLevel 0 0 (cs ∷ [])) 0 ≡ None → length cs ≤ 8
short_level [] h = omega arith
short_level (c ∷ cs) h =
    elim (cases_lt 8 (length (c ∷ cs))) [
      | inl more ↦ absurd (long_level OneLevel 0 0 0 (c ∷ cs) (omega arith) (omega (arith, more)) (none_left (char_faults_from OneLevel 0 0 0 (c ∷ cs)) [] h))
      | inr less ↦ less
    ]

-- a name of one level with no fault has up to eight characters
pub short_name : (cs : List ℕ) → name_fault OneLevel cs ≡ None → length cs ≤ 8
short_name cs h =
    let inner = skip (nat_lt 44 (length cs)) TooLong (level_fault OneLevel cs) (skip (length cs == 0) Empty _ h) in
    short_level cs (ap (λ (ls : List (List ℕ)). slice_get (levels_faults OneLevel 0 0 ls) 0) (sym (one_level cs)) ∙ inner)

-- the first fault of the serial's characters from the o-th on
abbrev pub serial_rest : ℕ → List ℕ → Option NameErr
serial_rest o cs = slice_get (serial_faults o cs) 0

pub serial_bad : (o c : ℕ) (cs : List ℕ) → serial_allows c ≡ false → serial_rest o (c ∷ cs) ≡ Some (BadChar o)
serial_bad o c cs h = ap (λ (b : Bool). slice_get (cond b [] (BadChar o ∷ []) ++ serial_faults (o + 1) cs) 0) h

serial_good : (o c : ℕ) (cs : List ℕ) → serial_allows c ≡ true → serial_rest o (c ∷ cs) ≡ serial_rest (o + 1) cs
serial_good o c cs h = ap (λ (b : Bool). slice_get (cond b [] (BadChar o ∷ []) ++ serial_faults (o + 1) cs) 0) h

-- the next character of those left
pub serial_next : (o : ℕ) (cs : List ℕ) (n c : ℕ) → (n < length cs) × (c ≡ get_or cs n c) → serial_rest o (drop n cs) ≡ serial_rest o (c ∷ drop (n + 1) cs)
serial_next o cs n c h = at_drop_more (serial_rest o) cs n c h.0 ∙ ap (λ (x : ℕ). serial_rest o (x ∷ drop (n + 1) cs)) (sym h.1)

-- what is left after a character that is allowed
pub after_serial_char : (cs ys : List ℕ) (c : ℕ) (fault : Option NameErr) → (length ys < length cs) × (c ≡ get_or cs (length ys) c) → serial_allows c ≡ true
    → serial_rest (length ys) (drop (length ys) cs) ≡ fault → serial_rest (length (ys ++ c ∷ [])) (drop (length (ys ++ c ∷ [])) cs) ≡ fault
after_serial_char cs ys c fault turn good before =
    ap (λ (m : ℕ). serial_rest m (drop m cs)) (length_push ys c)
    ∙ sym (serial_good (length ys) c (drop (length ys + 1) cs) good)
    ∙ sym (serial_next (length ys) cs (length ys) c turn)
    ∙ before

-- nothing is left at the end
pub serial_end : (cs : List ℕ) (n : ℕ) (fault : Option NameErr) → n ≡ length cs → serial_rest n (drop n cs) ≡ fault → None ≡ fault
serial_end cs n fault all before = sym (at_drop_all (serial_rest n) cs n (omega (arith, all))) ∙ before
