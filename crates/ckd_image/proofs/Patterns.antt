-- How a pattern's first break is found, place by place.
use Rattle.std.proofs.Common.{◌≡◌, ◌≢◌, ◌+◌, ◌<◌, ◌≤◌, ℕ, suc, List, [], ◌∷◌, length, drop, get_or, Option, Some, None, refl, ap, ◌∙◌, arith}
use Rattle.std.proofs.lemmas.List.{drop_all, drop_more}
use Rattle.std.proofs.lemmas.Bool.{ne_eqb, eq-eqb, cond-true, cond-false}
use Rattle.std.specs.Option.{option_map}
use Rattle.ckd_image.specs.Break.{pattern_break}
use Rattle.ckd_image.proofs.Counts.{option_map-zero}

-- a break in what is left, counted from the front
abbrev pub break_from : ℕ → List (Option ℕ) → List ℕ → Option ℕ
break_from i pattern bytes = option_map (λ k. i + k) (pattern_break (drop i pattern) (drop i bytes))

-- counting on by one more
option_map-suc : (i : ℕ) (o : Option ℕ) → option_map (λ k. i + k) (option_map suc o) ≡ option_map (λ k. i + 1 + k) o
option_map-suc i None = refl
option_map-suc i (Some k) = let e : i + suc k ≡ i + 1 + k = omega arith in ap Some e

-- nothing is skipped at the front
pub break_from-zero : (pattern : List (Option ℕ)) (bytes : List ℕ) → pattern_break pattern bytes ≡ break_from 0 pattern bytes
break_from-zero pattern bytes = option_map-zero (pattern_break pattern bytes)

-- what is left, as its first place and the rest
at_place : (i : ℕ) (p : Option ℕ) (pattern : List (Option ℕ)) (bytes : List ℕ) → i < length pattern → i < length bytes → get_or pattern i None ≡ p → pattern_break (drop i pattern) (drop i bytes) ≡ pattern_break (p ∷ drop (i + 1) pattern) (get_or bytes i 0 ∷ drop (i + 1) bytes)
at_place i p pattern bytes h l e = rw (drop_more pattern i None h, drop_more bytes i 0 l, e) refl

-- a place that is judged, or not
judged : (x b : ℕ) (pattern : List (Option ℕ)) (bytes : List ℕ) → b ≢ x → pattern_break (Some x ∷ pattern) (b ∷ bytes) ≡ Some 0
unfolding pattern_break
judged x b pattern bytes n = cond-false _ _ _ (ne_eqb b x n)

same : (x b : ℕ) (pattern : List (Option ℕ)) (bytes : List ℕ) → b ≡ x → pattern_break (Some x ∷ pattern) (b ∷ bytes) ≡ option_map suc (pattern_break pattern bytes)
unfolding pattern_break
same x b pattern bytes e = cond-true _ _ _ (eq-eqb b x e)

free : (b : ℕ) (pattern : List (Option ℕ)) (bytes : List ℕ) → pattern_break (None ∷ pattern) (b ∷ bytes) ≡ option_map suc (pattern_break pattern bytes)
unfolding pattern_break
free b pattern bytes = refl

runs_out : (p : Option ℕ) (pattern : List (Option ℕ)) → pattern_break (p ∷ pattern) [] ≡ Some 0
unfolding pattern_break
runs_out p pattern = refl

-- the break is at this place
here : (i : ℕ) (pattern : List (Option ℕ)) (bytes : List ℕ) → pattern_break (drop i pattern) (drop i bytes) ≡ Some 0 → break_from i pattern bytes ≡ Some i
here i pattern bytes e = let z : i + 0 ≡ i = omega arith in ap (option_map (λ k. i + k)) e ∙ ap Some z

-- the bytes run out
pub break_from-short : (i : ℕ) (pattern : List (Option ℕ)) (bytes : List ℕ) → i < length pattern → length bytes ≤ i → break_from i pattern bytes ≡ Some i
break_from-short i pattern bytes h l = here i pattern bytes (rw (drop_more pattern i None h, drop_all i bytes l) (runs_out _ _))

-- a byte isn't the pattern's
pub break_from-apart : (i x : ℕ) (pattern : List (Option ℕ)) (bytes : List ℕ) → i < length pattern → i < length bytes → get_or pattern i None ≡ Some x → get_or bytes i 0 ≢ x → break_from i pattern bytes ≡ Some i
break_from-apart i x pattern bytes h l p n = here i pattern bytes (at_place i (Some x) pattern bytes h l p ∙ judged x (get_or bytes i 0) _ _ n)

-- a byte that isn't judged
pub break_from-free : (i : ℕ) (pattern : List (Option ℕ)) (bytes : List ℕ) → i < length pattern → i < length bytes → get_or pattern i None ≡ None → break_from i pattern bytes ≡ break_from (i + 1) pattern bytes
break_from-free i pattern bytes h l p =
    ap (option_map (λ k. i + k)) (at_place i None pattern bytes h l p ∙ free (get_or bytes i 0) _ _) ∙ option_map-suc i _

-- a byte that is the pattern's
pub break_from-same : (i x : ℕ) (pattern : List (Option ℕ)) (bytes : List ℕ) → i < length pattern → i < length bytes → get_or pattern i None ≡ Some x → get_or bytes i 0 ≡ x → break_from i pattern bytes ≡ break_from (i + 1) pattern bytes
break_from-same i x pattern bytes h l p e =
    ap (option_map (λ k. i + k)) (at_place i (Some x) pattern bytes h l p ∙ same x (get_or bytes i 0) _ _ e) ∙ option_map-suc i _

-- the pattern is at its end
pub break_from-end : (i : ℕ) (pattern : List (Option ℕ)) (bytes : List ℕ) → length pattern ≤ i → break_from i pattern bytes ≡ None
unfolding pattern_break
break_from-end i pattern bytes h = rw (drop_all i pattern h) refl
