-- A list has one cut.
use Rattle.std.proofs.Common.{◌≡◌, ℕ, ◌+◌, ◌<◌, ◌≤◌, List, [], ◌∷◌, ◌++◌, refl, ap, sym, ◌∙◌, arith, length, append-nil}
use Rattle.std.proofs.lemmas.List.{append_cancel_left}
use Rattle.chain_spec.specs.Cut.{AllFit, IsCut, IsFull, first_size, total}
use Rattle.chain_spec.specs.Kept.{joined}

module _ {E : Type 0} (size : E → ℕ) where
  pub total-append : (xs ys : List E) → total size (xs ++ ys) ≡ total size xs + total size ys
  total-append [] ys = omega arith
  total-append (e ∷ xs) ys = omega (arith, total-append xs ys)

  -- the first entries hold a list that fits, where they are full
  pub covers : (f s k g : List E) → k ++ g ≡ f ++ s → ((y : E) (r : List E) → s ≡ y ∷ r → total size k < total size f + size y) → (m : List E) × (f ≡ k ++ m) × (g ≡ m ++ s)
  covers f s [] g same full = (f, refl, same)
  covers [] s (x ∷ k) g same full = absurd (omega (arith, full x (k ++ g) (sym same)))
  covers (e ∷ f) s (x ∷ k) g same full =
      let first : x ≡ e = cc in
      let rest : k ++ g ≡ f ++ s = cc in
      let inner = covers f s k g rest (λ y r is. let outer = full y r is in let one : size x ≡ size e = ap size first in omega (arith, outer, one)) in
      (inner.0, cc (first, inner.1), inner.2)

  -- the size of the entry that leads these blocks is within all that stands in them and the end entry
  pub first_size_within : (end : ℕ) (c : List E) (cs : List (List E)) → first_size size end c cs ≤ total size (joined (c ∷ cs)) + end
  first_size_within end [] [] = omega arith
  first_size_within end [] (d ∷ ds) = omega arith
  first_size_within end (e ∷ c) cs = omega arith

  -- a block that is full could not take the first of what stands after it
  pub full_before : (room end : ℕ) (f c : List E) (cs : List (List E)) → room < total size f + first_size size end c cs → total size f ≤ room → IsFull size room end (c ∷ cs) → (y : E) (r : List E) → joined (c ∷ cs) ≡ y ∷ r → room < total size f + size y
  full_before room end f [] [] full fits later y r is = absurd (cc is)
  full_before room end f [] (d ∷ ds) full fits later y r is = absurd (omega (arith, full, fits))
  full_before room end f (e ∷ c) cs full fits later y r is = let first : e ≡ y = cc in let one : size e ≡ size y = ap size first in omega (arith, full, one)

  -- one block does not hold what is cut into two or more
  one_and_more : (room end : ℕ) (b f c : List E) (cs : List (List E)) → total size b + end ≤ room → room < total size f + first_size size end c cs → joined (b ∷ []) ≡ joined (f ∷ c ∷ cs) → ⊥
  one_and_more room end b f c cs fits full same =
      let sums : total size (b ++ []) ≡ total size (f ++ joined (c ∷ cs)) = ap (total size) same in
      omega (arith, sums, total-append b [], total-append f (joined (c ∷ cs)), first_size_within end c cs, full, fits)

  -- two lists of which each begins the other
  each_other : (a b m n : List E) → a ≡ b ++ m → b ≡ a ++ n → a ≡ b
  each_other a b [] n h k = h ∙ append-nil b
  each_other a b (x ∷ m) n h k = absurd (omega (arith, ap length h, ap length k, lengths b (x ∷ m), lengths a n))
    where
      lengths : (s t : List E) → length (s ++ t) ≡ length s + length t
      lengths [] t = omega arith
      lengths (e ∷ s) t = omega (arith, lengths s t)

  one_cut : (room end : ℕ) (xs ys : List (List E)) → AllFit size room end xs → IsFull size room end xs → AllFit size room end ys → IsFull size room end ys → joined xs ≡ joined ys → xs ≡ ys
  one_cut room end [] ys fits full from whole same = absurd fits
  one_cut room end xs [] fits full from whole same = absurd from
  one_cut room end (f ∷ []) (b ∷ []) fits full from whole same = ap (λ es. es ∷ []) (sym (append-nil f) ∙ same ∙ append-nil b)
  one_cut room end (f ∷ []) (b ∷ d ∷ ds) fits full from whole same = absurd (one_and_more room end f b d ds fits whole.0 same)
  one_cut room end (f ∷ c ∷ cs) (b ∷ []) fits full from whole same = absurd (one_and_more room end b f c cs from full.0 (sym same))
  one_cut room end (f ∷ c ∷ cs) (b ∷ d ∷ ds) fits full from whole same =
      let l = covers f (joined (c ∷ cs)) b (joined (d ∷ ds)) (sym same) (λ y r is. let h : room < total size f + size y = full_before room end f c cs full.0 fits.0 full.1 y r is in let less : total size b < total size f + size y = omega (arith, h, from.0) in less) in
      let r = covers b (joined (d ∷ ds)) f (joined (c ∷ cs)) same (λ y r is. let h : room < total size b + size y = full_before room end b d ds whole.0 from.0 whole.1 y r is in let less : total size f < total size b + size y = omega (arith, h, fits.0) in less) in
      let first : f ≡ b = each_other f b l.0 r.0 l.1 r.1 in
      let later : joined (c ∷ cs) ≡ joined (d ∷ ds) = append_cancel_left b (joined (c ∷ cs)) (joined (d ∷ ds)) (ap (λ es. es ++ joined (c ∷ cs)) (sym first) ∙ same) in
      let rest : c ∷ cs ≡ d ∷ ds = one_cut room end (c ∷ cs) (d ∷ ds) fits.1 full.1 from.1 whole.1 later in
      cc

  pub is_one_cut : (room end : ℕ) (xs ys : List (List E)) (es : List E) → IsCut size room end xs es → IsCut size room end ys es → xs ≡ ys
  is_one_cut room end xs ys es a b = one_cut room end xs ys a.fits a.full b.fits b.full (a.holds ∙ sym b.holds)
