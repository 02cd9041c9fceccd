-- Of fewer entries no more blocks are needed.
use Rattle.std.proofs.Common.{◌≡◌, ◌+◌, ◌≤◌, ℕ, suc, Bool, true, false, cond, List, [], ◌∷◌, filter, refl, arith}
use Rattle.std.proofs.lemmas.Bool.Decides.{nat_tests}
use Rattle.std.specs.Prelude.{nat_le}
use Rattle.chain_spec.specs.Cut.{needed, needed_from}

module _ {E : Type 0} (size : E → ℕ) (room end : ℕ) where
  abbrev blocks : ℕ → List E → ℕ
  blocks used es = needed_from size room end used es

  -- what is known of entries: more of the first block used means no fewer blocks, and at most one more is needed whatever is used
  pub record Bounds (es : List E) : Type 0 where
    pub more : (u v : ℕ) → u ≤ v → blocks u es ≤ blocks v es
    pub one : (u v : ℕ) → blocks u es ≤ suc (blocks v es)

  last_more : (u v : ℕ) (a b : Bool) → nat_le (u + end) room ≡ a → nat_le (v + end) room ≡ b → u ≤ v → cond a 1 2 ≤ cond b 1 2
  last_more u v true true p q le = omega arith
  last_more u v true false p q le = omega arith
  last_more u v false true p q le = let no = lower u v end room p q le in absurd no
    where
      lower : (u v e r : ℕ) → nat_le (u + e) r ≡ false → nat_le (v + e) r ≡ true → u ≤ v → ⊥
      lower u v e r p q le = grind (arith, nat_tests)
  last_more u v false false p q le = omega arith

  last_one : (a b : Bool) → cond a 1 2 ≤ suc (cond b 1 2)
  last_one true b = one_of b
    where
      one_of : (b : Bool) → 1 ≤ suc (cond b 1 2)
      one_of true = omega arith
      one_of false = omega arith
  last_one false true = omega arith
  last_one false false = omega arith

  step_more : (y u v : ℕ) (es : List E) → Bounds es → u ≤ v → (a b : Bool) → nat_le (u + y) room ≡ a → nat_le (v + y) room ≡ b
      → cond a (blocks (u + y) es) (suc (blocks y es)) ≤ cond b (blocks (v + y) es) (suc (blocks y es))
  step_more y u v es h le true true p q = h.more (u + y) (v + y) (omega arith)
  step_more y u v es h le true false p q = h.one (u + y) y
  step_more y u v es h le false true p q = let no = lower u v y room p q le in absurd no
    where
      lower : (u v e r : ℕ) → nat_le (u + e) r ≡ false → nat_le (v + e) r ≡ true → u ≤ v → ⊥
      lower u v e r p q le = grind (arith, nat_tests)
  step_more y u v es h le false false p q = omega arith

  step_one : (y u v : ℕ) (es : List E) → Bounds es → (a b : Bool) → cond a (blocks (u + y) es) (suc (blocks y es)) ≤ suc (cond b (blocks (v + y) es) (suc (blocks y es)))
  step_one y u v es h true true = h.one (u + y) (v + y)
  step_one y u v es h true false = let l = h.one (u + y) y in omega (arith, l)
  step_one y u v es h false true = let l = h.more y (v + y) (omega arith) in omega (arith, l)
  step_one y u v es h false false = omega arith

  pub bounds : (es : List E) → Bounds es
  bounds [] = record { more = λ u v le. last_more u v (nat_le (u + end) room) (nat_le (v + end) room) refl refl le; one = λ u v. last_one (nat_le (u + end) room) (nat_le (v + end) room) }
  bounds (e ∷ es) = record {
    more = λ u v le. step_more (size e) u v es (bounds es) le (nat_le (u + size e) room) (nat_le (v + size e) room) refl refl;
    one = λ u v. step_one (size e) u v es (bounds es) (nat_le (u + size e) room) (nat_le (v + size e) room);
  }

  first_gone : (y u : ℕ) (es : List E) (a : Bool) → blocks u es ≤ cond a (blocks (u + y) es) (suc (blocks y es))
  first_gone y u es true = (bounds es).more u (u + y) (omega arith)
  first_gone y u es false = (bounds es).one u y

  first_stays : (y u : ℕ) (fewer es : List E) → ((v : ℕ) → blocks v fewer ≤ blocks v es) → (a : Bool) → cond a (blocks (u + y) fewer) (suc (blocks y fewer)) ≤ cond a (blocks (u + y) es) (suc (blocks y es))
  first_stays y u fewer es h true = h (u + y)
  first_stays y u fewer es h false = let l = h y in omega (arith, l)

  by_test : (p : E → Bool) (e : E) (es : List E) (u : ℕ) → ((v : ℕ) → blocks v (filter p es) ≤ blocks v es) → (b : Bool) → blocks u (cond b (e ∷ filter p es) (filter p es)) ≤ blocks u (e ∷ es)
  by_test p e es u h true = first_stays (size e) u (filter p es) es h (nat_le (u + size e) room)
  by_test p e es u h false = let a = h u in let b = first_gone (size e) u es (nat_le (u + size e) room) in trans (blocks u (filter p es)) (blocks u es) (blocks u (e ∷ es)) a b
    where
      trans : (a b c : ℕ) → a ≤ b → b ≤ c → a ≤ c
      trans a b c p q = omega arith

  fewer_from : (p : E → Bool) (es : List E) (u : ℕ) → blocks u (filter p es) ≤ blocks u es
  fewer_from p [] u = omega arith
  fewer_from p (e ∷ es) u = by_test p e es u (fewer_from p es) (p e)

  pub fewer_needed : (p : E → Bool) (es : List E) → needed size room end (filter p es) ≤ needed size room end es
  fewer_needed p es = fewer_from p es 0
