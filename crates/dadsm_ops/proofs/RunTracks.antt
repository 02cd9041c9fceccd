-- The tracks of runs, one after another.
use Rattle.std.proofs.Common.{◌≡◌, ◌+◌, ◌-◌, ◌≤◌, ◌<◌, ℕ, zero, suc, List, [], ◌∷◌, ◌++◌, length, drop, get_or, Some, refl, sym, ap, ◌∙◌, subst, arith, length-append}
use Rattle.std.specs.Prelude.{slice_get}
use Rattle.std.specs.List.{range_with_len}
use Rattle.std.proofs.lemmas.List.FromFn.{length-range_with_len}
use Rattle.std.proofs.Math.Seq.{drop-cons}
use Rattle.pack_spec.specs.Blocks.{owned_tracks}
use Rattle.vol_model.specs.declared.contents.Run.{Run}

-- so many tracks are left of the runs after the first ones
pub record AreLeft (runs : List Run) (k i left : ℕ) : Type 0 where
  pub same : slice_get (owned_tracks (drop i runs)) left ≡ slice_get (owned_tracks runs) k
  pub there : left < length (owned_tracks (drop i runs))

pub left_first : (runs : List Run) (k : ℕ) → k < length (owned_tracks runs) → AreLeft runs k 0 k
left_first [] k low = record { same = refl; there = low }
left_first (r ∷ rs) k low = record { same = refl; there = low }

none_behind : (runs : List Run) (i : ℕ) → length runs ≤ i → drop i runs ≡ []
none_behind [] zero low = refl
none_behind [] (suc i) low = refl
none_behind (r ∷ rs) zero low = absurd (omega (arith, low))
none_behind (r ∷ rs) (suc i) low = none_behind rs i (omega (arith, low))

pub left_none : (runs : List Run) (k i left : ℕ) → length runs ≤ i → AreLeft runs k i left → ⊥
unfolding owned_tracks
left_none runs k i left past are = omega (arith, are.there, ap (λ (rs : List Run). length (owned_tracks rs)) (none_behind runs i past))

on_run : (start n k : ℕ) (ts : List ℕ) → k < n → slice_get (range_with_len start n ++ ts) k ≡ Some (start + k)
on_run start zero k ts low = absurd (omega (arith, low))
on_run start (suc n) zero ts low = let same : start ≡ start + zero = omega arith in ap (λ (t : ℕ). Some t) same
on_run start (suc n) (suc k) ts low = let same : start + 1 + k ≡ start + suc k = omega arith in on_run (start + 1) n k ts (omega (arith, low)) ∙ ap (λ (t : ℕ). Some t) same

behind_run : (start n k : ℕ) (ts : List ℕ) → n ≤ k → slice_get (range_with_len start n ++ ts) k ≡ slice_get ts (k - n)
behind_run start zero k ts low = let same : k ≡ k - zero = omega arith in ap (slice_get ts) same
behind_run start (suc n) zero ts low = absurd (omega (arith, low))
behind_run start (suc n) (suc k) ts low = let same : k - n ≡ suc k - suc n = omega arith in behind_run (start + 1) n k ts (omega (arith, low)) ∙ ap (slice_get ts) same

module _ (runs : List Run) (k i left : ℕ) (d : Run) (low : i < length runs) (are : AreLeft runs k i left) where
  abbrev r : Run
  r = get_or runs i d

  split : drop i runs ≡ r ∷ drop (suc i) runs
  split = drop-cons runs i d low

  pub left_here : left < r.len → slice_get (owned_tracks runs) k ≡ Some (r.start + left)
  unfolding owned_tracks
  left_here here = sym are.same ∙ ap (λ (rs : List Run). slice_get (owned_tracks rs) left) split ∙ on_run r.start r.len left (owned_tracks (drop (suc i) runs)) here

  pub left_later : r.len ≤ left → AreLeft runs k (i + 1) (left - r.len)
  unfolding owned_tracks
  left_later later =
      let next : i + 1 ≡ suc i = omega arith in
      let rest : List ℕ = owned_tracks (drop (suc i) runs) in
      let long : length (owned_tracks (drop i runs)) ≡ r.len + length rest =
      ap (λ (rs : List Run). length (owned_tracks rs)) split ∙ length-append (range_with_len r.start r.len) rest ∙ ap (λ (n : ℕ). n + length rest) (length-range_with_len r.start r.len) in
      subst (λ (n : ℕ). AreLeft runs k n (left - r.len)) (sym next) (record {
        same = sym (ap (λ (rs : List Run). slice_get (owned_tracks rs) left) split ∙ behind_run r.start r.len left rest later) ∙ are.same;
        there = omega (arith, are.there, long, later);
      })
