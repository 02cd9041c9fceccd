-- The free tracks of a volume and the runs in which they lie, counted from the last track down.
use Rattle.std.proofs.Common.{◌≡◌, ◌+◌, ◌-◌, ◌≤◌, ◌<◌, ◌==◌, ℕ, suc, Bool, true, false, List, [], ◌∷◌, filter, length, refl, sym, ap, ◌∙◌, arith}
use Rattle.std.specs.List.{range_with_len}
use Rattle.std.specs.Prelude.{if◌then◌else◌}
use Rattle.vol_model.specs.declared.contents.Run.{Run}
use Rattle.vol_model.specs.Space.{AreApartFrom, runs_of, with_front}
use Rattle.vol_model.proofs.FreeRuns.{runs_of-filter-facts}

-- a run begins at this track
abbrev pub begins : ℕ → List Run → Bool
begins t [] = false
begins t (r ∷ rs) = t == r.start

same_number : (t : ℕ) → (t == t) ≡ true
same_number t = grind arith

-- one more track in front makes a run longer, where one begins after it, and else a run of its own
front_length_at : (t : ℕ) (r : Run) (rs : List Run) (b : Bool) → (t + 1 == r.start) ≡ b → length (with_front t (r ∷ rs)) ≡ (if b then suc (length rs) else suc (suc (length rs)))
front_length_at t r rs true e = ap (λ b. length (if b then record { start = t; len = r.len + 1 } ∷ rs else record { start = t; len = 1 } ∷ r ∷ rs)) e
front_length_at t r rs false e = ap (λ b. length (if b then record { start = t; len = r.len + 1 } ∷ rs else record { start = t; len = 1 } ∷ r ∷ rs)) e

pub front_joins : (t : ℕ) (rs : List Run) → begins (t + 1) rs ≡ true → length (with_front t rs) ≡ length rs
front_joins t [] e = absurd (cc e)
front_joins t (r ∷ rs) e = front_length_at t r rs true e

pub front_adds : (t : ℕ) (rs : List Run) → begins (t + 1) rs ≡ false → length (with_front t rs) ≡ suc (length rs)
front_adds t [] e = refl
front_adds t (r ∷ rs) e = front_length_at t r rs false e

-- and then a run begins there
begins_at : (t : ℕ) (r : Run) (rs : List Run) (b : Bool) → (t + 1 == r.start) ≡ b → begins t (with_front t (r ∷ rs)) ≡ true
begins_at t r rs true e = ap (λ b. begins t (if b then record { start = t; len = r.len + 1 } ∷ rs else record { start = t; len = 1 } ∷ r ∷ rs)) e ∙ same_number t
begins_at t r rs false e = ap (λ b. begins t (if b then record { start = t; len = r.len + 1 } ∷ rs else record { start = t; len = 1 } ∷ r ∷ rs)) e ∙ same_number t

pub front_begins : (t : ℕ) (rs : List Run) → begins t (with_front t rs) ≡ true
front_begins t [] = same_number t
front_begins t (r ∷ rs) = begins_at t r rs (t + 1 == r.start) refl

-- where all runs stand after a track, none begins there
pub behind_begins : (t : ℕ) (rs : List Run) → AreApartFrom (t + 1) rs → begins t rs ≡ false
behind_begins t [] apart = refl
behind_begins t (r ∷ rs) apart = grind (arith, apart.0)

module _ (has : ℕ → Bool) (limit : ℕ) where
  -- those of the tracks from one on that the set has
  abbrev pub tracks_from : ℕ → List ℕ
  tracks_from t = filter has (range_with_len t (limit - t))

  -- How many they are, in how many runs they lie, and whether the first of these begins right there.
  pub record IsCounted (t n m : ℕ) (begun : Bool) : Type 0 where
    pub inside : t ≤ limit
    pub few : n ≤ limit - t
    pub fewer : m ≤ n
    pub tracks : n ≡ length (tracks_from t)
    pub runs : m ≡ length (runs_of (tracks_from t))
    pub next : begun ≡ begins t (runs_of (tracks_from t))

  pub none_counted : IsCounted limit 0 0 false
  none_counted =
      let empty : tracks_from limit ≡ [] = ap (λ n. filter has (range_with_len limit n)) (sub_self limit) in
      record { inside = omega arith; few = omega arith; fewer = omega arith; tracks = sym (ap length empty); runs = sym (ap (λ l. length (runs_of l)) empty); next = sym (ap (λ l. begins limit (runs_of l)) empty) }
    where
      sub_self : (n : ℕ) → n - n ≡ 0
      sub_self n = omega arith

  module _ (t tracks runs : ℕ) (next : Bool) (inside : t < limit) (counted : IsCounted (t + 1) tracks runs next) where
    one_more : limit - t ≡ suc (limit - (t + 1))
    one_more = omega (arith, inside)

    with_one : (b : Bool) → has t ≡ b → tracks_from t ≡ (if b then t ∷ tracks_from (t + 1) else tracks_from (t + 1))
    with_one b is = ap (λ n. filter has (range_with_len t n)) one_more ∙ ap (λ c. if c then t ∷ tracks_from (t + 1) else tracks_from (t + 1)) is

    -- a track that the set doesn't have
    pub skip_counted : has t ≡ false → IsCounted t tracks runs false
    skip_counted is =
        let same : tracks_from t ≡ tracks_from (t + 1) = with_one false is in
        record {
          inside = omega (arith, inside);
          few = omega (arith, inside, counted.few);
          fewer = counted.fewer;
          tracks = counted.tracks ∙ sym (ap length same);
          runs = counted.runs ∙ sym (ap (λ l. length (runs_of l)) same);
          next = sym (ap (λ l. begins t (runs_of l)) same ∙ behind_begins t (runs_of (tracks_from (t + 1))) (runs_of-filter-facts has (limit - (t + 1)) (t + 1)).0);
        }

    -- one that it has, in front of a run
    pub joined_counted : has t ≡ true → next ≡ true → IsCounted t (tracks + 1) runs true
    joined_counted is joins =
        let more : tracks_from t ≡ t ∷ tracks_from (t + 1) = with_one true is in
        let rest = runs_of (tracks_from (t + 1)) in
        record {
          inside = omega (arith, inside);
          few = omega (arith, inside, counted.few);
          fewer = omega (arith, counted.fewer);
          tracks = let longer : length (tracks_from t) ≡ suc (length (tracks_from (t + 1))) = ap length more in omega (arith, counted.tracks, longer);
          runs = counted.runs ∙ sym (ap (λ l. length (runs_of l)) more ∙ front_joins t rest (sym counted.next ∙ joins));
          next = sym (ap (λ l. begins t (runs_of l)) more ∙ front_begins t rest);
        }

    -- one that it has, which is a run of its own so far
    pub alone_counted : has t ≡ true → next ≡ false → IsCounted t (tracks + 1) (runs + 1) true
    alone_counted is alone =
        let more : tracks_from t ≡ t ∷ tracks_from (t + 1) = with_one true is in
        let rest = runs_of (tracks_from (t + 1)) in
        record {
          inside = omega (arith, inside);
          few = omega (arith, inside, counted.few);
          fewer = omega (arith, counted.fewer);
          tracks = let longer : length (tracks_from t) ≡ suc (length (tracks_from (t + 1))) = ap length more in omega (arith, counted.tracks, longer);
          runs = let longer : length (runs_of (tracks_from t)) ≡ suc (length rest) = ap (λ l. length (runs_of l)) more ∙ front_adds t rest (sym counted.next ∙ alone) in omega (arith, counted.runs, longer);
          next = sym (ap (λ l. begins t (runs_of l)) more ∙ front_begins t rest);
        }
