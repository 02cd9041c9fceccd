-- Free runs with tracks removed or inserted, in this project's profile.
use Rattle.std.specs.Prelude.{◌≡◌, ℕ, ◌+◌, ◌-◌, ◌≤◌, ◌&&◌, ◌||◌, not, min, max, nat_lt, List, [], ◌∷◌, ◌++◌, if◌then◌else◌}
use Rattle.vol_model.specs.declared.contents.Run.{Run}
use Rattle.vol_model.specs.Space.{is_in, covers, AreMaximal, EndBy}

-- the tracks from one up to another as a run, where there are any
abbrev pub between : ℕ → ℕ → List Run
between low high =
    if nat_lt low high then record { start = low; len = high - low } ∷ [] else []

-- what is left of a run without the tracks from one up to another
abbrev pub cut : ℕ → ℕ → Run → List Run
cut low high r =
    between r.start (min low (r.start + r.len)) ++ between (max high r.start) (r.start + r.len)

-- what is left of several runs
abbrev pub cut_all : ℕ → ℕ → List Run → List Run
cut_all low high [] = []
cut_all low high (r ∷ rs) = cut low high r ++ cut_all low high rs

-- rising runs that don't touch, with the tracks from one up to another joined in
abbrev pub join : ℕ → ℕ → List Run → List Run
join low high [] = record { start = low; len = high - low } ∷ []
join low high (r ∷ rs) =
    if nat_lt (r.start + r.len) low then r ∷ join low high rs
    else (if nat_lt high r.start then record { start = low; len = high - low } ∷ r ∷ rs
    else join (min low r.start) (max high (r.start + r.len)) rs)

-- Maximal runs: their tracks are those of the old runs that weren't removed, and they reach no further than these.
pub record AreWithout (old : List Run) (taken : List Run) (new : List Run) : Type 0 where
  pub maximal : AreMaximal new
  pub tracks : (track : ℕ) → covers new track ≡ (covers old track && not (covers taken track))
  pub within : (limit : ℕ) → EndBy limit old → EndBy limit new

-- Maximal runs: their tracks are those of the old runs and of the one inserted, and they reach no further than these.
pub record AreWith (old : List Run) (run : Run) (new : List Run) : Type 0 where
  pub maximal : AreMaximal new
  pub tracks : (track : ℕ) → covers new track ≡ (covers old track || is_in track run)
  pub within : (limit : ℕ) → EndBy limit old → run.start + run.len ≤ limit → EndBy limit new
