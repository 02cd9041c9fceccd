-- A track that two runs have, in this project's profile: an owned track has one owner.
use Rattle.std.specs.Prelude.{ℕ, ◌+◌, ◌≤◌, ◌<◌, nat_lt, List, [], ◌∷◌, count_by, Option, Some, None, if◌then◌else◌}
use Rattle.vol_model.specs.declared.contents.Run.{Run}
use Rattle.vol_model.specs.Space.{is_in}

-- this is the lowest track that two of the runs have, or more; or there is none
abbrev pub IsLowestTwice : List Run → Option ℕ → Type 0
IsLowestTwice runs None = (track : ℕ) → count_by (is_in track) runs ≤ 1
IsLowestTwice runs (Some low) =
    (2 ≤ count_by (is_in low) runs)
    × ((track : ℕ) → track < low → count_by (is_in track) runs ≤ 1)

-- the start of the first run that begins before the one in front of it ends
abbrev pub first_early : ℕ → List Run → Option ℕ
first_early end [] = None
first_early end (r ∷ rs) =
    if nat_lt r.start end then Some r.start else first_early (r.start + r.len) rs
