-- Sets of tracks and the runs that they fall into, the free tracks of a volume, and which of them are chosen for a request, in this project's profile.
use Rattle.std.specs.Prelude.{◌≡◌, ℕ, zero, suc, ◌+◌, ◌-◌, ◌*◌, ◌≤◌, ◌<◌, ◌&&◌, ◌||◌, ◌==◌, not, min, nat_le, nat_lt, Bool, true, List, [], ◌∷◌, ◌++◌, filter, find, Option, Some, None, if◌then◌else◌}
use Rattle.std.specs.List.{list_all, list_any, range_with_len}
use Rattle.ckd_image.specs.declared.header.Geometry.{Geometry}
use Rattle.ckd_image.specs.Device.{row_of}
use Rattle.vol_model.specs.declared.contents.DataSet.{DataSet}
use Rattle.vol_model.specs.declared.contents.Run.{Run}
use Rattle.vol_model.specs.declared.contents.Volume.{Volume}
use Rattle.vol_model.specs.declared.requests.SpaceUnit.{SpaceUnit}
use Rattle.vol_model.specs.declared.requests.SpaceUnit.TheVariants.{Track, Cylinder}

-- the track lies in the run
abbrev pub is_in : ℕ → Run → Bool
is_in track run = nat_le run.start track && nat_lt track (run.start + run.len)

-- the track lies in one of these runs
abbrev pub covers : List Run → ℕ → Bool
covers runs track = list_any (is_in track) runs

-- each run has a track, and between two of them, as before the first from `low` on, there is room: so none begins where another ends
abbrev pub AreApartFrom : ℕ → List Run → Type 0
AreApartFrom low [] = Unit {0}
AreApartFrom low (r ∷ rs) = (low ≤ r.start) × (1 ≤ r.len) × AreApartFrom (r.start + r.len + 1) rs

-- the runs rise, and none touches another: they are the maximal runs of the tracks in them
abbrev pub AreMaximal : List Run → Type 0
AreMaximal runs = AreApartFrom 0 runs

-- no run reaches past a number of tracks
abbrev pub EndBy : ℕ → List Run → Type 0
EndBy limit [] = Unit {0}
EndBy limit (r ∷ rs) = (r.start + r.len ≤ limit) × EndBy limit rs

-- the maximal runs of those tracks below a limit that a set has
pub record AreRunsOf (has : ℕ → Bool) (limit : ℕ) (runs : List Run) : Type 0 where
  pub maximal : AreMaximal runs
  pub within : EndBy limit runs
  pub same : (track : ℕ) → track < limit → has track ≡ covers runs track

-- extents are taken from a set of tracks, one after the other: each has a track, and all of its tracks are those that the earlier ones left
abbrev pub AreTaken : (ℕ → Bool) → List Run → Type 0
AreTaken has [] = Unit {0}
AreTaken has (e ∷ es) = (1 ≤ e.len) × ((track : ℕ) → is_in track e ≡ true → has track ≡ true) × AreTaken (λ track. has track && not (is_in track e)) es

-- runs, with one more track or cylinder in front of them
abbrev pub with_front : ℕ → List Run → List Run
with_front t [] = record { start = t; len = 1 } ∷ []
with_front t (r ∷ rs) = if t + 1 == r.start then record { start = t; len = r.len + 1 } ∷ rs else record { start = t; len = 1 } ∷ r ∷ rs

-- tracks or cylinders, of which the lowest is the first, in runs as long as can be
abbrev pub runs_of : List ℕ → List Run
runs_of [] = []
runs_of (t ∷ ts) = with_front t (runs_of ts)

-- the tracks of a unit
abbrev pub size_of : ℕ → SpaceUnit → ℕ
size_of heads Track = 1
size_of heads Cylinder = heads

-- how many units so many cylinders have
abbrev pub count_of : ℕ → ℕ → SpaceUnit → ℕ
count_of cylinders heads Track = cylinders * heads
count_of cylinders heads Cylinder = cylinders

-- of the first units of a size, those all of whose tracks are free
abbrev pub free_units : (ℕ → Bool) → ℕ → ℕ → List ℕ
free_units is_free size count = filter (λ u. list_all is_free (range_with_len (u * size) size)) (range_with_len 0 count)

-- the tracks of the first units of a run of units
abbrev pub extent_of : ℕ → ℕ → Run → Run
extent_of size n r = record { start = r.start * size; len = n * size }

-- the order of choice: a longer run stands before a shorter one, and of two of a length the lower one
abbrev pub is_behind : Option Run → Run → Bool
is_behind None x = true
is_behind (Some r) x = nat_lt x.len r.len || (x.len == r.len && nat_lt r.start x.start)

-- a run is longer than the longest so far
abbrev pub is_longer : Run → Option Run → Bool
is_longer x None = true
is_longer x (Some best) = nat_lt best.len x.len

-- the longest of some runs, the first of them, and of one before them
abbrev pub longest_from : Option Run → List Run → Option Run
longest_from best [] = best
longest_from best (x ∷ xs) = longest_from (if is_longer x best then Some x else best) xs

-- the runs that stand after the last one that was taken
abbrev pub left_after : Option Run → List Run → List Run
left_after last runs = filter (is_behind last) runs

-- what comes of the longest run that is left: its front, or all of it and what is then taken of the others
abbrev pub with_longest : ℕ → List Run → ℕ → (Run → Option (List Run)) → Option Run → Option (List Run)
with_longest size taken n others None = None
with_longest size taken n others (Some r) = if nat_le n r.len then Some (taken ++ extent_of size n r ∷ []) else others r

-- so many units in at most k runs, the longest first; `last` is the run that was taken last, and `taken` are the extents so far
unfoldable pub longest_first : ℕ → ℕ → Option Run → List Run → List Run → ℕ → Option (List Run)
longest_first size zero last runs taken n = None
longest_first size (suc k) last runs taken n = with_longest size taken n
    (λ r. longest_first size k (Some r) runs (taken ++ extent_of size r.len r ∷ []) (n - r.len))
    (longest_from None (left_after last runs))

-- the front of a run that has so many; else, unless they must lie in one run, at most five runs, the longest first
abbrev pub by_run : ℕ → Bool → List Run → ℕ → Option Run → Option (List Run)
by_run size contig runs n (Some r) = Some (extent_of size n r ∷ [])
by_run size contig runs n None = if contig then None else longest_first size 5 None runs [] n

-- so many units of the maximal runs of free ones: in the lowest run that has them, where there is one
unfoldable pub chosen : ℕ → Bool → List Run → ℕ → Option (List Run)
chosen size contig runs n = if n == 0 then Some [] else by_run size contig runs n (find (λ (r : Run). nat_le n r.len) runs)

-- The choice of so many units of the free tracks of a pack, which is told by its cylinders and heads: the extents, in the order in which they are chosen, if there is a choice.
unfoldable pub choice_from : (ℕ → Bool) → ℕ → ℕ → SpaceUnit → Bool → ℕ → Option (List Run)
choice_from is_free cylinders heads unit contig n = chosen (size_of heads unit) contig (runs_of (free_units is_free (size_of heads unit) (count_of cylinders heads unit))) n

-- the cylinders that may hold data sets: those of the pack that aren't alternates
abbrev pub usable_cylinders : Geometry → ℕ
usable_cylinders g = min g.cylinders (row_of g.device).primary_cylinders

-- the track is neither track 0 nor in the VTOC nor in an extent
abbrev pub is_unowned : Volume → ℕ → Bool
is_unowned volume track = not (track == 0 || (is_in track volume.vtoc || list_any (λ (x : DataSet). covers x.extents track) volume.sets))

-- the free tracks of a volume, the lowest first
abbrev pub free_tracks : Volume → List ℕ
free_tracks volume = filter (is_unowned volume) (range_with_len 0 (usable_cylinders volume.geometry * (row_of volume.geometry.device).heads))

-- the runs in which they lie, each as long as can be
abbrev pub free_runs : Volume → List Run
free_runs volume = runs_of (free_tracks volume)

-- runs are the maximal free runs of a volume
abbrev pub AreFreeRuns : Volume → List Run → Type 0
AreFreeRuns volume runs = AreRunsOf (is_unowned volume) (usable_cylinders volume.geometry * (row_of volume.geometry.device).heads) runs

-- The choice of a volume's free tracks for a quantity in a unit, if there is one.
unfoldable pub choice : Volume → SpaceUnit → Bool → ℕ → Option (List Run)
choice volume unit contig n = choice_from (is_unowned volume) (usable_cylinders volume.geometry) (row_of volume.geometry.device).heads unit contig n
