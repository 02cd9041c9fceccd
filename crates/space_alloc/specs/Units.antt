-- The tracks or whole cylinders in runs of tracks, and what `choose` answers, in this project's profile.
use Rattle.std.specs.Prelude.{◌≡◌, ℕ, ◌+◌, ◌-◌, ◌*◌, ◌/◌, ◌%◌, ◌==◌, ◌&&◌, nat_lt, List, [], ◌∷◌, take, Bool, Option, Some, None, Result, Ok, Err, if◌then◌else◌}
use Rattle.ckd_image.specs.declared.header.Geometry.{Geometry}
use Rattle.ckd_image.specs.Device.{row_of}
use Rattle.vol_model.specs.declared.contents.Run.{Run}
use Rattle.vol_model.specs.declared.requests.Request.{Request}
use Rattle.space_alloc.specs.declared.extents.Extents.{Extents}
use Rattle.space_alloc.specs.declared.extents.NoSpace.{NoSpace}
use Rattle.vol_model.specs.Space.{AreRunsOf}
use Rattle.vol_model.specs.Space.{choice_from, is_behind, is_longer}

-- the first unit that doesn't begin below a track
abbrev pub first_from : ℕ → ℕ → ℕ
first_from size track = track / size + (if track % size == 0 then 0 else 1)

-- the units wholly in a run of tracks, as a run of units
abbrev pub units_in : ℕ → Run → Run
units_in size r = record {
  start = first_from size r.start;
  len = (r.start + r.len) / size - first_from size r.start;
}

-- runs with one more in front, unless it is empty
abbrev pub with_run : Run → List Run → List Run
with_run u us = if nat_lt 0 u.len then u ∷ us else us

-- the units wholly in runs of tracks
abbrev pub units : ℕ → List Run → List Run
units size [] = []
units size (r ∷ rs) = with_run (units_in size r) (units size rs)

-- the longest run so far of those after the last one taken, with one more run of units
abbrev pub better : Option Run → Option Run → Run → Option Run
better last best u =
    if nat_lt 0 u.len && is_behind last u && is_longer u best then Some u else best

-- the extents as a list
abbrev pub listed : Extents → List Run
listed e = take e.n e.runs

-- the answer is the choice, and without one it carries what was asked
abbrev pub Answers : Result Extents NoSpace → ℕ → Option (List Run) → Type 0
Answers (Ok e) asked choice = choice ≡ Some (listed e)
Answers (Err e) asked choice = (choice ≡ None) × (e.asked ≡ asked)

-- the answer is the choice from each set of free tracks, on a pack of so many cylinders, whose maximal runs these are
abbrev pub Chooses : List Run → Geometry → Request → Result Extents NoSpace → Type 0
Chooses free geometry request result =
    (is_free : ℕ → Bool) (cylinders : ℕ) → let heads = (row_of geometry.device).heads in
    AreRunsOf is_free (cylinders * heads) free → Answers result request.primary
    (choice_from is_free cylinders heads request.unit request.contig request.primary)
