use Rattle.std.proofs.Common.{◌≢◌, ◌<◌, ℕ}
use Rattle.hall_core.specs.Facts.{unit_of}
use Rattle.hall_core.specs.Held.{files_of, shapes_of}
use Rattle.hall_core.proofs.mem_hall.pairs.first_named.Given as goal

-- no file before this place has the name
abbrev pub invariant-loop-place : goal.invariant-loop-place
invariant-loop-place l = (k : ℕ) → k < l.place → (unit_of (shapes_of (files_of l.files)) k).name ≢ l.name
