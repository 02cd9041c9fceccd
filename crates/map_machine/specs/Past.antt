-- The past of a machine in memory: what it held before it did things, found back from what it holds now.
use Rattle.std.specs.Prelude.{◌≡◌, ℕ, ◌≤◌, List, [], ◌∷◌, length, take, drop, slice_set}
use Rattle.stop_model.specs.Moments.{Meaning}
use Rattle.map_machine.specs.declared.past.Done.{Done}
use Rattle.map_machine.specs.declared.past.Done.TheVariants.{Changed, Printed}
use Rattle.vol_model.specs.declared.contents.Shelf.{Shelf}

-- A shelf, and all that was printed.
pub record Moment : Type 0 where
  pub shelf : Shelf
  pub text : List ℕ

-- The moment before something was done, by the one after it: the volume is as it was, and what was printed is gone.
abbrev pub before : Done → Moment → Moment
before (Changed v volume) m = record m { shelf = record { volumes = slice_set m.shelf.volumes v volume } }
before (Printed n) m = record m { text = take n m.text }

-- the moment before all of this was done, in its order, by the one after it
abbrev pub before_all : List Done → Moment → Moment
before_all [] m = m
before_all (done ∷ later) m = before done (before_all later m)

-- the moment at which the first k of the things on the record were done, by the present one
abbrev pub moment_at : List Done → Moment → ℕ → Moment
moment_at log now k = before_all (drop k log) now

-- what a machine means that holds this now and did these things: nothing is pending, its clock counts what it did, and a stop leaves what it held at a moment
abbrev pub meaning_after : List Done → Moment → Meaning Shelf
meaning_after log now = record {
  state = now.shelf;
  printed = now.text;
  left = λ shelf. shelf ≡ now.shelf;
  clock = length log;
  left_since = λ t shelf text. (k : ℕ) × (t ≤ k) × (k ≤ length log) × ((moment_at log now k).shelf ≡ shelf) × ((moment_at log now k).text ≡ text);
}
