-- What the walk over the records of a track answers.
use Rattle.std.specs.Prelude.{◌≡◌, ℕ, List, length, Option, Some, None, Result, Ok, Err}
use Rattle.std.specs.Option.{option_map}
use Rattle.ckd_image.specs.Track.{Record}

-- the answer is the number of the records where nothing breaks, and else the offset of the break
abbrev pub IsReadingOf : Option ℕ → Option (List Record) → Result ℕ ℕ → Type 0
IsReadingOf break records (Ok n) = (break ≡ None) × (option_map length records ≡ Some n)
IsReadingOf break records (Err at) = (break ≡ Some at) × (records ≡ None)
