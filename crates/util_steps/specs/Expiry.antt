-- When a data set expires, in this project's profile.
use Rattle.std.specs.Prelude.{ℕ, Bool, List}
use Rattle.std.specs.Ordering.{is_lt, nat_cmp}
use Rattle.std.specs.Cmp.Lexicographic.{slice_cmp}
use Rattle.vol_model.specs.declared.contents.DataSet.{DataSet}

-- the data set's expiration date is later than the date
abbrev pub is_unexpired : List ℕ → DataSet → Bool
is_unexpired date x = is_lt (slice_cmp nat_cmp date x.attr.expires)
