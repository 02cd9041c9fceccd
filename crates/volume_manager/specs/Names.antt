-- The names of the data sets of a volume.
use Rattle.std.specs.Prelude.{ℕ, List, map, Option, Some, None}
use Rattle.std.specs.List.{filter_map}
use Rattle.std.specs.Ordering.{nat_cmp}
use Rattle.std.specs.Cmp.Lexicographic.{slice_cmp}
use Rattle.std.specs.List.Sorted.{IsSorted, IsStable}
use Rattle.dscb_codec.specs.declared.Dscb.{Dscb}
use Rattle.dscb_codec.specs.declared.Dscb.TheVariants.{F1}
use Rattle.vol_model.specs.declared.contents.DataSet.{DataSet}

-- the names of data sets, in their order
abbrev pub names_of : List DataSet → List (List ℕ)
names_of sets = map (λ x. x.name.bytes) sets

-- the name of the data set that a DSCB describes, if it has format 1
abbrev pub set_name : Dscb → Option (List ℕ)
set_name (F1 f) = Some f.name
set_name _ = None

-- the names in the format 1 DSCBs among these, in their order
abbrev pub names_in : List Dscb → List (List ℕ)
names_in dscbs = filter_map set_name dscbs

-- these names in the order of their bytes, each as often as it stands
pub record IsListing (names listed : List (List ℕ)) : Type 0 where
  pub sorted : IsSorted (slice_cmp nat_cmp) listed
  pub same : IsStable (slice_cmp nat_cmp) names listed
