-- The data sets of a copy: those of its DDs, and what a shelf has of them.
use Rattle.std.specs.Prelude.{◌==◌, Bool, ◌&&◌, if◌then◌else◌, List, [], ◌∷◌, Option, Some, None, Result, Ok, Err, ok_or}
use Rattle.std.specs.List.{list_any}
use Rattle.std.specs.Map.{lookup}
use Rattle.std.specs.Str.{bytes_eq}
use Rattle.ebcdic_names.specs.declared.names.Name8.{Name8}
use Rattle.vol_model.specs.declared.contents.DataSet.{DataSet}
use Rattle.vol_model.specs.declared.contents.Shelf.{Shelf}
use Rattle.vol_model.specs.declared.refusals.Refusal.{Refusal}
use Rattle.util_steps.specs.declared.calls.SetRef.{SetRef}
use Rattle.util_syntax.specs.declared.step.DdIn.{DdIn}
use Rattle.util_syntax.specs.declared.step.DdIn.TheVariants.{Set}
use Rattle.util_syntax.specs.Step.{same_name}
use Rattle.record_files.specs.declared.attributes.Purpose.TheVariants as purposes
use Rattle.record_files.specs.Attributes.{usable_set}
use Rattle.iebcopy_util.specs.declared.requests.CopyDds.{CopyDds}
use Rattle.iebcopy_util.specs.declared.requests.InputDd.{InputDd}
use Rattle.iebcopy_util.specs.declared.sets.Input.{Input}
use Rattle.iebcopy_util.specs.declared.sets.Sets.{Sets}

-- ---- DDs

-- the data set of a DD; a member that it names isn't meant
abbrev pub set_in : Option DdIn → Option SetRef
set_in (Some (Set v dsn member append dcb)) = Some (record { v = v; dsn = dsn })
set_in _ = None

-- the data set of the DD of this name, or that name
abbrev pub set_named : List (Name8 × DdIn) → Name8 → Result SetRef Name8
set_named dds name = ok_or (set_in (lookup (same_name name) dds)) name

-- an input in front of others
abbrev pub with_input : Bool → Result SetRef Name8 → Result (List Input) Name8 → Result (List Input) Name8
with_input replace (Err name) others = Err name
with_input replace (Ok set) (Err name) = Err name
with_input replace (Ok set) (Ok inputs) = Ok (record { set = set; replace = replace } ∷ inputs)

-- the data sets of inputs, or the name of the first DD that isn't there
abbrev pub inputs_named : List (Name8 × DdIn) → List InputDd → Result (List Input) Name8
inputs_named dds [] = Ok []
inputs_named dds (i ∷ is) = with_input i.replace (set_named dds i.dd) (inputs_named dds is)

-- both, or the name that is met first
abbrev pub sets_with : Bool → Result SetRef Name8 → Result (List Input) Name8 → Result Sets Name8
sets_with inputs_first (Ok out) (Ok inputs) = Ok (record { out = out; inputs = inputs })
sets_with inputs_first (Ok out) (Err name) = Err name
sets_with inputs_first (Err name) (Ok inputs) = Err name
sets_with inputs_first (Err name) (Err other) = Err (if inputs_first then other else name)

-- the data sets of a copy, or the name of the first DD that isn't one, in the order of the card
unfoldable pub sets_of : List (Name8 × DdIn) → CopyDds → Result Sets Name8
sets_of dds copy = sets_with copy.inputs_first (set_named dds copy.out) (inputs_named dds copy.inputs)

-- two data sets are one
abbrev pub is_same : SetRef → SetRef → Bool
is_same a b = a.v == b.v && bytes_eq a.dsn.bytes b.dsn.bytes

-- one of the inputs is this data set
unfoldable pub is_among : SetRef → List Input → Bool
is_among out inputs = list_any (λ (i : Input). is_same i.set out) inputs

-- a partitioned data set that can be read, or why it is none
abbrev pub library : Shelf → SetRef → Result DataSet Refusal
library shelf s = usable_set shelf purposes.Members s
