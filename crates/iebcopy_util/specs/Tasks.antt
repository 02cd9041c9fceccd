-- The members that a copy takes from its inputs.
use Rattle.std.specs.Prelude.{◌≡◌, ℕ, ◌+◌, Bool, ◌||◌, if◌then◌else◌, unwrap_or, List, [], ◌∷◌, ◌++◌, map, filter, replicate, slice_get, true, false, Option, Some, None, Result, Ok, Err}
use Rattle.std.specs.List.{AllByRecursion, flat_map, list_any}
use Rattle.std.specs.Str.{bytes_eq}
use Rattle.ebcdic_names.specs.declared.names.Name8.{Name8}
use Rattle.vol_model.specs.declared.contents.Attr.{Attr}
use Rattle.vol_model.specs.declared.contents.DataSet.{DataSet}
use Rattle.vol_model.specs.declared.contents.Entry.{Entry}
use Rattle.vol_model.specs.declared.contents.Shelf.{Shelf}
use Rattle.vol_model.specs.declared.refusals.Refusal.{Refusal}
use Rattle.vol_model.specs.Lawful.{IsLawfulEntry}
use Rattle.util_steps.specs.declared.calls.SetRef.{SetRef}
use Rattle.iebcopy_util.specs.declared.orders.Choice.{Choice}
use Rattle.iebcopy_util.specs.declared.orders.Choice.TheVariants.{All, Select, Exclude}
use Rattle.iebcopy_util.specs.declared.orders.Order.{Order}
use Rattle.iebcopy_util.specs.declared.orders.Order.TheVariants as order
use Rattle.iebcopy_util.specs.declared.requests.Pick.{Pick}
use Rattle.iebcopy_util.specs.declared.sets.Input.{Input}
use Rattle.iebcopy_util.specs.declared.tasks.RefusedSet.{RefusedSet}
use Rattle.iebcopy_util.specs.declared.tasks.InputLibrary.{InputLibrary}
use Rattle.iebcopy_util.specs.declared.tasks.MemberCopy.{MemberCopy}
use Rattle.record_files.specs.Members.{entries_of}
use Rattle.iebcopy_util.specs.Sets.{library}

-- two names are one
abbrev pub is_name : Name8 → Name8 → Bool
is_name a b = bytes_eq a.bytes b.bytes

-- a member of an input is copied under a name
abbrev pub task : InputLibrary → Entry → Name8 → Bool → MemberCopy
task source e name replace = record { source = source; entry = e; name = name; replace = source.replace || replace }

-- one of these copies is of a member of this name
abbrev pub is_taken : Name8 → List MemberCopy → Bool
is_taken name tasks = list_any (λ (t : MemberCopy). is_name t.entry.name name) tasks

-- The copies that are asked for of an entry, where these are those of the inputs before its own. A selected name comes from the first input that has it.
unfoldable pub wanted : Choice → List MemberCopy → InputLibrary → Entry → List MemberCopy
wanted All earlier source e = task source e e.name false ∷ []
wanted (Exclude names) earlier source e = if list_any (λ (n : Name8). is_name n e.name) names then [] else task source e e.name false ∷ []
wanted (Select picks) earlier source e = if is_taken e.name earlier then [] else map (λ (p : Pick). task source e p.new p.replace) (filter (λ (p : Pick). is_name p.name e.name) picks)

-- the copies of members of one more input
abbrev pub with_source : Choice → List MemberCopy → InputLibrary → DataSet → List MemberCopy
with_source choice earlier source x = earlier ++ flat_map (wanted choice earlier source) (entries_of x.body)

-- an input that is found, with the attributes of the first
abbrev pub source_for : ℕ → Option Attr → Input → DataSet → InputLibrary
source_for number given i x = record { number = number; set = i.set; attr = x.attr; given = unwrap_or given x.attr; replace = i.replace }

abbrev pub on_library : SetRef → Result DataSet Refusal → (DataSet → Result (List MemberCopy) RefusedSet) → Result (List MemberCopy) RefusedSet
on_library set (Err r) more = Err (record { dsn = set.dsn; refusal = r })
on_library set (Ok x) more = more x

-- The copies of members of inputs, in the order of the inputs and of their entries, after those of earlier inputs; or the first input that is refused.
abbrev pub tasks_of : Shelf → Choice → ℕ → Option Attr → List MemberCopy → List Input → Result (List MemberCopy) RefusedSet
tasks_of shelf choice number given earlier [] = Ok earlier
tasks_of shelf choice number given earlier (i ∷ is) =
    on_library i.set (library shelf i.set) (λ x. let source = source_for number given i x in tasks_of shelf choice (number + 1) (Some source.given) (with_source choice earlier source x) is)

-- A copy's entry may be entered: the entry of its member is lawful, and its name isn't that of the end entry.
pub record IsLawfulMemberCopy (t : MemberCopy) : Type 0 where
  pub entry : IsLawfulEntry t.entry
  pub name : bytes_eq t.name.bytes (replicate 8 255) ≡ false

-- the name that a copy is given may be entered
abbrev pub IsLawfulPick : Pick → Type 0
IsLawfulPick p = bytes_eq p.new.bytes (replicate 8 255) ≡ false

-- the names that a choice of members gives copies may be entered
abbrev pub IsLawfulChoice : Choice → Type 0
IsLawfulChoice All = Unit {0}
IsLawfulChoice (Select picks) = AllByRecursion IsLawfulPick picks
IsLawfulChoice (Exclude names) = Unit {0}

-- and so may those that an order gives
abbrev pub IsLawfulOrder : Order → Type 0
IsLawfulOrder (order.Copy o) = IsLawfulChoice o.choice
IsLawfulOrder (order.Fault f) = Unit {0}

-- ---- how they are read

-- the copies for the k-th entry are added, or there is none
abbrev pub TakesEntry : Result Bool Refusal → List Entry → ℕ → (Entry → List MemberCopy) → List MemberCopy → List MemberCopy → Type 0
TakesEntry (Ok true) es k copies old new = (e : Entry) × (slice_get es k ≡ Some e) × (new ≡ old ++ copies e)
TakesEntry (Ok false) es k copies old new = (slice_get es k ≡ None) × (new ≡ old)
TakesEntry (Err r) es k copies old new = ⊥

-- the copies of members of an input are added, or it is refused: what is still to come stays so
abbrev pub TakesInput : Result Attr RefusedSet → Shelf → Choice → ℕ → Option Attr → Input → List MemberCopy → List MemberCopy → Type 0
TakesInput (Ok given) shelf choice number before i old new = (is : List Input) → tasks_of shelf choice number before old (i ∷ is) ≡ tasks_of shelf choice (number + 1) (Some given) new is
TakesInput (Err f) shelf choice number before i old new = (is : List Input) → tasks_of shelf choice number before old (i ∷ is) ≡ Err f
