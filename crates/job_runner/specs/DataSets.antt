-- What the DDs of a step do and give, in this project's profile.
use Rattle.std.specs.Prelude.{ℕ, Bool, true, false, List, [], ◌∷◌, ◌++◌, codes, map, slice_get, is_some, Option, Some, None, ok_or, Result, Ok, Err, if◌then◌else◌}
use Rattle.std.specs.Option.{option_map_or}
use Rattle.ebcdic_names.specs.declared.names.Dsn.{Dsn}
use Rattle.ebcdic_names.specs.declared.names.Name8.{Name8}
use Rattle.ebcdic_names.specs.declared.names.Serial.{Serial}
use Rattle.indexmap.specs.IndexMap.{insert_all}
use Rattle.jcl_forms.specs.declared.data_set.DdPart.{DdPart}
use Rattle.jcl_forms.specs.declared.data_set.DdPart.TheVariants.{Member}
use Rattle.jcl_forms.specs.declared.disposition.DdStatus.{DdStatus}
use Rattle.jcl_forms.specs.declared.disposition.DdStatus.TheVariants.{New, Mod}
use Rattle.jcl_forms.specs.declared.space.Space.{Space}
use Rattle.job_deck.specs.declared.job.Dd.{Dd}
use Rattle.job_deck.specs.declared.job.DdSet.{DdSet}
use Rattle.job_deck.specs.declared.job.DdWhat.{DdWhat}
use Rattle.job_deck.specs.declared.job.DdWhat.TheVariants as what
use Rattle.util_syntax.specs.declared.listing.Object.TheVariants.{Name}
use Rattle.util_syntax.specs.declared.listing.Outcome.{Outcome}
use Rattle.util_syntax.specs.declared.listing.Outcome.TheVariants.{Done, Refused}
use Rattle.util_syntax.specs.declared.step.DdIn.{DdIn}
use Rattle.util_syntax.specs.declared.step.DdIn.TheVariants as given
use Rattle.util_syntax.specs.Listing.{item_line}
use Rattle.util_syntax.specs.Step.{same_name}
use Rattle.vol_model.specs.declared.contents.Shelf.{Shelf}
use Rattle.vol_model.specs.declared.contents.Volume.{Volume}
use Rattle.vol_model.specs.declared.refusals.Refusal.{Refusal}
use Rattle.vol_model.specs.declared.refusals.Refusal.TheVariants.{NoVolume, NoSet, NoSpace, NoNode}
use Rattle.vol_model.specs.declared.requests.Op.{Op}
use Rattle.vol_model.specs.declared.requests.Op.TheVariants.{Allocate}
use Rattle.vol_model.specs.declared.requests.Request.{Request}
use Rattle.vol_model.specs.Did.{Did, answered}
use Rattle.vol_model.specs.Events.{Item}
use Rattle.vol_model.specs.Shelf.{number_of}
use Rattle.vol_model.specs.Writing.{did_apply, set_on}
use Rattle.job_runner.specs.declared.new_sets.NewSet.{NewSet}
use Rattle.job_runner.specs.Parts.{behind_items}
use Rattle.job_runner.specs.Space.{new_attributes, request_on}

-- what became of an operation
abbrev pub outcome_for : Result (Unit {0}) Refusal → Outcome
outcome_for (Ok x) = Done
outcome_for (Err refusal) = Refused refusal

-- the code of an operation, with this one where it is refused
abbrev pub code_for : ℕ → Result (Unit {0}) Refusal → ℕ
code_for refused (Ok x) = 0
code_for refused (Err refusal) = refused

-- the item of one operation for a DD, by the DD's card, the word of the operation and the set
abbrev pub operation_item : ℕ → List ℕ → Dsn → ℕ → Did (Unit {0}) Refusal → Item
operation_item card word dsn refused did =
    record { operations = did.operations; lines = item_line card word (Name dsn) (outcome_for did.answer) ∷ []; code = code_for refused did.answer }

-- What a DD comes to: its item, if it has one, and what it gives to the program, unless it is refused.
pub record Resolved : Type 0 where
  pub items : List Item
  pub dd : Option DdIn

-- a DD that does nothing
abbrev pub gives : DdIn → Resolved
gives dd = record { items = []; dd = Some dd }

-- a DD that is refused before it does anything
abbrev pub refuses : List ℕ → ℕ → Dsn → Refusal → Resolved
refuses word card dsn refusal = record { items = operation_item card word dsn 12 (answered (Err refusal)) ∷ []; dd = None }

abbrev pub if_done : {X : Type 0} → Result (Unit {0}) Refusal → X → Option X
if_done (Ok x) dd = Some dd
if_done (Err refusal) dd = None

-- a DD of which one operation makes the set
abbrev pub makes : ℕ → Dsn → Did (Unit {0}) Refusal → DdIn → Resolved
makes card dsn did dd = record { items = operation_item card (codes "ALLOCATE") dsn 12 did ∷ []; dd = if_done did.answer dd }

abbrev pub is_mod : DdStatus → Bool
is_mod Mod = true
is_mod _ = false

abbrev pub member_of : DdPart → Option Name8
member_of (Member name) = Some name
member_of _ = None

-- what a DD with a set gives: with MOD, records go after those that are there
abbrev pub set_given : DdSet → ℕ → DdIn
set_given set v = given.Set v set.dsn (member_of set.part) (is_mod set.status) set.dcb

-- the volume of a new set: that of VOL, and else unit 0
abbrev pub new_number : DdSet → Shelf → Option ℕ
new_number set shelf = option_map_or (λ (serial : Serial). number_of shelf serial.bytes) set.serial (Some 0)

abbrev pub wanted_with : Space → ℕ → Option Request → Result NewSet Refusal
wanted_with space v None = Err (NoSpace 0)
wanted_with space v (Some request) = Ok (record { v = v; request = request; dir = space.dir })

abbrev pub wanted_on : Space → ℕ → Option Volume → Result NewSet Refusal
wanted_on space v None = Err NoVolume
wanted_on space v (Some volume) = wanted_with space v (request_on volume.geometry.device space)

abbrev pub wanted_at : Space → Shelf → Option ℕ → Result NewSet Refusal
wanted_at space shelf None = Err NoVolume
wanted_at space shelf (Some v) = wanted_on space v (slice_get shelf.volumes v)

-- Where a new set is made and what it asks for, or why it isn't made. Without SPACE it isn't, whatever its volume is.
unfoldable pub wanted : DdSet → Shelf → Result NewSet Refusal
wanted set shelf = option_map_or (λ space. wanted_at space shelf (new_number set shelf)) set.space (Err (NoSpace 0))

-- the operation that makes a new set on a date
abbrev pub allocation : List ℕ → DdSet → NewSet → Op
allocation date set w = Allocate w.v set.dsn (new_attributes date set w.dir) w.request w.dir

abbrev pub new_with : List ℕ → ℕ → DdSet → Shelf → Result NewSet Refusal → Resolved
new_with date card set shelf (Err refusal) = refuses (codes "ALLOCATE") card set.dsn refusal
new_with date card set shelf (Ok w) = makes card set.dsn (did_apply shelf (allocation date set w)) (set_given set w.v)

-- a new set
unfoldable pub new_set : List ℕ → ℕ → DdSet → Shelf → Resolved
new_set date card set shelf = new_with date card set shelf (wanted set shelf)

-- The volume on which a set is looked for, that of VOL. Without VOL the catalog would give it; none is read yet.
unfoldable pub looked_for : DdSet → Shelf → Result ℕ Refusal
looked_for set shelf = option_map_or (λ (serial : Serial). ok_or (number_of shelf serial.bytes) NoVolume) set.serial (Err NoNode)

-- a set that isn't there is made for MOD
abbrev pub not_there : List ℕ → ℕ → DdSet → Shelf → Resolved
not_there date card set shelf = if is_mod set.status then new_set date card set shelf else refuses (codes "FIND") card set.dsn NoSet

abbrev pub found_on : List ℕ → ℕ → DdSet → Shelf → Result ℕ Refusal → Resolved
found_on date card set shelf (Err refusal) = refuses (codes "FIND") card set.dsn refusal
found_on date card set shelf (Ok v) = if is_some (set_on shelf v set.dsn.bytes) then gives (set_given set v) else not_there date card set shelf

-- a set that is looked for
unfoldable pub old_set : List ℕ → ℕ → DdSet → Shelf → Resolved
old_set date card set shelf = found_on date card set shelf (looked_for set shelf)

abbrev pub set_by : List ℕ → ℕ → DdSet → Shelf → DdStatus → Resolved
set_by date card set shelf New = new_set date card set shelf
set_by date card set shelf _ = old_set date card set shelf

abbrev pub resolved_as : List ℕ → ℕ → Shelf → DdWhat → Resolved
resolved_as date card shelf what.Dummy = gives given.Dummy
resolved_as date card shelf what.Sysout = gives given.Sysout
resolved_as date card shelf (what.Cards cards) = gives (given.Cards cards)
resolved_as date card shelf (what.Set set) = set_by date card set shelf set.status

-- A DD on a shelf, on the date of the run.
unfoldable pub resolved : List ℕ → Dd → Shelf → Resolved
resolved date dd shelf = resolved_as date dd.card shelf dd.what

-- The DDs of a step up to one that is refused: their items, what those in front of it give, and whether there is such a one.
pub record Definitions : Type 0 where
  pub items : List Item
  pub dds : List (Dd × DdIn)
  pub is_refused : Bool

abbrev pub with_first : Dd → List Item → Option DdIn → Definitions → Definitions
with_first dd items None rest = record { items = items; dds = []; is_refused = true }
with_first dd items (Some found) rest = record { items = items ++ rest.items; dds = (dd, found) ∷ rest.dds; is_refused = rest.is_refused }

-- DDs in order, each on the shelf after those before it
unfoldable pub definitions : List ℕ → List Dd → Shelf → Definitions
definitions date [] shelf = record { items = []; dds = []; is_refused = false }
definitions date (dd ∷ dds) shelf =
    let first = resolved date dd shelf in
    with_first dd first.items first.dd (definitions date dds (behind_items shelf first.items))

-- a DD by its name
abbrev pub by_name : Dd × DdIn → Name8 × DdIn
by_name p = (p.0.name, p.1)

-- DDs by their names, of which no step has one twice
unfoldable pub table_of : List (Dd × DdIn) → List (Name8 × DdIn)
table_of dds = insert_all same_name [] (map by_name dds)
