-- What IEHPROGM does in a step, statement by statement (Utilities GC28-6586, in this project's profile).
use Rattle.std.specs.Prelude.{ℕ, ◌&&◌, not, Bool, false, if◌then◌else◌, List, find, codes, Option, Some, None, Result, Ok, Err, ok_or}
use Rattle.std.specs.Option.{option_map_or}
use Rattle.std.specs.Str.{bytes_eq}
use Rattle.ebcdic_names.specs.declared.names.Dsn.{Dsn}
use Rattle.ebcdic_names.specs.declared.names.Name8.{Name8}
use Rattle.ebcdic_names.specs.declared.names.Serial.{Serial}
use Rattle.vol_model.specs.declared.contents.Entry.{Entry}
use Rattle.vol_model.specs.declared.contents.Shelf.{Shelf}
use Rattle.vol_model.specs.declared.refusals.Refusal.{Refusal}
use Rattle.vol_model.specs.declared.refusals.Refusal.TheVariants.{NoVolume, WrongKind, Unreadable, NoMember}
use Rattle.vol_model.specs.declared.requests.Op.TheVariants as ops
use Rattle.vol_model.specs.Did.{Did, and_then, answered, because}
use Rattle.vol_model.specs.Events.{Item}
use Rattle.vol_model.specs.Reading.{entries_in}
use Rattle.vol_model.specs.Shelf.{is_partitioned, number_of, on_found, refuse}
use Rattle.vol_model.specs.Writing.{set_on}
use Rattle.util_steps.specs.Expiry.{is_unexpired}
use Rattle.util_syntax.specs.declared.listing.Object.{Object}
use Rattle.util_syntax.specs.declared.listing.Object.TheVariants as object
use Rattle.util_syntax.specs.declared.listing.Outcome.{Outcome}
use Rattle.util_syntax.specs.declared.listing.Outcome.TheVariants as outcome
use Rattle.util_syntax.specs.declared.operands.SynErr.TheVariants.{BadOperand}
use Rattle.util_syntax.specs.declared.step.StepIn.{StepIn}
use Rattle.util_syntax.specs.Items.{StatementView}
use Rattle.util_syntax.specs.Program.{answered_item, syntax_item}
use Rattle.util_program.specs.Outcomes.{performed}
use Rattle.util_program.specs.Statements.{program_items}
use Rattle.iehprogm_util.specs.declared.requests.Request.{Request}
use Rattle.iehprogm_util.specs.declared.requests.Request.TheVariants.{Rename, RenameMember, Scratch, ScratchMember}
use Rattle.iehprogm_util.specs.Requests.{request_of}

-- a data set that goes, unless it is there, unexpired and not to be purged
unfoldable pub scratched : List ℕ → Shelf → ℕ → Dsn → Bool → Did (Unit {0}) Outcome
scratched date shelf v dsn purge =
    if not purge && option_map_or (is_unexpired date) (set_on shelf v dsn.bytes) false
    then answered (Err outcome.Expires) else performed shelf (ops.Scratch v dsn)

-- the entry of this name in a directory that can be read, or why there is none
abbrev pub entry_in : Name8 → Result (List Entry) ℕ → Result Entry Refusal
entry_in name (Ok entries) = ok_or (find (λ (e : Entry). bytes_eq e.name.bytes name.bytes) entries) NoMember
entry_in name (Err track) = Err (Unreadable track)

-- the entry of a member, or the first reason for which there is none
unfoldable pub member_on : Shelf → ℕ → Dsn → Name8 → Result Entry Refusal
member_on shelf v dsn name =
    on_found (set_on shelf v dsn.bytes) (λ x. refuse (not (is_partitioned dsn.bytes x.attr)) WrongKind (entry_in name (entries_in x.body)))

-- an entry is renamed: it is entered under the new name, which no entry has yet, and then dropped under the old one
unfoldable pub entry_renamed : Shelf → ℕ → Dsn → Name8 → Name8 → Entry → Did (Unit {0}) Outcome
entry_renamed shelf v dsn old new e =
    and_then shelf (performed shelf (ops.Enter v dsn (record e { name = new }) false)) (λ x u. performed u (ops.Drop v dsn old))

-- a member is renamed, if it is there
unfoldable pub member_renamed : Shelf → ℕ → Dsn → Name8 → Name8 → Did (Unit {0}) Outcome
member_renamed shelf v dsn old new =
    and_then shelf (answered (because outcome.Refused (member_on shelf v dsn old))) (λ e u. entry_renamed u v dsn old new e)

-- what a statement does on a volume, by the date of the run
abbrev pub steps_on : List ℕ → Shelf → ℕ → Request → Did (Unit {0}) Outcome
steps_on date shelf v (Rename serial old new) = performed shelf (ops.Rename v old new)
steps_on date shelf v (RenameMember serial dsn old new) = member_renamed shelf v dsn old new
steps_on date shelf v (Scratch serial dsn purge) = scratched date shelf v dsn purge
steps_on date shelf v (ScratchMember serial dsn member) = performed shelf (ops.Drop v dsn member)

-- the serial of the volume that a statement names
abbrev pub serial_in : Request → Serial
serial_in (Rename serial old new) = serial
serial_in (RenameMember serial dsn old new) = serial
serial_in (Scratch serial dsn purge) = serial
serial_in (ScratchMember serial dsn member) = serial

-- what a statement does on the volume that it names, if the shelf has that
unfoldable pub steps_of : List ℕ → Shelf → Request → Did (Unit {0}) Outcome
steps_of date shelf request =
    option_map_or (λ v. steps_on date shelf v request) (number_of shelf (serial_in request).bytes) (answered (Err (outcome.Refused NoVolume)))

-- its operation
abbrev pub operation_word : Request → List ℕ
operation_word (Rename serial old new) = codes "RENAME"
operation_word (RenameMember serial dsn old new) = codes "RENAME"
operation_word (Scratch serial dsn purge) = codes "SCRATCH"
operation_word (ScratchMember serial dsn member) = codes "SCRATCH"

-- the data set or the member that it names; of one that is renamed, the old name
abbrev pub object_of : Request → Object
object_of (Rename serial old new) = object.Name old
object_of (RenameMember serial dsn old new) = object.Member dsn old
object_of (Scratch serial dsn purge) = object.Name dsn
object_of (ScratchMember serial dsn member) = object.Member dsn member

-- the item of a statement that has the form of its operation, on a card
abbrev pub request_item : List ℕ → Shelf → ℕ → Request → Item
request_item date shelf card request = answered_item card (operation_word request) (object_of request) (steps_of date shelf request)

-- a statement that asks for nothing that is done here is a fault
abbrev pub requested_item : List ℕ → Shelf → ℕ → Option Request → Item
requested_item date shelf card None = syntax_item card BadOperand
requested_item date shelf card (Some request) = request_item date shelf card request

-- the item of a statement
abbrev pub statement_item : List ℕ → Shelf → StatementView → Item
statement_item date shelf s = requested_item date shelf s.card (request_of s)

-- the items of a step
abbrev pub iehprogm_items : StepIn → Shelf → List Item
iehprogm_items step = program_items (statement_item step.date) step
