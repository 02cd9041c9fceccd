-- What IEHLIST prints in a step, statement by statement (Utilities GC28-6586, in this project's profile).
use Rattle.std.specs.Prelude.{◌≡◌, ℕ, ◌+◌, Bool, if◌then◌else◌, List, [], ◌∷◌, ◌++◌, codes, replicate, slice_get, Option, Some, None, option_and_then}
use Rattle.std.specs.List.{flat_map}
use Rattle.ebcdic_names.specs.declared.names.Dsn.{Dsn}
use Rattle.ebcdic_names.specs.declared.names.Serial.{Serial}
use Rattle.vol_model.specs.declared.answers.VolumeInfo.{VolumeInfo}
use Rattle.vol_model.specs.declared.contents.DataSet.{DataSet}
use Rattle.vol_model.specs.declared.contents.Run.{Run}
use Rattle.vol_model.specs.declared.contents.Shelf.{Shelf}
use Rattle.vol_model.specs.declared.contents.Volume.{Volume}
use Rattle.vol_model.specs.declared.refusals.Refusal.TheVariants.{NoSet, NoVolume}
use Rattle.vol_model.specs.Events.{Item}
use Rattle.vol_model.specs.Reading.{set_info, volume_info}
use Rattle.vol_model.specs.Shelf.{number_of, set_of}
use Rattle.util_syntax.specs.declared.listing.Object.{Object}
use Rattle.util_syntax.specs.declared.listing.Object.TheVariants as object
use Rattle.util_syntax.specs.declared.listing.Outcome.{Outcome}
use Rattle.util_syntax.specs.declared.listing.Outcome.TheVariants.{Done, Refused}
use Rattle.util_syntax.specs.declared.operands.SynErr.TheVariants.{BadOperand}
use Rattle.util_syntax.specs.declared.step.StepIn.{StepIn}
use Rattle.util_syntax.specs.Items.{StatementView}
use Rattle.util_program.specs.Statements.{program_items}
use Rattle.util_syntax.specs.Listing.{item_line}
use Rattle.util_syntax.specs.Program.{outcome_code, syntax_item}
use Rattle.iehlist_util.specs.declared.requests.ListPds.{ListPds}
use Rattle.iehlist_util.specs.declared.requests.ListVtoc.{ListVtoc}
use Rattle.iehlist_util.specs.declared.requests.Request.{Request}
use Rattle.iehlist_util.specs.declared.requests.Request.TheVariants.{Pds, Vtoc}
use Rattle.iehlist_util.specs.Directories.{PdsListing, pds_listing}
use Rattle.iehlist_util.specs.Lines.{extent_line, set_line, volume_line}
use Rattle.iehlist_util.specs.Requests.{request_of}

-- the lines of extents, numbered from this one on
abbrev pub extent_lines : ℕ → List Run → List (List ℕ)
extent_lines number [] = []
extent_lines number (run ∷ runs) = extent_line number run ∷ extent_lines (number + 1) runs

-- the lines of a data set; with FORMAT its extents, numbered from 1, have lines of their own
unfoldable pub set_lines : Bool → DataSet → List (List ℕ)
set_lines format x = set_line x.name.bytes (set_info x) ∷ (if format then extent_lines 1 x.extents else [])

-- the lines of a data set, if there is one
abbrev pub lines_of_set : Bool → Option DataSet → List (List ℕ)
lines_of_set format None = []
lines_of_set format (Some x) = set_lines format x

-- What is listed, and what became of it.
pub record Listing : Type 0 where
  pub lines : List (List ℕ)
  pub outcome : Outcome

-- lines in front of a listing
abbrev pub listed_behind : List (List ℕ) → Listing → Listing
listed_behind lines l = record { lines = lines ++ l.lines; outcome = l.outcome }

-- a data set in front of others, unless it isn't there
abbrev pub listed_if : Bool → Option DataSet → Listing → Listing
listed_if format None others = record { lines = []; outcome = Refused NoSet }
listed_if format (Some x) others = listed_behind (set_lines format x) others

-- data sets by their names, up to the first that the volume hasn't
unfoldable pub listed_sets : Bool → Volume → List Dsn → Listing
listed_sets format volume [] = record { lines = []; outcome = Done }
listed_sets format volume (dsn ∷ dsns) = listed_if format (set_of dsn.bytes volume) (listed_sets format volume dsns)

-- the data sets that are named, or all of the volume in their order
abbrev pub listed_on : Bool → Volume → Option (List Dsn) → Listing
listed_on format volume None = record { lines = flat_map (set_lines format) volume.sets; outcome = Done }
listed_on format volume (Some dsns) = listed_sets format volume dsns

-- a volume, and its data sets that are asked for
abbrev pub volume_listing : ListVtoc → Volume → Listing
volume_listing request volume = listed_behind (volume_line (volume_info volume) ∷ []) (listed_on request.format volume request.names)

-- the number of the volume that is named, or of the first
abbrev pub volume_number : Shelf → Option Serial → Option ℕ
volume_number shelf None = Some 0
volume_number shelf (Some serial) = number_of shelf serial.bytes

-- the serial that is named; none, which is six blanks, where none is
abbrev pub named_serial : Option Serial → Serial
named_serial None = record { bytes = replicate 6 0x40 }
named_serial (Some serial) = serial

-- the item of a listing, and the line that answers it: its operation, and what it names
abbrev pub listing_item : ℕ → List ℕ → Object → Listing → Item
listing_item card operation named l = record {
  operations = [];
  lines = l.lines ++ item_line card operation named l.outcome ∷ [];
  code = outcome_code l.outcome;
}

-- the item of a listing whose volume isn't there
abbrev pub no_volume_item : ℕ → List ℕ → Object → Item
no_volume_item card operation named = listing_item card operation named (record { lines = []; outcome = Refused NoVolume })

-- the item of LISTVTOC on a volume, if the shelf has that
abbrev pub vtoc_item : ℕ → ListVtoc → Option Volume → Item
vtoc_item card request None = no_volume_item card (codes "LISTVTOC") (object.Volume (named_serial request.volume))
vtoc_item card request (Some volume) = listing_item card (codes "LISTVTOC") (object.Volume volume.serial) (volume_listing request volume)

-- the item of directories that are listed
abbrev pub directories_item : ℕ → PdsListing → Item
directories_item card l = listing_item card (codes "LISTPDS") (object.Name l.answer.dsn) (record { lines = l.lines; outcome = l.answer.outcome })

-- the item of LISTPDS on a volume, if the shelf has that
abbrev pub pds_item : ℕ → ListPds → Option Volume → Item
pds_item card request None = no_volume_item card (codes "LISTPDS") (object.Name request.first)
pds_item card request (Some volume) = directories_item card (pds_listing volume request.first request.others)

-- the volume that is listed, by its serial or as the first
abbrev pub volume_for : Shelf → Option Serial → Option Volume
volume_for shelf serial = option_and_then (λ v. slice_get shelf.volumes v) (volume_number shelf serial)

-- the volume that is listed is found, with its number and what is told of it in short, or there is none
abbrev pub FindsVolume : Shelf → Option Serial → Option (ℕ × VolumeInfo) → Type 0
FindsVolume shelf serial None = volume_for shelf serial ≡ None
FindsVolume shelf serial (Some found) =
    (volume : Volume) × (volume_for shelf serial ≡ Some volume) × (slice_get shelf.volumes found.0 ≡ Some volume) × (found.1 ≡ volume_info volume)

-- the item of what a statement asks for
abbrev pub asked_item : Shelf → ℕ → Request → Item
asked_item shelf card (Vtoc request) = vtoc_item card request (volume_for shelf request.volume)
asked_item shelf card (Pds request) = pds_item card request (volume_for shelf request.volume)

-- the item of a statement, by what it asks for; one that asks for nothing that is done here is a fault
abbrev pub requested_item : Shelf → ℕ → Option Request → Item
requested_item shelf card None = syntax_item card BadOperand
requested_item shelf card (Some request) = asked_item shelf card request

-- the item of a statement
abbrev pub statement_item : Shelf → StatementView → Item
statement_item shelf s = requested_item shelf s.card (request_of s)

-- the items of a step
abbrev pub iehlist_items : StepIn → Shelf → List Item
iehlist_items step = program_items statement_item step
