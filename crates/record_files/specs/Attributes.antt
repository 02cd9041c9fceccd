-- The attributes of the records that are read and written, and the refusals that are found before the first operation.
use Rattle.std.specs.Prelude.{◌≡◌, ℕ, ◌==◌, nat_le, not, Bool, ◌&&◌, ◌||◌, if◌then◌else◌, is_some, unwrap_or, List, slice_get, Option, Some, None, Result, Ok, Err}
use Rattle.ebcdic_names.specs.declared.names.Dsn.{Dsn}
use Rattle.jcl_forms.specs.declared.attributes.Dcb.{Dcb}
use Rattle.record_blocks.specs.declared.formats.Format.{Format}
use Rattle.record_blocks.specs.Formats.{first_fault}
use Rattle.vol_model.specs.declared.answers.Kind.{Kind}
use Rattle.vol_model.specs.declared.answers.Kind.TheVariants as kinds
use Rattle.vol_model.specs.declared.answers.SetInfo.{SetInfo}
use Rattle.vol_model.specs.declared.contents.Attr.{Attr}
use Rattle.vol_model.specs.Reading.{set_info}
use Rattle.vol_model.specs.declared.contents.DataSet.{DataSet}
use Rattle.vol_model.specs.declared.contents.Shelf.{Shelf}
use Rattle.vol_model.specs.declared.contents.Volume.{Volume}
use Rattle.vol_model.specs.declared.refusals.Refusal.{Refusal}
use Rattle.vol_model.specs.declared.refusals.Refusal.TheVariants.{NoMember, NoSet, NoVolume, Unreadable, WrongKind}
use Rattle.vol_model.specs.Shelf.{is_catalog, is_partitioned, is_sequential, set_of, unreadable}
use Rattle.util_steps.specs.declared.calls.SetRef.{SetRef}
use Rattle.record_files.specs.declared.attributes.Purpose.{Purpose}
use Rattle.record_files.specs.declared.attributes.Purpose.TheVariants as purposes

-- ---- formats

abbrev pub format_in : Attr → Format
format_in a = record { recfm = a.recfm; lrecl = a.lrecl; blksize = a.blksize }

-- the format of a data set with these attributes, or of cards: F, 80, 80
abbrev pub format_with : Option Attr → Format
format_with None = record { recfm = 0x80; lrecl = 80; blksize = 80 }
format_with (Some a) = format_in a

-- attributes with the record format and lengths of others
abbrev pub with_format_of : Attr → Attr → Attr
with_format_of other own = record own { recfm = other.recfm; optcd = other.optcd; blksize = other.blksize; lrecl = other.lrecl; keylen = other.keylen; rkp = other.rkp }

-- attributes with those of cards: F, 80, 80
abbrev pub with_card_format : Attr → Attr
with_card_format own = record own { recfm = 0x80; optcd = 0; blksize = 80; lrecl = 80; keylen = 0; rkp = 0 }

-- attributes with those that a DD gives
abbrev pub with_dcb : Dcb → Attr → Attr
with_dcb dcb a = record a { recfm = unwrap_or dcb.recfm a.recfm; lrecl = unwrap_or dcb.lrecl a.lrecl; blksize = unwrap_or dcb.blksize a.blksize; keylen = unwrap_or dcb.keylen a.keylen }

-- the attributes of an input: those of its data set, or of cards where it is none
abbrev pub input_attr : Option Attr → Attr → Attr
input_attr None own = with_card_format own
input_attr (Some input) own = input

-- the attributes of the output: the DD's, else the data set's own where its record format isn't 0, else the input's
unfoldable pub output_attr : Dcb → Attr → Option Attr → Attr
output_attr dcb own input = with_dcb dcb (if own.recfm == 0 then with_format_of (input_attr input own) own else own)

-- one of two formats breaks a rule
abbrev pub breaks_rule : Format → Format → Bool
breaks_rule input output = is_some (first_fault input) || is_some (first_fault output)

-- ---- refusals

-- a data set serves a purpose: a sequential one is read and written, and to be emptied before it may have no organization; a partitioned one has members
abbrev pub serves : Purpose → List ℕ → Attr → Bool
serves purposes.Records name attr = is_sequential name attr
serves purposes.Rewrite name attr = is_sequential name attr || (attr.dsorg == 0 && not (is_catalog name))
serves purposes.Members name attr = is_partitioned name attr

abbrev pub unless_refused : DataSet → Option Refusal → Result DataSet Refusal
unless_refused x None = Ok x
unless_refused x (Some r) = Err r

abbrev pub set_if_there : Purpose → List ℕ → Option DataSet → Result DataSet Refusal
set_if_there purpose name None = Err NoSet
set_if_there purpose name (Some x) = if serves purpose name x.attr then unless_refused x (unreadable x.body) else Err WrongKind

abbrev pub set_if_mounted : Purpose → Dsn → Option Volume → Result DataSet Refusal
set_if_mounted purpose dsn None = Err NoVolume
set_if_mounted purpose dsn (Some volume) = set_if_there purpose dsn.bytes (set_of dsn.bytes volume)

-- a data set that serves a purpose, or why there is none
unfoldable pub usable_set : Shelf → Purpose → SetRef → Result DataSet Refusal
usable_set shelf purpose s = set_if_mounted purpose s.dsn (slice_get shelf.volumes s.v)

-- the number of a refusal of those that are met here
abbrev pub rank : Refusal → ℕ
rank NoVolume = 1
rank NoSet = 2
rank WrongKind = 4
rank (Unreadable track) = 5
rank NoMember = 10
rank _ = 11

abbrev pub first_refusal : Refusal → Refusal → Refusal
first_refusal a b = if nat_le (rank a) (rank b) then a else b

-- both, or of their refusals the one of the lower number
abbrev pub found_both : {X Y : Type 0} → Result X Refusal → Result Y Refusal → Result (X × Y) Refusal
found_both (Ok x) (Ok y) = Ok (x, y)
found_both (Ok x) (Err r) = Err r
found_both (Err r) (Ok y) = Err r
found_both (Err r) (Err q) = Err (first_refusal r q)

-- ---- what a machine tells of a set in short

-- a set in short, unless its body can't be read
abbrev pub info_unless : SetInfo → Kind → Result SetInfo Refusal
info_unless info (kinds.Unreadable track) = Err (Unreadable track)
info_unless info kind = Ok info

-- what is told of a set, if it serves a purpose and can be read
abbrev pub info_if : Purpose → List ℕ → SetInfo → Result SetInfo Refusal
info_if purpose name info = if serves purpose name info.attr then info_unless info info.kind else Err WrongKind

-- a set is found, with what is told of it in short, or refused
abbrev pub FindsSet : Result SetInfo Refusal → Result DataSet Refusal → Type 0
FindsSet (Ok info) found = (x : DataSet) × (found ≡ Ok x) × (info ≡ set_info x)
FindsSet (Err r) found = found ≡ Err r
