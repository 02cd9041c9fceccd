-- What a DD takes so far: data sets and their members, which the step keeps or scratches, but no generation and no new catalog.
use Rattle.std.specs.Prelude.{ℕ, Bool, false, true, ◌&&◌, if◌then◌else◌, List, [], ◌∷◌, codes, find, Option, Some, None, option_and_then}
use Rattle.std.specs.List.{list_any}
use Rattle.std.specs.Option.{option_map_or}
use Rattle.ebcdic_names.specs.declared.names.Dsn.{Dsn}
use Rattle.card_text.specs.declared.nesting.Mark.{Mark}
use Rattle.card_text.specs.Operands.{keyed}
use Rattle.card_text.specs.Values.{text_of}
use Rattle.jcl_forms.specs.DataSet.{data_set_of}
use Rattle.jcl_forms.specs.Disposition.{disposition_of}
use Rattle.jcl_forms.specs.declared.data_set.DdPart.{DdPart}
use Rattle.jcl_forms.specs.declared.data_set.DdPart.TheVariants.{Whole, Member, Generation}
use Rattle.jcl_forms.specs.declared.disposition.DdStatus.{DdStatus}
use Rattle.jcl_forms.specs.declared.disposition.DdStatus.TheVariants.{New, Old, Shr, Mod}
use Rattle.jcl_forms.specs.declared.disposition.DdAfter.{DdAfter}
use Rattle.jcl_forms.specs.declared.disposition.DdAfter.TheVariants.{Delete, Keep, Catlg, Uncatlg}
use Rattle.vol_model.specs.Shelf.{is_catalog}
use Rattle.job_deck.specs.Faults.{fault_at}
use Rattle.job_deck.specs.Statements.{is_text, is_either}
use Rattle.job_deck.specs.declared.faults.JclErr.{JclErr}
use Rattle.job_deck.specs.declared.faults.JclKind.TheVariants.{BadOperand}
use Rattle.job_deck.specs.declared.operands.Piece.{Piece}

-- a value that passes a test
abbrev pub taken : {A : Type 0} → (A → Bool) → Option A → Option A
taken test value = option_and_then (λ v. if test v then Some v else None) value

-- the set itself or a member, and no generation
abbrev pub is_of_one_set : DdPart → Bool
is_of_one_set Whole = true
is_of_one_set (Member name) = true
is_of_one_set (Generation n) = false

-- the value of a DSN that names a set or a member of it
unfoldable pub named_set_of : List ℕ → Option (Dsn × DdPart)
named_set_of text = taken (λ named. is_of_one_set named.1) (data_set_of text)

-- nothing is done in the catalog
abbrev pub leaves_catalog : DdAfter → Bool
leaves_catalog Delete = true
leaves_catalog Keep = true
leaves_catalog Catlg = false
leaves_catalog Uncatlg = false

-- the value of a DISP that leaves the catalog as it is
unfoldable pub plain_disposition_of : List ℕ → Option (DdStatus × DdAfter)
plain_disposition_of text = taken (λ d. leaves_catalog d.1) (disposition_of text)

-- the set named is the catalog's, whatever part of it is meant
abbrev pub is_of_catalog : Option (Dsn × DdPart) → Bool
is_of_catalog named = option_map_or (λ n. is_catalog n.0.bytes) named false

-- a DSN that names SYSCTLG, or a member of it
abbrev pub is_catalog_name : Option (List Mark × List Mark) → Bool
is_catalog_name None = false
is_catalog_name (Some parts) =
    is_either (codes "DSN") (codes "DSNAME") (text_of parts.0) && is_of_catalog (data_set_of (text_of parts.1))

abbrev pub names_catalog : Piece → Bool
names_catalog piece = is_catalog_name (keyed piece.text)

-- of a set that is there already
abbrev pub is_old : Option (DdStatus × DdAfter) → Bool
is_old None = false
is_old (Some (New, after)) = false
is_old (Some (Old, after)) = true
is_old (Some (Shr, after)) = true
is_old (Some (Mod, after)) = false

-- DISP with OLD or SHR
abbrev pub is_old_disposition : Option (List Mark × List Mark) → Bool
is_old_disposition None = false
is_old_disposition (Some parts) = is_text (codes "DISP") (text_of parts.0) && is_old (disposition_of (text_of parts.1))

abbrev pub asks_for_old : Piece → Bool
asks_for_old piece = is_old_disposition (keyed piece.text)

-- the fault of operands that may make a catalog stands at its name
unfoldable pub new_catalog_faults : List Piece → List JclErr
new_catalog_faults pieces =
    if list_any asks_for_old pieces then []
    else option_map_or (λ piece. fault_at piece.place BadOperand ∷ []) (find names_catalog pieces) []
