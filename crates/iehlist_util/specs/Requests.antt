-- What the statements of IEHLIST ask for (Utilities GC28-6586, in this project's profile).
use Rattle.std.specs.Prelude.{◌||◌, Bool, if◌then◌else◌, List, [], ◌∷◌, codes, Option, Some, None, option_map, option_and_then}
use Rattle.std.specs.List.{list_all}
use Rattle.ebcdic_names.specs.declared.names.Dsn.{Dsn}
use Rattle.ebcdic_names.specs.declared.names.Serial.{Serial}
use Rattle.card_text.specs.Operands.{OperandView}
use Rattle.util_syntax.specs.Forms.{data_sets_in, flag_of, has_keyword, if_given, is_flag, is_named, volume_in}
use Rattle.util_syntax.specs.Items.{StatementView}
use Rattle.iehlist_util.specs.declared.requests.ListPds.{ListPds}
use Rattle.iehlist_util.specs.declared.requests.ListVtoc.{ListVtoc}
use Rattle.iehlist_util.specs.declared.requests.Request.{Request}
use Rattle.iehlist_util.specs.declared.requests.Request.TheVariants.{Pds, Vtoc}

-- the operands of LISTVTOC
abbrev pub is_vtoc_operand : OperandView → Bool
is_vtoc_operand o = has_keyword (codes "VOL") o || (has_keyword (codes "DSNAME") o || is_flag (codes "FORMAT") o)

abbrev pub vtoc_with : Option (Option Serial) → Option Bool → Option (Option (List Dsn)) → Option ListVtoc
vtoc_with volume format names =
    option_and_then (λ (v : Option Serial). option_and_then (λ (f : Bool). option_map (λ (n : Option (List Dsn)). record { volume = v; format = f; names = n }) names) format) volume

-- LISTVTOC VOL=dev=serial,FORMAT,DSNAME=(dsn,..), each once at most
unfoldable pub vtoc_of : List OperandView → Option ListVtoc
vtoc_of operands =
    if list_all is_vtoc_operand operands
    then vtoc_with (if_given volume_in (codes "VOL") operands) (flag_of (codes "FORMAT") operands) (if_given data_sets_in (codes "DSNAME") operands)
    else None

-- the operands of LISTPDS
abbrev pub is_pds_operand : OperandView → Bool
is_pds_operand o = has_keyword (codes "DSNAME") o || has_keyword (codes "VOL") o

-- LISTPDS of these data sets, of which there is one at least
abbrev pub pds_among : Option Serial → List Dsn → Option ListPds
pds_among volume [] = None
pds_among volume (dsn ∷ dsns) = Some (record { volume = volume; first = dsn; others = dsns })

-- LISTPDS with DSNAME, which may not be missing
abbrev pub pds_named : Option Serial → Option (List Dsn) → Option ListPds
pds_named volume names = option_and_then (pds_among volume) names

-- LISTPDS by what its keywords say
abbrev pub pds_with : Option (Option Serial) → Option (Option (List Dsn)) → Option ListPds
pds_with volume names = option_and_then (λ (v : Option Serial). option_and_then (pds_named v) names) volume

-- LISTPDS DSNAME=(dsn,..), once, and VOL=dev=serial, once at most
unfoldable pub pds_of : List OperandView → Option ListPds
pds_of operands =
    if list_all is_pds_operand operands
    then pds_with (if_given volume_in (codes "VOL") operands) (if_given data_sets_in (codes "DSNAME") operands)
    else None

-- what a statement asks for, if it has the form of its operation
unfoldable pub request_of : StatementView → Option Request
request_of s =
    if is_named (codes "LISTVTOC") s.op then option_map Vtoc (vtoc_of s.operands)
    else (if is_named (codes "LISTPDS") s.op then option_map Pds (pds_of s.operands) else None)
