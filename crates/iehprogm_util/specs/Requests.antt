-- What the statements of IEHPROGM ask for (Utilities GC28-6586, in this project's profile).
use Rattle.std.specs.Prelude.{◌||◌, Bool, if◌then◌else◌, List, codes, Option, None, option_map, option_and_then}
use Rattle.std.specs.List.{list_all, list_any}
use Rattle.ebcdic_names.specs.declared.names.Dsn.{Dsn}
use Rattle.ebcdic_names.specs.declared.names.Name8.{Name8}
use Rattle.ebcdic_names.specs.declared.names.Serial.{Serial}
use Rattle.card_text.specs.Operands.{OperandView}
use Rattle.util_syntax.specs.Forms.{IsMemberName, data_set_of, flag_of, has_keyword, is_flag, is_named, member_of, volume_of}
use Rattle.util_syntax.specs.Items.{StatementView}
use Rattle.iehprogm_util.specs.declared.requests.Request.{Request}
use Rattle.iehprogm_util.specs.declared.requests.Request.TheVariants.{Rename, RenameMember, Scratch, ScratchMember}

-- ---- members

-- an operand says that a member is meant
abbrev pub names_member : List OperandView → Bool
names_member operands = list_any (has_keyword (codes "MEMBER")) operands

-- where an entry is renamed, it may have the new name
abbrev pub IsLawfulRequest : Request → Type 0
IsLawfulRequest (Rename serial old new) = Unit {0}
IsLawfulRequest (RenameMember serial dsn old new) = IsMemberName new
IsLawfulRequest (Scratch serial dsn purge) = Unit {0}
IsLawfulRequest (ScratchMember serial dsn member) = Unit {0}

-- ---- RENAME

-- the operands of RENAME
abbrev pub is_rename_operand : OperandView → Bool
is_rename_operand o = has_keyword (codes "DSNAME") o || (has_keyword (codes "VOL") o || (has_keyword (codes "NEWNAME") o || has_keyword (codes "MEMBER") o))

abbrev pub rename_with : Option Dsn → Option Serial → Option Dsn → Option Request
rename_with old serial new = option_and_then (λ (o : Dsn). option_and_then (λ (s : Serial). option_map (λ (n : Dsn). Rename s o n) new) serial) old

-- DSNAME=old,VOL=dev=serial,NEWNAME=new, each once: a data set is renamed
unfoldable pub set_rename_of : List OperandView → Option Request
set_rename_of operands = rename_with (data_set_of (codes "DSNAME") operands) (volume_of (codes "VOL") operands) (data_set_of (codes "NEWNAME") operands)

abbrev pub member_rename_with : Option Dsn → Option Serial → Option Name8 → Option Name8 → Option Request
member_rename_with dsn serial old new =
    option_and_then (λ (d : Dsn). option_and_then (λ (s : Serial). option_and_then (λ (o : Name8). option_map (λ (n : Name8). RenameMember s d o n) new) old) serial) dsn

-- DSNAME=dsn,VOL=dev=serial,MEMBER=old,NEWNAME=new, each once: a member of the data set is renamed
unfoldable pub member_rename_of : List OperandView → Option Request
member_rename_of operands =
    member_rename_with (data_set_of (codes "DSNAME") operands) (volume_of (codes "VOL") operands) (member_of (codes "MEMBER") operands) (member_of (codes "NEWNAME") operands)

-- what RENAME asks for by its operands
unfoldable pub rename_of : List OperandView → Option Request
rename_of operands =
    if list_all is_rename_operand operands
    then (if names_member operands then member_rename_of operands else set_rename_of operands)
    else None

-- ---- SCRATCH

-- the operands of SCRATCH
abbrev pub is_scratch_operand : OperandView → Bool
is_scratch_operand o = has_keyword (codes "DSNAME") o || (has_keyword (codes "VOL") o || (has_keyword (codes "MEMBER") o || is_flag (codes "PURGE") o))

abbrev pub scratch_with : Option Dsn → Option Serial → Option Bool → Option Request
scratch_with dsn serial purge = option_and_then (λ (d : Dsn). option_and_then (λ (s : Serial). option_map (λ (p : Bool). Scratch s d p) purge) serial) dsn

-- DSNAME=dsn,VOL=dev=serial, each once, and PURGE once at most: a data set goes
unfoldable pub set_scratch_of : List OperandView → Option Request
set_scratch_of operands = scratch_with (data_set_of (codes "DSNAME") operands) (volume_of (codes "VOL") operands) (flag_of (codes "PURGE") operands)

abbrev pub member_scratch_with : Option Dsn → Option Serial → Option Name8 → Option Bool → Option Request
member_scratch_with dsn serial member purge =
    option_and_then (λ (d : Dsn). option_and_then (λ (s : Serial). option_and_then (λ (m : Name8). option_map (λ (p : Bool). ScratchMember s d m) purge) member) serial) dsn

-- DSNAME=dsn,VOL=dev=serial,MEMBER=member, each once, and PURGE once at most, which says nothing of a member: a member of the data set is dropped
unfoldable pub member_scratch_of : List OperandView → Option Request
member_scratch_of operands =
    member_scratch_with (data_set_of (codes "DSNAME") operands) (volume_of (codes "VOL") operands) (member_of (codes "MEMBER") operands) (flag_of (codes "PURGE") operands)

-- what SCRATCH asks for by its operands
unfoldable pub scratch_of : List OperandView → Option Request
scratch_of operands =
    if list_all is_scratch_operand operands
    then (if names_member operands then member_scratch_of operands else set_scratch_of operands)
    else None

-- ---- statements

-- what a statement asks for, if it has the form of its operation
unfoldable pub request_of : StatementView → Option Request
request_of s =
    if is_named (codes "RENAME") s.op then rename_of s.operands
    else (if is_named (codes "SCRATCH") s.op then scratch_of s.operands else None)
