-- Which bodies of a volume can't be read, by the kinds of its data sets.
use Rattle.std.specs.Prelude.{List, Option, Some, None, if◌then◌else◌}
use Rattle.std.specs.List.{filter_map}
use Rattle.ebcdic_names.specs.declared.names.Dsn.{Dsn}
use Rattle.mount_repair.specs.Sets.{names_and_kinds}
use Rattle.vol_model.specs.declared.answers.Kind.{Kind}
use Rattle.vol_model.specs.declared.answers.Kind.TheVariants.{Unreadable}
use Rattle.vol_model.specs.declared.contents.Volume.{Volume}
use Rattle.vol_model.specs.Shelf.{is_catalog}
use Rattle.pack_machine.specs.declared.unread.Unread.{Unread}

-- the entry of a data set of this kind, if its body can't be read
abbrev pub entry_of : Dsn → Kind → Option Unread
entry_of dsn (Unreadable track) = Some (record { dsn = dsn; track = track })
entry_of dsn kind = None

-- that of one by its name and kind; the catalog has none
abbrev pub unread_entry : Dsn × Kind → Option Unread
unread_entry set = if is_catalog set.0.bytes then None else entry_of set.0 set.1

-- those of all
abbrev pub unread_in : List (Dsn × Kind) → List Unread
unread_in sets = filter_map unread_entry sets

-- the data sets of a volume but SYSCTLG whose bodies can't be read
abbrev pub all_unread : Volume → List Unread
all_unread w = unread_in (names_and_kinds w)
