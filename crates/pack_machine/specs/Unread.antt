-- The data sets of a pack whose bodies can't be read, as a list of their names.
use Rattle.std.specs.Prelude.{ℕ, ◌||◌, not, Bool, List, filter, find, Option, Some, None, if◌then◌else◌}
use Rattle.std.specs.Option.{option_map}
use Rattle.std.specs.Str.{bytes_eq}
use Rattle.ebcdic_names.specs.declared.names.Dsn.{Dsn}
use Rattle.vol_model.specs.declared.contents.Attr.{Attr}
use Rattle.vol_model.specs.declared.contents.Body.{Body}
use Rattle.vol_model.specs.declared.contents.Body.TheVariants.{Unreadable}
use Rattle.vol_model.specs.declared.contents.DataSet.{DataSet}
use Rattle.vol_model.specs.Shelf.{is_partitioned, is_sequential}
use Rattle.pack_machine.specs.declared.unread.Unread.{Unread}

-- an entry is that of the data set of this name
abbrev pub is_of : List ℕ → Unread → Bool
is_of name u = bytes_eq u.dsn.bytes name

-- the track of the first entry of this name
abbrev pub track_in : List Unread → List ℕ → Option ℕ
track_in unread name = option_map (λ (u : Unread). u.track) (find (is_of name) unread)

-- the entries of other names
abbrev pub others_of : List ℕ → List Unread → List Unread
others_of name unread = filter (λ u. not (is_of name u)) unread

-- an entry, under another name where it had this one
abbrev pub renamed_in : List ℕ → Dsn → Unread → Unread
renamed_in old new u = if is_of old u then record u { dsn = new } else u

-- the track from which on a body can't be read
abbrev pub broken_at : Body → Option ℕ
broken_at (Unreadable track) = Some track
broken_at body = None

-- the body of a set of this name and these attributes is walked: it is a sequential or a partitioned one
abbrev pub is_walked : List ℕ → Attr → Bool
is_walked name attr = is_sequential name attr || is_partitioned name attr

-- the same for the body of a set of this name and these attributes, where it is walked
abbrev pub broken_by : List ℕ → Attr → Body → Option ℕ
broken_by name attr body = if is_walked name attr then broken_at body else None

-- the same for a data set
abbrev pub broken_in : DataSet → Option ℕ
broken_in x = broken_by x.name.bytes x.attr x.body
