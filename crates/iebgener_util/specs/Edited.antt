-- What `EditedRecords` still gives.
use Rattle.std.specs.Prelude.{◌≡◌, ℕ, List, Option, Some, None, option_map}
use Rattle.std.proofs.Common.{ap}
use Rattle.vol_model.specs.declared.contents.Shelf.{Shelf}
use Rattle.record_files.specs.Reader.{reader_given, reader_stream}
use Rattle.record_files.specs.Sources.{KeepsSets}
use Rattle.record_files.specs.Stays.{reader_stays}
use Rattle.record_files.specs.Streams.{Stream}
use Rattle.iebgener_util.specs.declared.edited.EditedRecords.{EditedRecords}
use Rattle.iebgener_util.specs.declared.requests.Edit.{Edit}
use Rattle.iebgener_util.specs.Editing.{edited_by}
use Rattle.iebgener_util.specs.SkippedGroups.{left_of}

-- the groups that are left, where records are edited
abbrev pub groups_left : EditedRecords → Option (List Edit)
groups_left e = option_map (λ g. g.now) e.groups

-- the records that are still to come
unfoldable pub edited_stream : EditedRecords → Shelf → Stream
edited_stream e shelf = edited_by e.lrecl (groups_left e) (left_of e.skipped (reader_stream e.reader shelf))

-- the record that was given last: that of the input, or an edited one
abbrev pub given_of : Option (List Edit) → EditedRecords → List ℕ
given_of None e = reader_given e.reader
given_of (Some gs) e = e.rec.items

abbrev pub edited_given : EditedRecords → List ℕ
edited_given e = given_of (groups_left e) e

pub edited_stays : (e : EditedRecords) (s u : Shelf) → KeepsSets s u → edited_stream e u ≡ edited_stream e s
unfolding edited_stream
edited_stays e s u kept = ap (λ (st : Stream). edited_by e.lrecl (groups_left e) (left_of e.skipped st)) (reader_stays e.reader s u kept)
