-- The data sets of an image by their format 1, in this project's profile.
use Rattle.std.specs.Prelude.{◌≡◌, ℕ, ◌+◌, ◌*◌, ◌≤◌, List, map, vec_capacity}
use Rattle.dscb_codec.specs.declared.F1.{F1}
use Rattle.ebcdic_names.specs.declared.names.Dsn.{Dsn}
use Rattle.pack_spec.specs.Bodies.{body_of}
use Rattle.pack_spec.specs.Label.{tracks_of}
use Rattle.pack_spec.specs.Settled.{HasPacked}
use Rattle.pack_spec.specs.Slots.{slots_of_vtoc}
use Rattle.pack_spec.specs.Volume.{attr_of, data_set_of}
use Rattle.vol_model.specs.declared.answers.Kind.{Kind}
use Rattle.vol_model.specs.declared.contents.Body.{Body}
use Rattle.vol_model.specs.declared.contents.DataSet.{DataSet}
use Rattle.vol_model.specs.declared.contents.Volume.{Volume}
use Rattle.vol_model.specs.Reading.{kind_of}
use Rattle.seq_access.specs.Bodies.{data_in}
use Rattle.vtoc_index.specs.declared.vol.Vol.{Vol}
use Rattle.vtoc_sets.specs.Sets.{extents_in}

-- an index has room for 16 free runs more than maximal runs of its pack can be: these are at most half as many as tracks
abbrev pub HasRoom : Vol → Type 0
HasRoom v = tracks_of v.geometry + 33 ≤ 2 * vec_capacity v.free

-- the name of a data set, and the kind of its body
abbrev pub name_and_kind : DataSet → Dsn × Kind
name_and_kind x = (x.name, kind_of x.body)

-- those of all data sets of a volume, in order
abbrev pub names_and_kinds : Volume → List (Dsn × Kind)
names_and_kinds w = map name_and_kind w.sets

-- the data set of a format 1 of an image
abbrev pub set_by : List ℕ → Vol → F1 → DataSet
set_by image v f = data_set_of v.geometry (data_in image v) (slots_of_vtoc image v.geometry v.vtoc) f

-- its directory is packed, if it has one that can be read
abbrev pub IsPackedSet : List ℕ → Vol → F1 → Type 0
IsPackedSet image v f = HasPacked v.geometry (data_in image v) (set_by image v f).extents (set_by image v f).body

-- its body
abbrev pub body_at : List ℕ → Vol → F1 → Body
body_at image v f = body_of v.geometry (data_in image v) f.name (attr_of f) (extents_in image v f) f.lstar

-- an index is as another, but for the room of its lists of free runs and of names
pub record IsRoomed (v v' : Vol) : Type 0 where
  pub others : v' ≡ record v { free = v'.free; by_name = v'.by_name }
  pub free : v'.free.items ≡ v.free.items
  pub names : v'.by_name.items ≡ v.by_name.items
