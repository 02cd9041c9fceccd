-- What reads of a machine in memory give.
use Rattle.std.specs.Prelude.{◌≡◌, Option, Result, Ok, Err, option_and_then}
use Rattle.std.specs.Option.{option_map_or}
use Rattle.vol_model.specs.declared.answers.ReadErr.{ReadErr}
use Rattle.vol_model.specs.declared.answers.ReadErr.TheVariants.{Unreadable, Memory, Device}
use Rattle.vol_model.specs.declared.catalogs.CatBody.{CatBody}
use Rattle.vol_model.specs.declared.contents.Body.{Body}
use Rattle.vol_model.specs.declared.contents.Body.TheVariants.{Other}
use Rattle.vol_model.specs.declared.contents.DataSet.{DataSet}
use Rattle.vol_model.specs.declared.contents.Volume.{Volume}

-- a read gives this, unless memory ran out
abbrev pub Copied : {X : Type 0} → Result (Option X) ReadErr → Option X → Type 0
Copied (Ok x) found = x ≡ found
Copied (Err (Unreadable track)) found = ⊥
Copied (Err Memory) found = Unit {0}
Copied (Err Device) found = ⊥

-- the body of a data set, if there is one
abbrev pub body_in : Option DataSet → Body
body_in found = option_map_or (λ (x : DataSet). x.body) found Other

-- the catalog of a volume, if there is one
abbrev pub catalog_in : Option Volume → Option CatBody
catalog_in found = option_and_then (λ (volume : Volume). volume.catalog) found
