-- Where the blocks of an area begin, in this project's profile.
use Rattle.std.specs.Prelude.{◌≡◌, Some}
use Rattle.vol_model.specs.declared.contents.Body.{Body}
use Rattle.vol_model.specs.declared.contents.Body.TheVariants as bodies
use Rattle.vol_model.specs.Places.{is_open_ended}
use Rattle.pack_machine.specs.declared.area_start.AreaStart.{AreaStart}

-- a partitioned body ends its directory here, and its last block asks for an end-of-file block or not
abbrev pub IsFrontOf : AreaStart → Body → Type 0
IsFrontOf front (bodies.Part dir end entries blocks) = (front.end ≡ Some end)
    × (front.owes_end_of_file ≡ is_open_ended blocks)
IsFrontOf front body = Unit {0}
