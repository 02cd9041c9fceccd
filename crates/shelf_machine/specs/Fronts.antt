-- What goes in front of the blocks that a writer puts, in this project's profile.
use Rattle.std.specs.Prelude.{◌≡◌, Bool, true, false, List, [], ◌∷◌, None}
use Rattle.vol_model.specs.declared.answers.Mode.{Mode}
use Rattle.vol_model.specs.declared.answers.Mode.TheVariants as modes
use Rattle.vol_model.specs.declared.contents.Body.{Body}
use Rattle.vol_model.specs.Places.{Content, end_of_file}
use Rattle.pack_machine.specs.declared.area_start.AreaStart.{AreaStart}
use Rattle.pack_machine.specs.Fronts.{IsFrontOf}

-- the contents in front, by whether an end-of-file block is due there
abbrev pub firsts : Bool → List Content
firsts true = end_of_file ∷ []
firsts false = []

-- those that aren't placed yet, by what is
abbrev pub due : Bool → List Content → List Content
due first [] = firsts first
due first (c ∷ cs) = []

-- what is placed, but for that in front
abbrev pub behind_first : Bool → List Content → List Content
behind_first true (c ∷ cs) = cs
behind_first true [] = []
behind_first false cs = cs

-- what is placed begins with that in front
abbrev pub BeginsWell : Bool → List Content → Type 0
BeginsWell true (c ∷ cs) = c ≡ end_of_file
BeginsWell true [] = Unit {0}
BeginsWell false cs = Unit {0}

-- a writer for this mode begins so after a body
abbrev pub IsFrontIn : Mode → AreaStart → Body → Type 0
IsFrontIn modes.Fill front body = front ≡ record { end = None; owes_end_of_file = false }
IsFrontIn modes.Area front body = IsFrontOf front body
