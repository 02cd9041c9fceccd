-- What a hall tells of the image of a unit.
use Rattle.std.specs.Prelude.{ℕ, List, IsTrue}
use Rattle.hall_core.specs.declared.hall.Hall.{Ghosts}
use Rattle.hall_core.specs.Images.{image_in}

-- where a hall tells what it holds, the image of a unit has this
abbrev pub ImageHas : {X : Type 0} → Ghosts X → X → ℕ → (List ℕ → Type 0) → Type 0
ImageHas g hall unit P = IsTrue g.tells → P (image_in (g.meaning hall) (g.facts hall) unit)
