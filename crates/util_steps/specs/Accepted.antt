-- Operations that are accepted where they stand, in this project's profile.
use Rattle.std.specs.Prelude.{List, [], ◌∷◌, IsOk}
use Rattle.vol_model.specs.declared.contents.Shelf.{Shelf}
use Rattle.vol_model.specs.declared.requests.Op.{Op}
use Rattle.vol_model.specs.Events.{Event, Do, Say, behind}
use Rattle.vol_model.specs.Shelf.{step}

-- none of these operations is refused, each on the shelf after those before it
abbrev pub AllAccepted : Shelf → List Op → Type 0
AllAccepted shelf [] = Unit {0}
AllAccepted shelf (op ∷ ops) = IsOk (step shelf op) × AllAccepted (behind shelf (step shelf op)) ops

-- none of the operations among events is refused, each on the shelf on which it stands
abbrev pub AreAccepted : Shelf → List Event → Type 0
AreAccepted shelf [] = Unit {0}
AreAccepted shelf (Do op ∷ es) = IsOk (step shelf op) × AreAccepted (behind shelf (step shelf op)) es
AreAccepted shelf (Say line ∷ es) = AreAccepted shelf es
