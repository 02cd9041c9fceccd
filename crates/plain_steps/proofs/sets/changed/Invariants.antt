-- The data sets so far are changed.
use Rattle.std.proofs.Common.{◌≡◌, take}
use Rattle.vol_model.specs.Shelf.{changed}
use Rattle.plain_steps.proofs.sets.changed.Given as goal

abbrev pub invariant-loop-set : goal.invariant-loop-set
invariant-loop-set g l = l.after ≡ changed l.name.bytes (g.C.Change.change l.change) (take l.set-index l.sets)
