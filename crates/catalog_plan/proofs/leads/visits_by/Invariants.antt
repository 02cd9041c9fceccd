use Rattle.std.proofs.Common.{◌≡◌, take}
use Rattle.catalog_plan.specs.Left.{visits_by}
use Rattle.catalog_plan.proofs.leads.visits_by.Given as goal

abbrev pub invariant-loop-number : goal.invariant-loop-number
invariant-loop-number l = l.visits.items ≡ visits_by l.per_track l.chain (take l.number-index l.held)
