-- The place of the block of this number.
use Rattle.std.proofs.Common.{◌≡◌}
use Rattle.vol_model.specs.Places.{directory_place}
use Rattle.plain_steps.proofs.places.directory_place.Given as goal

abbrev pub invariant-loop : goal.invariant-loop
invariant-loop l = l.place ≡ directory_place l.device l.counter
