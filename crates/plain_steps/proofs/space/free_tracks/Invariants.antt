-- The free tracks so far.
use Rattle.std.proofs.Common.{◌≡◌}
use Rattle.std.specs.List.{range_with_len}
use Rattle.std.specs.Prelude.{filter}
use Rattle.vol_model.specs.Space.{is_unowned}
use Rattle.plain_steps.proofs.space.free_tracks.Given as goal

abbrev pub invariant-loop-track : goal.invariant-loop-track
invariant-loop-track l = l.free.items ≡ filter (is_unowned l.volume) (range_with_len 0 l.track)
