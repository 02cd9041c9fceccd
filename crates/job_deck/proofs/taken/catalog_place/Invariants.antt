use Rattle.std.proofs.Common.{◌≡◌, drop, find, option_map}
use Rattle.job_deck.specs.Taken.{names_catalog}
use Rattle.job_deck.proofs.taken.catalog_place.Given as goal

abbrev pub invariant-loop-piece : goal.invariant-loop-piece
invariant-loop-piece l = find names_catalog (drop l.piece-index l.pieces) ≡ find names_catalog l.pieces
