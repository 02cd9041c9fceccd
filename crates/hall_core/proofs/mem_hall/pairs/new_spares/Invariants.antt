use Rattle.std.proofs.Common.{◌≡◌, vec_len}
use Rattle.std.specs.List.{All}
use Rattle.hall_core.specs.Held.{IsSpare}
use Rattle.hall_core.proofs.mem_hall.pairs.new_spares.Given as goal

-- so many spare pairs so far
abbrev pub invariant-loop : goal.invariant-loop
invariant-loop l = record { number : vec_len l.spares ≡ l.counter; spare : All (IsSpare l.room) l.spares.items }
