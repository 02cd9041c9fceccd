-- The full blocks so far, and those that the other entries need.
use Rattle.std.proofs.Common.{◌≡◌, ◌+◌, drop}
use Rattle.chain_spec.specs.Cut.{needed_from}
use Rattle.plain_steps.proofs.needed.needed_from.Given as goal

abbrev pub invariant-loop-entry : goal.invariant-loop-entry
invariant-loop-entry g l =
    l.full + needed_from g.E.Measured.size l.room l.end l.used (drop l.entry-index l.entries)
    ≡ needed_from g.E.Measured.size l.room l.end l.fn.used l.entries
