use Rattle.std.proofs.Common.{◌+◌}
use Rattle.seq_access.proofs.Checked.{Walks, part_on_set}
use Rattle.seq_access.proofs.checking.check_part_records.Given as goal

abbrev pub invariant-loop-k : goal.invariant-loop-k
invariant-loop-k g l =
    Walks g.H.Hall.tells (g.H.Hall.facts l.fn.hall) (g.H.Hall.facts l.hall) (g.H.Hall.meaning l.fn.hall) (g.H.Hall.meaning l.hall) l.fn.vol l.vol (part_on_set l.set l.end) (l.k + 1)
