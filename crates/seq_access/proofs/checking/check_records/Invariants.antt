use Rattle.seq_access.proofs.Checked.{Walks, blocks_on_set}
use Rattle.seq_access.proofs.checking.check_records.Given as goal

abbrev pub invariant-loop-k : goal.invariant-loop-k
invariant-loop-k g l =
    Walks g.H.Hall.tells (g.H.Hall.facts l.initial.hall) (g.H.Hall.facts l.hall) (g.H.Hall.meaning l.initial.hall) (g.H.Hall.meaning l.hall) l.initial.vol l.vol (blocks_on_set l.set) l.k
