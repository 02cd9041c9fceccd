use Rattle.seq_access.proofs.Seeking.{Seeks}
use Rattle.seq_access.proofs.reading.seek.Given as goal

abbrev pub invariant-loop-k : goal.invariant-loop-k
invariant-loop-k g l =
    Seeks g.H.Hall.tells (g.H.Hall.facts l.initial.hall) (g.H.Hall.facts l.hall) (g.H.Hall.meaning l.initial.hall) (g.H.Hall.meaning l.hall) l.vol l.set l.fn.from l.buf l.k l.r
