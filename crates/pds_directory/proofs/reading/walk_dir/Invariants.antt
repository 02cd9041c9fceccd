use Rattle.pds_directory.proofs.DirectoryWalks.{Walks}
use Rattle.pds_directory.proofs.reading.walk_dir.Given as goal

abbrev pub invariant-loop-k : goal.invariant-loop-k
invariant-loop-k g l =
    Walks g.H.Hall.tells (g.H.Hall.facts l.initial.hall) (g.H.Hall.facts l.hall) (g.H.Hall.meaning l.initial.hall) (g.H.Hall.meaning l.hall) l.initial.vol l.vol l.set l.k l.reading
