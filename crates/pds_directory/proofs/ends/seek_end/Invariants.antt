use Rattle.pds_directory.proofs.EndSeeks.{SeeksEnd}
use Rattle.pds_directory.proofs.ends.seek_end.Given as goal

abbrev pub invariant-loop-before : goal.invariant-loop-before
invariant-loop-before g l =
    SeeksEnd g.H.Hall.tells (g.H.Hall.facts l.initial.hall) (g.H.Hall.facts l.hall) (g.H.Hall.meaning l.initial.hall) (g.H.Hall.meaning l.hall) l.initial.vol l.vol l.track l.before
