use Rattle.std.proofs.Common.{◌-◌}
use Rattle.member_access.specs.Ends.{place_number}
use Rattle.member_access.proofs.Walks.{Walks}
use Rattle.member_access.proofs.ends.walk_member.Given as goal

abbrev pub invariant-loop-more : goal.invariant-loop-more
invariant-loop-more g l =
    Walks g.H.Hall.tells (g.H.Hall.facts l.initial.hall) (g.H.Hall.facts l.hall) (g.H.Hall.meaning l.initial.hall) (g.H.Hall.meaning l.hall) l.vol l.set l.fn.from l.buf l.walk

abbrev pub decreases-loop-more : goal.decreases-loop-more
decreases-loop-more g l = 16777216 - place_number l.walk.next
