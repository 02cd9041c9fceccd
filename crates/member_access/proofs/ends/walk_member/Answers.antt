use Rattle.std.proofs.Common.{arith}
use Rattle.stop_model.proofs.MomentLemmas.{same_none}
use Rattle.member_access.proofs.Walks.{walks_first}
use Rattle.member_access.proofs.ends.walk_member.Goals as goal

pub loop-more-init : goal.loop-more-init
loop-more-init g c =
    walks_first g.H.Hall.tells (g.H.Hall.facts c.args.hall.now) (g.H.Hall.meaning c.args.hall.now) c.args.vol.now c.args.set.now c.args.from c.args.buf.now (λ told. same_none _ (g.met.H.Hall.counts_now c.args.hall.now)) c.requires.held c.requires.buffer (omega arith, omega arith)

pub loop-more-smaller : goal.loop-more-smaller
loop-more-smaller g c = let onward = c.in_ok-more.ensures.onward c.if-not-more.false in let place = c.loop-more.invariant.place in omega (arith, onward, place.0, place.1)
