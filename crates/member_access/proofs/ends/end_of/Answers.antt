use Rattle.stop_model.proofs.MomentLemmas.{same_then}
use Rattle.vtoc_sets.proofs.OtherBuffers.{call_done}
use Rattle.member_access.proofs.EndCalls.{readable_now, set_now}
use Rattle.member_access.proofs.ends.end_of.Goals as goal

pub returns-in_default-clause-mounted : goal.returns-in_default-clause-mounted
returns-in_default-clause-mounted g c told = (c.requires.part told c.set_at-set.result c.set_at-set.ensures).part.set.mounted

pub returns-in_default-new-clause-mounted : goal.returns-in_default-new-clause-mounted
returns-in_default-new-clause-mounted g c told = (c.requires.part told c.set_at-set.result c.set_at-set.ensures).part.set.mounted

pub find_end-requires-clause-set : goal.find_end-requires-clause-set
find_end-requires-clause-set g c told = c.requires.part told c.set_at-set.result c.set_at-set.ensures

pub walk_member-requires-clause-set : goal.walk_member-requires-clause-set
walk_member-requires-clause-set g c told =
    let call = c.in-Ok-find_end.ensures in
    set_now g.H.Hall.tells (g.H.Hall.facts c.args.hall.now) (g.H.Hall.facts c.find_end.new.hall) (g.H.Hall.meaning c.args.hall.now) (g.H.Hall.meaning c.find_end.new.hall) c.args.vol.now c.find_end.new.vol c.set_at-set.result
    (record { facts = call_done call.faults; same = call.same; mounted = call.mounted; others = call.others; unit = call.unit }) told (c.requires.part told c.set_at-set.result c.set_at-set.ensures)

pub walk_member-requires-clause-readable : goal.walk_member-requires-clause-readable
walk_member-requires-clause-readable g c told =
    let call = c.in-Ok-find_end.ensures in
    readable_now g.H.Hall.tells (g.H.Hall.facts c.args.hall.now) (g.H.Hall.facts c.find_end.new.hall) (g.H.Hall.meaning c.args.hall.now) (g.H.Hall.meaning c.find_end.new.hall) c.args.vol.now c.find_end.new.vol c.set_at-set.result
    (record { facts = call_done call.faults; same = call.same; mounted = call.mounted; others = call.others; unit = call.unit }) told (c.requires.part told c.set_at-set.result c.set_at-set.ensures)

pub returns-in-Ok-walk_member-clause-same : goal.returns-in-Ok-walk_member-clause-same
returns-in-Ok-walk_member-clause-same g c told = same_then (c.in-Ok-find_end.ensures.same told) (c.in-Ok-walk_member.ensures.same told)

pub returns-clause-same : goal.returns-clause-same
returns-clause-same g c told = same_then (c.in-Ok-find_end.ensures.same told) (c.walk_member.ensures.same told)
