use Rattle.std.proofs.Common.{List, ℕ, ap}
use Rattle.hall_core.specs.Facts.{Attached, unit_of}
use Rattle.free_rebuild.specs.Repairs.{image_named}
use Rattle.free_rebuild.proofs.DurableLemmas.{put_fails, put_synced}
use Rattle.free_rebuild.proofs.WriteLemmas.{image_there}
use Rattle.free_rebuild.proofs.durable.put_durably.Goals as goal

pub returns-in_err-put_slot-clause-files : goal.returns-in_err-put_slot-clause-files
returns-in_err-put_slot-clause-files g c told =
    let v = c.args.vol.now in
    let m = g.H.Hall.meaning c.args.hall.now in
    let units = (g.H.Hall.facts c.args.hall.now).units in
    let name : List ℕ = (unit_of units v.unit).name in
    let there = image_there m.state units v.unit (g.met.H.Hall.whole c.args.hall.now told) c.requires.unit.attached in
    put_fails name v c.put_slot.new.vol c.args.slot c.args.dscb.now m there (c.requires.durable told) _ c.from_residual.ensures.0 (c.put_slot.ensures.files told)

pub returns-clause-files : goal.returns-clause-files
returns-clause-files g c told =
    let v = c.args.vol.now in
    let m = g.H.Hall.meaning c.args.hall.now in
    let mid = g.H.Hall.meaning c.put_slot.new.hall in
    let units = (g.H.Hall.facts c.args.hall.now).units in
    let name : List ℕ = (unit_of units v.unit).name in
    let there = image_there m.state units v.unit (g.met.H.Hall.whole c.args.hall.now told) c.requires.unit.attached in
    let same = ap (λ (us : List Attached). image_named mid.state (unit_of us v.unit).name) c.in_ok-put_slot.ensures.faults.units in
    put_synced name v c.put_slot.new.vol c.args.slot c.args.dscb.now m there (c.requires.durable told) c.make_durable.result (c.in_ok-put_slot.ensures.files told) same (c.make_durable.ensures.files told)
