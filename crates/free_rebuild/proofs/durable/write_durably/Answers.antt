use Rattle.std.proofs.Common.{List, ℕ}
use Rattle.hall_core.specs.Facts.{unit_of}
use Rattle.free_rebuild.proofs.DurableLemmas.{stays_not, stays_synced}
use Rattle.free_rebuild.proofs.durable.write_durably.Goals as goal

pub returns-in_err-write_free-clause-files : goal.returns-in_err-write_free-clause-files
returns-in_err-write_free-clause-files g c told =
    let v = c.args.vol.now in
    let name : List ℕ = (unit_of (g.H.Hall.facts c.args.hall.now).units v.unit).name in
    stays_not name v (g.H.Hall.meaning c.args.hall.now) (g.H.Hall.meaning c.write_free.new.hall) c.write_free.result c.from_residual.result (c.requires.durable told) c.from_residual.ensures.0 (c.write_free.ensures.files told)

pub returns-clause-files : goal.returns-clause-files
returns-clause-files g c told =
    let v = c.args.vol.now in
    let name : List ℕ = (unit_of (g.H.Hall.facts c.args.hall.now).units v.unit).name in
    stays_synced name v (g.H.Hall.meaning c.args.hall.now) (g.H.Hall.meaning c.write_free.new.hall) (g.H.Hall.meaning c.make_durable.new.hall) _ c.make_durable.result (c.requires.durable told) (g.met.H.Hall.leaves_state c.write_free.new.hall) (c.in_ok-write_free.ensures.files told) (c.make_durable.ensures.files told)
