use Rattle.std.proofs.Common.{List, refl, subst}
use Rattle.hall_core.specs.Facts.{Attached}
use Rattle.shelf_machine.specs.Machine.{units_of}
use Rattle.shelf_machine.specs.Opening.{names_of}
use Rattle.shelf_machine.specs.Operating.{OperatesOnShelf}
use Rattle.shelf_machine.specs.PendingShelves.{kept_in, pending_left}
use Rattle.shelf_machine.proofs.SeveralPacks.{leaves_failed, leaves_later}
use Rattle.shelf_machine.proofs.ReadyPacks.{ready_later}
use Rattle.shelf_machine.proofs.Settling.{operates_behind, operates_unsettled, reported_failed}
use Rattle.pack_machine.proofs.StillPacks.{reported_behind}
use Rattle.shelf_machine.specs.ReadyPacks.{vols_of}
use Rattle.shelf_machine.proofs.writing.operate_settled.Goals as goal

pub operate-requires-clause-ready : goal.operate-requires-clause-ready
operate-requires-clause-ready g c =
    ready_later g.H.Hall.tells (g.H.Hall.facts c.args.hall.now) (g.H.Hall.facts c.settle.new.hall) (g.H.Hall.meaning c.args.hall.now) (g.H.Hall.meaning c.settle.new.hall) c.args.packs.now.items
    c.settle.ensures.faults.units (λ told. (c.in-Ok.ensures.files told).state) c.requires.ready

pub returns-in-Ok-clause-leaves : goal.returns-in-Ok-clause-leaves
returns-in-Ok-clause-leaves g c =
    let vols = vols_of c.args.packs.now.items in
    let vols' = vols_of c.operate.new.packs.items in
    let m = g.H.Hall.meaning c.args.hall.now in
    let mid = g.H.Hall.meaning c.settle.new.hall in
    let new = g.H.Hall.meaning c.operate.new.hall in
    let us = (g.H.Hall.facts c.args.hall.now).units in
    let us' = (g.H.Hall.facts c.operate.new.hall).units in
    let names = names_of us (units_of vols) in
    let names' = names_of us' (units_of vols') in
    leaves_later g.H.Hall.tells c.args.op.now (g.H.Hall.facts c.args.hall.now) (g.H.Hall.facts c.settle.new.hall) (g.H.Hall.facts c.operate.new.hall) m mid new c.args.packs.now.items c.operate.new.packs.items c.operate.result
    c.settle.ensures.faults.units c.settle.ensures.faults.references
    (λ told. operates_behind c.args.op.now names vols m mid (g.met.H.Hall.counts_now c.args.hall.now) (pending_left m us vols c.args.writer.now (kept_in c.requires.ready told) c.requires.slot (c.requires.pending told))
    (g.met.H.Hall.leaves_state c.args.hall.now) (g.met.H.Hall.leaves_state c.settle.new.hall) c.in-Ok.field-0 names' us' vols' new c.operate.result (c.in-Ok.ensures.files told)
    (subst (λ (u : List Attached). OperatesOnShelf c.args.op.now (names_of u (units_of vols)) names' us' vols vols' mid new c.operate.result) c.settle.ensures.faults.units (c.operate.ensures.leaves.shelf told)))
    (reported_behind (g.H.Hall.facts c.args.hall.now) (g.H.Hall.facts c.settle.new.hall) (g.H.Hall.facts c.operate.new.hall) c.in-Ok.field-0 c.in-Ok.ensures.faults c.operate.ensures.leaves.faults) c.operate.ensures.leaves

pub returns-in-Err-clause-leaves : goal.returns-in-Err-clause-leaves
returns-in-Err-clause-leaves g c =
    let vols = vols_of c.args.packs.now.items in
    let m = g.H.Hall.meaning c.args.hall.now in
    let mid = g.H.Hall.meaning c.settle.new.hall in
    let us = (g.H.Hall.facts c.args.hall.now).units in
    leaves_failed g.H.Hall.tells c.args.op.now (g.H.Hall.facts c.args.hall.now) (g.H.Hall.facts c.settle.new.hall) m mid c.args.packs.now.items c.requires.ready
    (λ told. operates_unsettled c.args.op.now (names_of us (units_of vols)) vols m mid (g.met.H.Hall.counts_now c.args.hall.now) (pending_left m us vols c.args.writer.now (kept_in c.requires.ready told) c.requires.slot (c.requires.pending told))
    (g.met.H.Hall.leaves_state c.args.hall.now) (g.met.H.Hall.leaves_state c.settle.new.hall) c.in-Err.field-0 us (c.in-Err.ensures.files told))
    (reported_failed (g.H.Hall.facts c.args.hall.now) (g.H.Hall.facts c.settle.new.hall) c.in-Err.field-0 refl c.in-Err.ensures.faults)
