use Rattle.std.proofs.Common.{List, Option, sym, subst, ◌∙◌}
use Rattle.std.specs.Prelude.{IfSome}
use Rattle.hall_core.specs.Facts.{Attached}
use Rattle.stop_model.specs.Files.{File}
use Rattle.shelf_machine.specs.Pending.{HasSlot, IsBegunOn, IsPendingBy}
use Rattle.shelf_machine.specs.declared.writer.Writer.{Writer}
use Rattle.shelf_machine.proofs.OpenedWriters.{open_some, pending_begun, writer_begun}
use Rattle.shelf_machine.proofs.Pendings.{pending_same}
use Rattle.shelf_machine.proofs.ReadMachines.{both_same}
use Rattle.shelf_machine.proofs.Settling.{settled_as, unsettled_as}
use Rattle.shelf_machine.specs.PendingShelves.{kept_in}
use Rattle.shelf_machine.specs.ReadyPacks.{vols_of}
use Rattle.shelf_machine.proofs.ReadyPacks.{order_in}
use Rattle.shelf_machine.proofs.writing.open_writer.Goals as goal

pub returns-in-Ok-clause-files : goal.returns-in-Ok-clause-files
returns-in-Ok-clause-files g c told = rw c.writer_on.ensures.hall (settled_as c.in-Ok.field-0 _ (c.in-Ok.ensures.files told))

pub returns-in-Ok-clause-opened : goal.returns-in-Ok-clause-opened
returns-in-Ok-clause-opened g c = c.is_some.ensures ∙ open_some c.args.v c.args.dsn.now c.args.mode c.writer_on.result c.writer_on.ensures.target

pub returns-in-Ok-clause-pending : goal.returns-in-Ok-clause-pending
returns-in-Ok-clause-pending g c told =
    let vols = vols_of c.args.packs.now.items in
    let r = c.writer_on.result in
    let files = (g.H.Hall.meaning c.args.hall.now).state in
    let us = (g.H.Hall.facts c.args.hall.now).units in
    let begun = c.writer_on.ensures.begun files us c.requires.ready.indexes (kept_in c.requires.ready told) (c.requires.well told) (c.requires.front told) in
    rw c.writer_on.ensures.hall (pending_begun (g.H.Hall.meaning c.settle.new.hall) (g.H.Hall.facts c.settle.new.hall).units vols r (c.in-Ok.ensures.files told).done
    (both_same (λ (fs : List File) (u : List Attached). IfSome r (IsBegunOn fs u vols)) (c.settle.ensures.files told).state c.settle.ensures.faults.units begun))

pub returns-in-Ok-clause-writer : goal.returns-in-Ok-clause-writer
returns-in-Ok-clause-writer g c told is =
    let vols = vols_of c.args.packs.now.items in
    let r = c.writer_on.result in
    let files = (g.H.Hall.meaning c.args.hall.now).state in
    let us = (g.H.Hall.facts c.args.hall.now).units in
    let begun = c.writer_on.ensures.begun files us c.requires.ready.indexes (kept_in c.requires.ready told) (c.requires.well told) (c.requires.front told) in
    rw c.writer_on.ensures.hall (writer_begun (g.H.Hall.meaning c.settle.new.hall).state (g.H.Hall.facts c.settle.new.hall).units vols c.args.v c.args.dsn.now c.args.mode r c.writer_on.ensures.slot c.writer_on.ensures.target
    (both_same (λ (fs : List File) (u : List Attached). IfSome r (IsBegunOn fs u vols)) (c.settle.ensures.files told).state c.settle.ensures.faults.units begun)
    (sym (open_some c.args.v c.args.dsn.now c.args.mode r c.writer_on.ensures.target) ∙ sym c.is_some.ensures ∙ is))

pub returns-in-Err-clause-files : goal.returns-in-Err-clause-files
returns-in-Err-clause-files g c told = unsettled_as c.in-Err.field-0 _ (c.in-Err.ensures.files told)

pub returns-in-Err-clause-slot : goal.returns-in-Err-clause-slot
returns-in-Err-clause-slot g c = subst (HasSlot (vols_of c.args.packs.now.items)) (sym c.in-Err.ensures.failed) c.requires.slot

pub returns-in-Err-clause-pending : goal.returns-in-Err-clause-pending
returns-in-Err-clause-pending g c told =
    let vols = vols_of c.args.packs.now.items in
    let mid = g.H.Hall.meaning c.settle.new.hall in
    let us' = (g.H.Hall.facts c.settle.new.hall).units in
    subst (λ (w : Option Writer). IsPendingBy mid us' vols w) (sym c.in-Err.ensures.failed)
    (pending_same (g.H.Hall.meaning c.args.hall.now) mid (g.H.Hall.facts c.args.hall.now).units us' vols c.args.writer.now (c.settle.ensures.files told).state
    (λ j left. ((c.in-Err.ensures.files told).failed j).0 left) c.settle.ensures.faults.units (c.requires.pending told))

pub writer_on-requires : goal.writer_on-requires
writer_on-requires g c = record { order = order_in c.requires.ready }
