use Rattle.std.proofs.Common.{List, Some, refl, sym, subst, ◌∙◌}
use Rattle.hall_core.specs.Facts.{Attached}
use Rattle.vol_model.specs.declared.requests.Op.TheVariants.{Extend}
use Rattle.shelf_machine.specs.Machine.{units_of}
use Rattle.shelf_machine.specs.Opening.{names_of}
use Rattle.shelf_machine.specs.Operating.{OperatesOnShelf}
use Rattle.shelf_machine.specs.PendingShelves.{kept_in, pending_left}
use Rattle.shelf_machine.proofs.SeveralPacks.{leaves_failed, leaves_later}
use Rattle.shelf_machine.proofs.ReadyPacks.{ready_later}
use Rattle.shelf_machine.proofs.Settling.{operates_behind, operates_unsettled, reported_failed, settles_done, settles_failed}
use Rattle.pack_machine.proofs.StillPacks.{reported_behind}
use Rattle.shelf_machine.specs.ReadyPacks.{vols_of}
use Rattle.shelf_machine.proofs.Pendings.{pending_same}
use Rattle.shelf_machine.proofs.writing.make_room.Goals as goal

pub extend_durably-requires-clause-writer : goal.extend_durably-requires-clause-writer
extend_durably-requires-clause-writer g c =
    let has = c.requires.writer in
    let f = g.H.Hall.facts c.args.hall.now in
    let f' = g.H.Hall.facts c.sync.new.self in
    let m = g.H.Hall.meaning c.args.hall.now in
    let m' = g.H.Hall.meaning c.sync.new.self in
    let packs = c.args.packs.now.items in
    record {
      ready = ready_later g.H.Hall.tells f f' m m' packs c.sync.ensures.faults.units (λ told. (c.in-Ok.ensures.files told).state) has.ready;
      slot = has.slot;
      pending = λ told.
          let synced = c.in-Ok.ensures.files told in
          pending_same m m' f.units f'.units (vols_of packs) (Some c.args.writer.now) synced.state (λ j now. subst m.left (sym (synced.done j now ∙ synced.state)) (g.met.H.Hall.leaves_state c.args.hall.now)) c.sync.ensures.faults.units (has.pending told);
    }

pub returns-in-Ok-clause-leaves : goal.returns-in-Ok-clause-leaves
returns-in-Ok-clause-leaves g c =
    let vols = vols_of c.args.packs.now.items in
    let vols' = vols_of c.extend_durably.new.packs.items in
    let m = g.H.Hall.meaning c.args.hall.now in
    let mid = g.H.Hall.meaning c.sync.new.self in
    let new = g.H.Hall.meaning c.extend_durably.new.hall in
    let us = (g.H.Hall.facts c.args.hall.now).units in
    let us' = (g.H.Hall.facts c.extend_durably.new.hall).units in
    let names = names_of us (units_of vols) in
    let names' = names_of us' (units_of vols') in
    leaves_later g.H.Hall.tells (Extend c.args.writer.now.v c.args.writer.now.dsn) (g.H.Hall.facts c.args.hall.now) (g.H.Hall.facts c.sync.new.self) (g.H.Hall.facts c.extend_durably.new.hall) m mid new c.args.packs.now.items c.extend_durably.new.packs.items c.extend_durably.result
    c.sync.ensures.faults.units c.sync.ensures.faults.references
    (λ told. operates_behind (Extend c.args.writer.now.v c.args.writer.now.dsn) names vols m mid (g.met.H.Hall.counts_now c.args.hall.now) (pending_left m us vols (Some c.args.writer.now) (kept_in c.requires.writer.ready told) c.requires.writer.slot (c.requires.writer.pending told))
    (g.met.H.Hall.leaves_state c.args.hall.now) (g.met.H.Hall.leaves_state c.sync.new.self) c.in-Ok.field-0 names' us' vols' new c.extend_durably.result (settles_done {D = Unit {0}} c.in-Ok.field-0 c.in-Ok.field-0 (c.in-Ok.ensures.files told))
    (subst (λ (u : List Attached). OperatesOnShelf (Extend c.args.writer.now.v c.args.writer.now.dsn) (names_of u (units_of vols)) names' us' vols vols' mid new c.extend_durably.result) c.sync.ensures.faults.units (c.extend_durably.ensures.leaves.shelf told)))
    (reported_behind (g.H.Hall.facts c.args.hall.now) (g.H.Hall.facts c.sync.new.self) (g.H.Hall.facts c.extend_durably.new.hall) c.in-Ok.field-0 c.in-Ok.ensures.faults c.extend_durably.ensures.leaves.faults) c.extend_durably.ensures.leaves

pub returns-in-Err-clause-leaves : goal.returns-in-Err-clause-leaves
returns-in-Err-clause-leaves g c =
    let vols = vols_of c.args.packs.now.items in
    let m = g.H.Hall.meaning c.args.hall.now in
    let mid = g.H.Hall.meaning c.sync.new.self in
    let us = (g.H.Hall.facts c.args.hall.now).units in
    leaves_failed g.H.Hall.tells (Extend c.args.writer.now.v c.args.writer.now.dsn) (g.H.Hall.facts c.args.hall.now) (g.H.Hall.facts c.sync.new.self) m mid c.args.packs.now.items c.requires.writer.ready
    (λ told. operates_unsettled (Extend c.args.writer.now.v c.args.writer.now.dsn) (names_of us (units_of vols)) vols m mid (g.met.H.Hall.counts_now c.args.hall.now) (pending_left m us vols (Some c.args.writer.now) (kept_in c.requires.writer.ready told) c.requires.writer.slot (c.requires.writer.pending told))
    (g.met.H.Hall.leaves_state c.args.hall.now) (g.met.H.Hall.leaves_state c.sync.new.self) c.in-Err.field-0 us (settles_failed {U = Unit {0}} c.in-Err.field-0 c.in-Err.field-0 (c.in-Err.ensures.files told)))
    (reported_failed (g.H.Hall.facts c.args.hall.now) (g.H.Hall.facts c.sync.new.self) c.in-Err.field-0 refl c.in-Err.ensures.faults)

pub returns-in-Ok-clause-stands : goal.returns-in-Ok-clause-stands
returns-in-Ok-clause-stands g c =
    let stands = c.extend_durably.ensures.stands in
    record {
      slot = stands.slot;
      pending = stands.pending;
      puts = λ told sound.
          let again = stands.puts told sound in
          let state = (c.in-Ok.ensures.files told).state in
          let units = c.sync.ensures.faults.units in
          cc;
      same = stands.same;
    }

pub returns-in-Err-clause-stands : goal.returns-in-Err-clause-stands
returns-in-Err-clause-stands g c = record { slot = λ sound. absurd cc; pending = λ told sound. absurd cc; puts = λ told sound. absurd cc; same = refl }
