use Rattle.std.proofs.Common.{⊎_elim, ℕ, sym, subst}
use Rattle.vol_model.specs.Calls.{CountsOne, IsIdle}
use Rattle.vol_model.specs.declared.contents.Shelf.{Shelf}
use Rattle.vol_model.specs.Shelf.{step}
use Rattle.stop_model.proofs.MomentLemmas.{counts_now_seen}
use Rattle.shelf_machine.specs.Machine.{shelf_under}
use Rattle.shelf_machine.specs.Parts.{meaning_of, pack_names}
use Rattle.shelf_machine.specs.PendingShelves.{kept_in, pending_durable}
use Rattle.shelf_machine.proofs.MachineLibraries.{call_behind, keeps_behind, stopped_call, stopped_count, stopped_shelf}
use Rattle.shelf_machine.proofs.Settling.{applies_behind}
use Rattle.shelf_machine.specs.ReadyPacks.{vols_of}
use Rattle.shelf_machine.proofs.machine.HallShelfMachine.apply.Goals as goal

pub returns-in-Ok-clause-shelf : goal.returns-in-Ok-clause-shelf
returns-in-Ok-clause-shelf g c told =
    let was = c.args.self.now in
    applies_behind c.args.op.now (meaning_of was) (meaning_of c.prepare.new.self)
    (pending_durable (g.H.Hall.meaning was.hall) (g.H.Hall.facts was.hall).units (vols_of was.packs.items) was.writer (kept_in (was.ready c.requires.sound) told) (was.slot c.requires.sound) (was.pending c.requires.sound told))
    (c.in-Ok.ensures.idle told).same (meaning_of c.serve.new.self) c.serve.result (c.serve.ensures.shelf told)

pub returns-in-Ok-clause-promise : goal.returns-in-Ok-clause-promise
returns-in-Ok-clause-promise g c told = keeps_behind (c.in-Ok.ensures.idle told).same.time.later (c.in-Ok.ensures.idle told).promise_kept (c.serve.ensures.promise told)

pub returns-in-Ok-clause-stays : goal.returns-in-Ok-clause-stays
returns-in-Ok-clause-stays g c told idle =
    keeps_behind (c.in-Ok.ensures.idle told).same.time.later (c.in-Ok.ensures.idle told).stays_kept
    (c.serve.ensures.stays told (subst (λ (s : Shelf). IsIdle (step s c.args.op.now) c.serve.result) (sym (c.in-Ok.ensures.idle told).same.state) idle))

pub returns-in-Ok-clause-count : goal.returns-in-Ok-clause-count
returns-in-Ok-clause-count g c = subst (λ (n : ℕ). CountsOne c.serve.result n c.serve.new.self.done) c.in-Ok.ensures.faults.done c.serve.ensures.count

pub returns-in-Ok-clause-faults : goal.returns-in-Ok-clause-faults
returns-in-Ok-clause-faults g c = call_behind _ _ _ c.in-Ok.field-0 c.serve.result c.in-Ok.ensures.faults c.serve.ensures.faults

pub returns-in-Ok-clause-print : goal.returns-in-Ok-clause-print
returns-in-Ok-clause-print g c is = c.serve.ensures.print is

pub serve-requires : goal.serve-requires
serve-requires g c = record { sound = (c.in-Ok.ensures.faults.others (λ is. absurd cc)).0; lawful = c.requires.lawful }

pub returns-in-Err-clause-shelf : goal.returns-in-Err-clause-shelf
returns-in-Err-clause-shelf g c told =
    let was = c.args.self.now in
    stopped_shelf c.in-Err.error c.in-Err.ensures.error c.args.op.now (meaning_of was) (meaning_of c.prepare.new.self)
    (pending_durable (g.H.Hall.meaning was.hall) (g.H.Hall.facts was.hall).units (vols_of was.packs.items) was.writer (kept_in (was.ready c.requires.sound) told) (was.slot c.requires.sound) (was.pending c.requires.sound told))
    (c.in-Err.ensures.idle told).same (counts_now_seen (shelf_under (pack_names c.prepare.new.self)) (g.H.Hall.meaning c.prepare.new.self.hall) (g.met.H.Hall.counts_now c.prepare.new.self.hall))

pub returns-in-Err-clause-promise : goal.returns-in-Err-clause-promise
returns-in-Err-clause-promise g c told = (c.in-Err.ensures.idle told).promise_kept

pub returns-in-Err-clause-stays : goal.returns-in-Err-clause-stays
returns-in-Err-clause-stays g c told idle = (c.in-Err.ensures.idle told).stays_kept

pub returns-in-Err-clause-count : goal.returns-in-Err-clause-count
returns-in-Err-clause-count g c = stopped_count c.in-Err.error c.in-Err.ensures.error (Unit {0}) c.args.self.now.done c.prepare.new.self.done c.in-Err.ensures.faults.done

pub returns-in-Err-clause-faults : goal.returns-in-Err-clause-faults
returns-in-Err-clause-faults g c = stopped_call c.in-Err.error c.in-Err.ensures.error _ _ c.requires.closed c.in-Err.ensures.faults

pub returns-in-Err-clause-print : goal.returns-in-Err-clause-print
returns-in-Err-clause-print g c is = ⊎_elim (λ memory. cc) (λ device. cc) c.in-Err.ensures.error
