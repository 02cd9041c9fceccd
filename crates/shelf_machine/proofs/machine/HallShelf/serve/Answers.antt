use Rattle.std.proofs.Common.{sym, ap, subst, ◌∙◌}
use Rattle.shelf_machine.specs.Machine.{is_open_in}
use Rattle.shelf_machine.specs.Pending.{HasSlot, IsPendingBy}
use Rattle.vol_model.specs.Calls.{sound_after}
use Rattle.shelf_machine.proofs.Machines.{by_files}
use Rattle.shelf_machine.proofs.ReportLemmas.{applies_reported, idle_reported, machine_call, not_print, still_sound}
use Rattle.shelf_machine.specs.ReadyPacks.{vols_of}
use Rattle.shelf_machine.proofs.machine.HallShelf.serve.Goals as goal

pub invariant_of-self : goal.invariant_of-self
invariant_of-self g c = record {
  indexes = c.operate_settled-ran.ensures.leaves.indexes;
  ready = λ sound. c.operate_settled-ran.ensures.leaves.ready (still_sound c.report.ensures c.requires.sound sound);
  slot = λ sound. subst (HasSlot (vols_of c.operate_settled-ran.new.packs.items)) (sym (c.operate_settled-ran.ensures.writer (still_sound c.report.ensures c.requires.sound sound))) tt;
  pending = λ sound told.
      let still = still_sound c.report.ensures c.requires.sound sound in
      subst (IsPendingBy (g.H.Hall.meaning c.operate_settled-ran.new.hall) (g.H.Hall.facts c.operate_settled-ran.new.hall).units (vols_of c.operate_settled-ran.new.packs.items)) (sym (c.operate_settled-ran.ensures.writer still))
      ((c.operate_settled-ran.ensures.leaves.shelf told).durable still);
}

pub returns-clause-shelf : goal.returns-clause-shelf
returns-clause-shelf g c told = applies_reported c.report.ensures (c.operate_settled-ran.ensures.leaves.shelf told).applies

pub returns-clause-promise : goal.returns-clause-promise
returns-clause-promise g c told = by_files (c.operate_settled-ran.ensures.leaves.shelf told).safe

pub returns-clause-stays : goal.returns-clause-stays
returns-clause-stays g c told idle = (c.operate_settled-ran.ensures.leaves.shelf told).idle (idle_reported c.report.ensures _ idle)

pub returns-clause-faults : goal.returns-clause-faults
returns-clause-faults g c =
    machine_call c.report.ensures (g.H.Hall.facts c.args.self.now.hall) (g.H.Hall.facts c.operate_settled-ran.new.hall) (vols_of c.args.self.now.packs.items) (vols_of c.operate_settled-ran.new.packs.items) c.args.self.now.writer c.operate_settled-ran.new.writer
    c.requires.sound (λ still. ap is_open_in (c.operate_settled-ran.ensures.writer (ap sound_after (sym c.report.ensures.answer) ∙ still))) c.operate_settled-ran.ensures.leaves.base c.operate_settled-ran.ensures.leaves.faults

pub returns-clause-print : goal.returns-clause-print
returns-clause-print g c is = not_print c.report.ensures is

pub operate_settled-ran-requires-clause-ready : goal.operate_settled-ran-requires-clause-ready
operate_settled-ran-requires-clause-ready g c = c.args.self.now.ready c.requires.sound

pub operate_settled-ran-requires-clause-slot : goal.operate_settled-ran-requires-clause-slot
operate_settled-ran-requires-clause-slot g c = c.args.self.now.slot c.requires.sound
