-- What the closing of a writer leaves of the packs is what the machine keeps and promises.
use Rattle.std.proofs.Common.{sym, subst, ◌∙◌}
use Rattle.shelf_machine.specs.Pending.{HasSlot, IsPendingBy}
use Rattle.shelf_machine.proofs.Machines.{by_files}
use Rattle.shelf_machine.specs.ReadyPacks.{vols_of}
use Rattle.shelf_machine.specs.OpenWriters.{HasWriter}
use Rattle.shelf_machine.proofs.machine.HallShelfMachine.commit.Goals as goal

pub invariant_of-self : goal.invariant_of-self
invariant_of-self g c =
    let run = c.close_writer-closed.ensures in
    let new = c.close_writer-closed.new in
    record {
      indexes = run.indexes;
      ready = λ sound. run.ready (sym c.is_sound_closed-self.ensures ∙ sound);
      slot = λ sound. subst (HasSlot (vols_of new.packs.items)) (sym c.left_of-self.ensures) (run.slot (sym c.is_sound_closed-self.ensures ∙ sound));
      pending = λ sound told. subst (IsPendingBy (g.H.Hall.meaning new.hall) (g.H.Hall.facts new.hall).units (vols_of new.packs.items)) (sym c.left_of-self.ensures)
          ((run.shelf told).pending (sym c.is_sound_closed-self.ensures ∙ sound));
    }

pub returns-clause-promise : goal.returns-clause-promise
returns-clause-promise g c told = by_files (c.close_writer-closed.ensures.shelf told).safe

pub close_writer-closed-requires : goal.close_writer-closed-requires
close_writer-closed-requires g c =
    let self = c.args.self.now in
    let sound = c.requires.sound in
    let has : HasWriter g.H.Hall.tells (g.H.Hall.facts self.hall) (g.H.Hall.meaning self.hall) self.packs.items c.in-Some.writer = record {
      ready = self.ready sound;
      slot = subst (HasSlot (vols_of self.packs.items)) c.in-Some.is (self.slot sound);
      pending = λ told. subst (IsPendingBy (g.H.Hall.meaning self.hall) (g.H.Hall.facts self.hall).units (vols_of self.packs.items)) c.in-Some.is (self.pending sound told);
    } in
    record { writer = has }
