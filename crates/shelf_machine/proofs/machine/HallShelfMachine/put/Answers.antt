-- What a put leaves of the packs is what the machine keeps and promises.
use Rattle.std.proofs.Common.{sym, subst, ◌∙◌}
use Rattle.shelf_machine.specs.Pending.{HasSlot, IsPendingBy}
use Rattle.shelf_machine.proofs.Machines.{by_files}
use Rattle.shelf_machine.specs.ReadyPacks.{vols_of}
use Rattle.shelf_machine.proofs.machine.HallShelfMachine.put.Goals as goal

pub invariant_of-self : goal.invariant_of-self
invariant_of-self g c =
    let put = c.put_block-put.ensures in
    record {
      indexes = put.keeps.indexes;
      ready = λ sound. put.keeps.ready (sym c.is_sound_put-self.ensures ∙ sound);
      slot = λ sound. put.keeps.slot (sym c.is_sound_put-self.ensures ∙ sound);
      pending = λ sound told. (put.shelf told).pending (sym c.is_sound_put-self.ensures ∙ sound);
    }

pub returns-clause-promise : goal.returns-clause-promise
returns-clause-promise g c told = by_files (c.put_block-put.ensures.shelf told).safe

pub put_block-put-requires-clause-writer : goal.put_block-put-requires-clause-writer
put_block-put-requires-clause-writer g c =
    let self = c.args.self.now in
    let sound = c.requires.sound in
    record {
      ready = self.ready sound;
      slot = subst (HasSlot (vols_of self.packs.items)) c.in-Some.is (self.slot sound);
      pending = λ told. subst (IsPendingBy (g.H.Hall.meaning self.hall) (g.H.Hall.facts self.hall).units (vols_of self.packs.items)) c.in-Some.is (self.pending sound told);
    }
