use Rattle.shelf_machine.proofs.Resting.{pending_rest, rest_call, rest_idle, slot_rest}
use Rattle.shelf_machine.proofs.machine.HallShelfMachine.read_into.Goals as goal

pub invariant_of-self : goal.invariant_of-self
invariant_of-self g c =
    let was = c.args.self.now in
    let rest = c.read_into-read.ensures.rest in
    record {
      indexes = rest.ready.indexes;
      ready = λ sound. rest.ready;
      slot = λ sound. slot_rest was.writer rest (was.slot c.requires.sound);
      pending = λ sound told. pending_rest was.writer rest told (was.pending c.requires.sound told);
    }

pub returns-clause-idle : goal.returns-clause-idle
returns-clause-idle g c told = rest_idle c.args.self.now.writer (g.met.H.Hall.counts_now c.args.self.now.hall) c.read_into-read.ensures.rest told

pub returns-clause-faults : goal.returns-clause-faults
returns-clause-faults g c = rest_call c.args.self.now.writer c.args.self.now.done _ c.is_sound_into-self.result c.read_into-read.ensures.rest c.is_sound_into-self.ensures.failed c.is_sound_into-self.ensures.others

pub read_into-read-requires : goal.read_into-read-requires
read_into-read-requires g c = record { ready = c.args.self.now.ready c.requires.sound }
