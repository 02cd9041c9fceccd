-- The open writer can commit after an extension of its target.
use Rattle.map_machine.proofs.OpenLemmas.{open_stays}
use Rattle.map_machine.proofs.machine.MapMachine.extend.Goals as goal

pub attempt-requires-clause-writer : goal.attempt-requires-clause-writer
attempt-requires-clause-writer c after done = open_stays c.args.self.now.shelf after c.args.self.now.writer c.args.target.now c.requires c.args.self.now.lawful done c.args.self.now.ready
