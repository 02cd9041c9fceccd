use Rattle.hall_core.proofs.UnitLemmas.{spares_less}
use Rattle.std.proofs.Common.{refl, arith}
use Rattle.hall_core.specs.Held.{files_of, first_pairs}
use Rattle.hall_core.specs.History.{printed}
use Rattle.hall_core.proofs.RecordLemmas.{IsMore, records_by, print_more}
use Rattle.hall_core.proofs.mem_hall.MemHall.record_print.Goals as goal
use Rattle.hall_core.proofs.mem_hall.MemHall.record_print.Goals.{After-note}

more : (c : After-note) → let s = c.args.self.now in IsMore (files_of (first_pairs s.first s.files.items)) (files_of s.files.items) (files_of s.files.items) s.units.items s.units.items s.steps.items c.note.new.steps.items s.written.items s.written.items s.printed.items c.append-start.new.pool.items (printed c.args.bytes.now)
more c =
    let s = c.args.self.now in
    print_more _ _ _ _ _ _ s.replay c.args.bytes.now c.append-start.new.pool.items c.append-start.result c.note.new.steps.items c.append-start.ensures.start c.append-start.ensures.added c.note.ensures.steps

pub invariant_of-self-clause-replay : goal.invariant_of-self-clause-replay
invariant_of-self-clause-replay c = (more c).replay

pub returns-clause-noted : goal.returns-clause-noted
returns-clause-noted c = records_by c.requires c.note.ensures.calls (more (goal.at.returns-clause-noted c).After-note).events refl refl

pub invariant_of-self-clause-spares_room : goal.invariant_of-self-clause-spares_room
invariant_of-self-clause-spares_room c = spares_less c.args.self.now.spares.items c.args.self.now.room_bytes _ (omega arith) c.args.self.now.spares_room
