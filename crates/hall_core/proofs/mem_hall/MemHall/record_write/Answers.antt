use Rattle.hall_core.proofs.UnitLemmas.{spares_less}
use Rattle.std.proofs.Common.{refl, ◌∙◌, ap, sym, subst, arith, List, if◌then◌else◌}
use Rattle.hall_core.specs.Held.{files_of, first_pairs, shapes_of, units_at}
use Rattle.hall_core.specs.Facts.{Attached, unit_of}
use Rattle.stop_model.specs.Files.{File, written}
use Rattle.hall_core.specs.History.{wrote}
use Rattle.hall_core.specs.Replay.{IsReplay}
use Rattle.hall_core.proofs.RecordLemmas.{IsMore, records_by, write_more, first_stays}
use Rattle.hall_core.proofs.UnitLemmas.{place_read}
use Rattle.hall_core.proofs.mem_hall.MemHall.record_write.Goals as goal
use Rattle.hall_core.proofs.mem_hall.MemHall.record_write.Goals.{After-note}

pub write_file-requires : goal.write_file-requires
write_file-requires c =
    let s = c.args.self.now in
    let place = place_read (shapes_of (files_of s.files.items)) s.units.items c.args.unit c.index.result.now s.replay.firsts c.requires.attached c.index.ensures in
    record { first = place.is_first; inside = omega (arith, c.requires.inside, ap (λ (u : Attached). u.size) place.shape) }

more : (c : After-note) → let s = c.args.self.now in let units = units_at (shapes_of (files_of s.files.items)) s.units.items in IsMore (files_of (first_pairs s.first s.files.items)) (files_of s.files.items) (files_of c.write_file.new.files.items) s.units.items s.units.items s.steps.items c.note.new.steps.items s.written.items c.append-start.new.pool.items s.printed.items s.printed.items (wrote (record { name = (unit_of units c.args.unit).name; at = c.args.at; bytes = c.args.bytes.now; is_done = c.args.is_done }))
more c =
    let s = c.args.self.now in
    let place = place_read (shapes_of (files_of s.files.items)) s.units.items c.args.unit c.index.result.now s.replay.firsts c.requires.attached c.index.ensures in
    write_more _ _ _ _ _ _ s.replay (files_of c.write_file.new.files.items) c.args.unit c.args.at c.append-start.result c.args.bytes.now c.args.is_done c.append-start.new.pool.items c.note.new.steps.items c.write_file.ensures.shapes
    (c.write_file.ensures.done ∙ ap (λ (u : Attached). if c.args.is_done then written (files_of s.files.items) u.name c.args.at c.args.bytes.now else files_of s.files.items) (sym place.shape))
    c.requires.attached c.requires.inside c.append-start.ensures.start c.append-start.ensures.added c.note.ensures.steps

pub invariant_of-self-clause-replay : goal.invariant_of-self-clause-replay
invariant_of-self-clause-replay c =
    let s = c.args.self.now in
    let stays = first_stays s.first s.files.items c.write_file.new.files.items s.room_calls s.copied c.requires.room.calls in
    subst (λ (l : List File). IsReplay l (files_of c.write_file.new.files.items) s.units.items c.note.new.steps.items c.append-start.new.pool.items s.printed.items) (ap files_of (sym stays)) (more c).replay

pub returns-clause-noted : goal.returns-clause-noted
returns-clause-noted c = records_by c.requires.room c.note.ensures.calls (more (goal.at.returns-clause-noted c).After-note).events refl refl

pub invariant_of-self-clause-spares_room : goal.invariant_of-self-clause-spares_room
invariant_of-self-clause-spares_room c = spares_less c.args.self.now.spares.items c.args.self.now.room_bytes _ (omega arith) c.args.self.now.spares_room
