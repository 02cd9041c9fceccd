use Rattle.std.proofs.Common.{[], List, ap}
use Rattle.std.proofs.lemmas.List.{map-set}
use Rattle.hall_core.specs.Facts.{Attached, Facts}
use Rattle.hall_files.proofs.Units.{units_of-set}
use Rattle.hall_files.specs.declared.file_hall.Unit.{Unit}
use Rattle.hall_files.proofs.file_hall.FileHall.set_written.Goals as goal

pub returns-clause-facts : goal.returns-clause-facts
returns-clause-facts g c =
    let was = c.args.self.now in
    let facts : List Attached → Facts = λ units. record { units = units; references = []; dev_faults = was.dev_faults; print_faults = was.print_faults } in
    ap facts (units_of-set was.units.items c.args.unit c.index_mut.result.now c.args.is_written c.index_mut.ensures.value)

pub returns-clause-notes : goal.returns-clause-notes
returns-clause-notes g c =
    map-set (λ (u : Unit). u.is_written) c.args.self.now.units.items c.args.unit (record c.index_mut.result.now { is_written = c.args.is_written })
