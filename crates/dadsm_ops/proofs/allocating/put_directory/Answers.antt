-- Nothing is written where there is no directory.
use Rattle.std.proofs.Common.{◌≤◌, arith}
use Rattle.hall_core.specs.Facts.{unit_of}
use Rattle.space_alloc.specs.Units.{listed}
use Rattle.dadsm_ops.proofs.DirectorySets.{puts_formatted, puts_none}
use Rattle.dadsm_ops.proofs.allocating.put_directory.Goals as goal

pub returns-then-dir-eq0-clause-files : goal.returns-then-dir-eq0-clause-files
returns-then-dir-eq0-clause-files g c told =
    let h = c.args.hall.now in
    let v = c.args.vol.now in
    puts_none (unit_of (g.H.Hall.facts h).units v.unit).name (listed c.args.extents.now) c.args.dir v (g.H.Hall.meaning h) tt c.if-dir-eq0.true (c.requires.mounted told) (c.requires.marked told) (c.requires.durable told)

pub format_directory-requires-clause-within : goal.format_directory-requires-clause-within
format_directory-requires-clause-within g c j r there = (c.requires.written.each j r there).1

pub returns-clause-files : goal.returns-clause-files
returns-clause-files g c told =
    let h = c.args.hall.now in
    let v = c.args.vol.now in
    let some : 1 ≤ c.args.dir = omega (arith, c.if-dir-eq0.false) in
    puts_formatted (unit_of (g.H.Hall.facts h).units v.unit).name (listed c.args.extents.now) c.args.dir c.format_directory.new.vol (g.H.Hall.meaning h) (g.H.Hall.meaning c.format_directory.new.hall) c.format_directory.result some (c.format_directory.ensures.files told)
