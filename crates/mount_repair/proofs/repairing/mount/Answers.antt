use Rattle.mount_repair.proofs.PackLoops.{mounts_done_as, mounts_failed_as}
use Rattle.mount_repair.proofs.Rebuilt.{unit_named}
use Rattle.mount_repair.proofs.repairing.mount.Goals as goal

pub returns-in-Ok-clause-files : goal.returns-in-Ok-clause-files
returns-in-Ok-clause-files g c told =
    let scan = c.in_ok-scanned.ensures in
    mounts_done_as _ (g.H.Hall.meaning c.args.hall.now) (g.H.Hall.meaning c.scan.new.hall) (g.H.Hall.meaning c.repair.new.hall) (c.requires.durable told) (scan.same told) _
    (unit_named (g.H.Hall.facts c.args.hall.now) (g.H.Hall.facts c.scan.new.hall) c.args.unit c.in_ok-scanned.scanned.vol.unit scan.faults.units scan.unit.unit) c.in-Ok.scan (c.in-Ok.ensures.files told)

pub returns-in-Err-clause-files : goal.returns-in-Err-clause-files
returns-in-Err-clause-files g c told =
    let scan = c.in_ok-scanned.ensures in
    mounts_failed_as _ (g.H.Hall.meaning c.args.hall.now) (g.H.Hall.meaning c.scan.new.hall) (g.H.Hall.meaning c.repair.new.hall) (c.requires.durable told) (scan.same told) _
    (unit_named (g.H.Hall.facts c.args.hall.now) (g.H.Hall.facts c.scan.new.hall) c.args.unit c.in_ok-scanned.scanned.vol.unit scan.faults.units scan.unit.unit) c.in-Err.field-0 (c.in-Err.ensures.files told)
