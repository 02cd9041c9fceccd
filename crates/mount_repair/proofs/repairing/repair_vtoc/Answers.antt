use Rattle.std.proofs.Common.{sym, ◌∙◌}
use Rattle.mount_repair.proofs.Rebuilt.{repairs_none}
use Rattle.mount_repair.proofs.repairing.repair_vtoc.Goals as goal

pub returns-then-is_settled-clause-files : goal.returns-then-is_settled-clause-files
returns-then-is_settled-clause-files g c told =
    repairs_none _ c.args.vol.now (g.H.Hall.meaning c.args.hall.now) tt (c.requires.mounted told) (sym (c.is_settled.ensures _ (c.requires.mounted told)) ∙ c.if-is_settled.true) (c.requires.durable told)
