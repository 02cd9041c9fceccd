use Rattle.vol_model.specs.declared.contents.Entry.{Entry}
use Rattle.vol_model.specs.declared.requests.Op.TheVariants.{Enter}
use Rattle.util_program.specs.Outcomes.{performed}
use Rattle.std.proofs.Common.{ap, sym}
use Rattle.iebcopy_util.proofs.WholeLemmas.{whole_as, whole_kept}
use Rattle.iebcopy_util.proofs.copying.enter_copy.Goals as goal

pub returns : goal.returns
returns g c =
    let out = c.args.out.now in
    whole_as g.M.Machine (λ told. ap (λ (e : Entry). performed (g.M.Machine.meaning c.args.machine.now).state (Enter out.v out.dsn e c.args.task.now.replace)) (sym c.entry_for.ensures.entry)) (whole_kept g.M.Machine c.perform.ensures.takes c.perform.ensures.memory)
