use Rattle.std.proofs.Common.{◌≡◌, sym, subst, true}
use Rattle.vol_model.specs.declared.contents.Shelf.{Shelf}
use Rattle.util_steps.specs.Taking.{Takes}
use Rattle.util_steps.proofs.Taking.{takes_as}
use Rattle.iehprogm_util.specs.declared.requests.Request.{Request}
use Rattle.iehprogm_util.specs.declared.requests.Request.TheVariants.{Scratch}
use Rattle.iehprogm_util.specs.Items.{steps_on}
use Rattle.iehprogm_util.proofs.StepLemmas.{purged}
use Rattle.iehprogm_util.proofs.steps.do_on.Goals as goal

pub returns-in-Scratch-default-default-true : goal.returns-in-Scratch-default-default-true
returns-in-Scratch-default-default-true g c =
    let w = c.in-Scratch-default-default-true in
    let is : c.args.request.now ≡ Scratch w.serial w.dsn true = cc in
    subst (λ (r : Request). Takes g.M.Machine (λ (shelf : Shelf). steps_on c.args.date.now shelf c.args.v r) c.args.machine.now c.purge.new.machine c.purge.result) (sym is)
    (takes_as g.M.Machine (λ told. purged c.args.date.now (g.M.Machine.meaning c.args.machine.now).state c.args.v w.dsn) c.purge.ensures)
