use Rattle.std.proofs.Common.{◌≡◌, ◌∷◌, ◌∙◌, [], Bool, true, false, cond, not, map, ap, sym}
use Rattle.iebcopy_util.specs.Items.{missing_item}
use Rattle.iebcopy_util.specs.Tasks.{is_taken}
use Rattle.iebcopy_util.proofs.RunLemmas.{runs_as, runs_item, runs_none}
use Rattle.iebcopy_util.proofs.reporting.report_pick.Goals as goal

pub returns-then-is_taken-clause-items : goal.returns-then-is_taken-clause-items
returns-then-is_taken-clause-items g c =
    let is : is_taken c.args.pick.now.name c.args.tasks.now ≡ true = sym c.is_taken.ensures ∙ c.if-is_taken.true in
    runs_none g.M.Machine c.requires (λ told. ap (λ (t : Bool). map (missing_item c.args.card c.args.out.now) (cond (not t) (c.args.pick.now ∷ []) [])) is)

pub returns-clause-items : goal.returns-clause-items
returns-clause-items g c =
    let is : is_taken c.args.pick.now.name c.args.tasks.now ≡ false = sym c.is_taken.ensures ∙ c.if-is_taken.false in
    runs_as g.M.Machine (λ told. sym (ap (λ (t : Bool). map (missing_item c.args.card c.args.out.now) (cond (not t) (c.args.pick.now ∷ []) [])) is)) (runs_item g.M.Machine c.report_absent.ensures.item c.report_absent.ensures.state)
