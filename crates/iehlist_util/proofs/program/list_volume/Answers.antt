use Rattle.std.proofs.Common.{arith}
use Rattle.util_steps.proofs.Reporting.{has_said}
use Rattle.std.specs.Prelude.{codes}
use Rattle.util_syntax.specs.declared.listing.Object.TheVariants as object
use Rattle.iehlist_util.specs.Items.{volume_listing}
use Rattle.iehlist_util.proofs.ItemLemmas.{listing_done, listing_stopped}
use Rattle.iehlist_util.proofs.program.list_volume.Goals as goal

pub returns-in_err-outcome-clause-item : goal.returns-in_err-outcome-clause-item
returns-in_err-outcome-clause-item g c told volume at is =
    listing_stopped c.args.card (codes "LISTVTOC") (object.Volume c.args.info.now.serial) (volume_listing c.args.request.now volume) c.from_residual.result c.from_residual.ensures.0 (c.say_volume.ensures.says told volume at is).moments

pub returns-clause-item : goal.returns-clause-item
returns-clause-item g c told volume at is =
    let l = volume_listing c.args.request.now volume in
    listing_done c.args.card (codes "LISTVTOC") (object.Volume c.args.info.now.serial) l c.in_ok-outcome.outcome c.report_outcome.result (has_said l.lines (c.in_ok-outcome.ensures.says told volume at is)) (c.in_ok-outcome.ensures.outcome told volume at) c.say_volume.ensures.count (c.report_outcome.ensures.item.item told)

pub returns-clause-promise : goal.returns-clause-promise
returns-clause-promise g c told t known early kept =
    c.report_outcome.ensures.item.promise told t known (omega (arith, early, c.say_volume.ensures.later told)) (c.say_volume.ensures.promise told t known early kept)
