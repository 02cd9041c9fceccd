-- Directories are listed, and then the line that answers the statement is printed.
use Rattle.std.proofs.Common.{refl, subst, arith}
use Rattle.std.specs.Prelude.{codes}
use Rattle.util_steps.specs.Items.{DoesItem}
use Rattle.util_steps.proofs.Reporting.{has_said}
use Rattle.util_syntax.specs.declared.listing.Object.TheVariants as object
use Rattle.iehlist_util.specs.declared.directories.PdsAnswer.{PdsAnswer}
use Rattle.iehlist_util.specs.Directories.{pds_listing}
use Rattle.iehlist_util.specs.Items.{Listing, listing_item}
use Rattle.iehlist_util.proofs.ItemLemmas.{listing_done, listing_stopped}
use Rattle.iehlist_util.proofs.program.list_directories.Goals as goal

pub returns-in_err-answer-clause-item : goal.returns-in_err-answer-clause-item
returns-in_err-answer-clause-item g c told volume at =
    let l = pds_listing volume c.args.request.now.first c.args.request.now.others in
    listing_stopped c.args.card (codes "LISTPDS") (object.Name l.answer.dsn) (record { lines = l.lines; outcome = l.answer.outcome }) c.from_residual.result c.from_residual.ensures.0 (c.say_directories.ensures.says told volume at).moments

pub returns-clause-item : goal.returns-clause-item
returns-clause-item g c told volume at =
    let m = g.M.Machine.meaning in
    let s = g.M.Machine.status in
    let l = pds_listing volume c.args.request.now.first c.args.request.now.others in
    let answer = c.in_ok-answer.answer in
    let same = c.in_ok-answer.ensures.answer told volume at in
    subst (λ (a : PdsAnswer). DoesItem g.M.Machine.tells_prints (listing_item c.args.card (codes "LISTPDS") (object.Name a.dsn) (record { lines = l.lines; outcome = a.outcome })) (m c.args.machine.now) (m c.report_outcome.new.machine) (s c.args.machine.now).done (s c.report_outcome.new.machine).done c.report_outcome.result) same
    (let told_all : Listing = record { lines = l.lines; outcome = answer.outcome } in
    listing_done c.args.card (codes "LISTPDS") (object.Name answer.dsn) told_all answer.outcome c.report_outcome.result (has_said l.lines (c.in_ok-answer.ensures.says told volume at)) refl c.say_directories.ensures.count (c.report_outcome.ensures.item.item told))

pub returns-clause-promise : goal.returns-clause-promise
returns-clause-promise g c told t known early kept =
    c.report_outcome.ensures.item.promise told t known (omega (arith, early, c.say_directories.ensures.later told)) (c.say_directories.ensures.promise told t known early kept)
