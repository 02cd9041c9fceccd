-- What is done where the volume is there, and where it isn't.
use Rattle.std.proofs.Common.{sym, subst}
use Rattle.std.specs.Prelude.{Option}
use Rattle.vol_model.specs.declared.contents.Volume.{Volume}
use Rattle.util_steps.specs.Items.{DoesItem}
use Rattle.iehlist_util.specs.Items.{pds_item}
use Rattle.iehlist_util.proofs.program.answer_pds.Goals as goal

pub returns-in-Some-clause-item : goal.returns-in-Some-clause-item
returns-in-Some-clause-item g c told =
    let m = g.M.Machine.meaning in
    let s = g.M.Machine.status in
    let found = c.in-Some.ensures told in
    subst (λ (o : Option Volume). DoesItem g.M.Machine.tells_prints (pds_item c.args.card c.args.request.now o) (m c.args.machine.now) (m c.list_directories.new.machine) (s c.args.machine.now).done (s c.list_directories.new.machine).done c.list_directories.result) (sym found.1)
    (c.list_directories.ensures.item told found.0 found.2)

pub returns-in-None-clause-item : goal.returns-in-None-clause-item
returns-in-None-clause-item g c told =
    let m = g.M.Machine.meaning in
    let s = g.M.Machine.status in
    subst (λ (o : Option Volume). DoesItem g.M.Machine.tells_prints (pds_item c.args.card c.args.request.now o) (m c.args.machine.now) (m c.report_no_volume.new.machine) (s c.args.machine.now).done (s c.report_no_volume.new.machine).done c.report_no_volume.result) (sym (c.in-None.ensures told))
    (c.report_no_volume.ensures.item told)
