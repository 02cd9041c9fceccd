-- What is done where the volume is there, and where it isn't.
use Rattle.std.proofs.Common.{sym, subst}
use Rattle.std.specs.Prelude.{Option, codes}
use Rattle.ebcdic_names.specs.declared.names.Serial.{Serial}
use Rattle.vol_model.specs.declared.contents.Volume.{Volume}
use Rattle.util_steps.specs.Items.{DoesItem}
use Rattle.util_syntax.specs.declared.listing.Object.TheVariants as object
use Rattle.iehlist_util.specs.Items.{listing_item, no_volume_item, volume_listing, vtoc_item}
use Rattle.iehlist_util.proofs.ItemLemmas.{info_serial}
use Rattle.iehlist_util.proofs.program.answer_vtoc.Goals as goal

pub returns-in-Some-clause-item : goal.returns-in-Some-clause-item
returns-in-Some-clause-item g c told =
    let m = g.M.Machine.meaning in
    let s = g.M.Machine.status in
    let card = c.args.card in
    let request = c.args.request.now in
    let found = c.in-Some.ensures told in
    subst (λ (o : Option Volume). DoesItem g.M.Machine.tells_prints (vtoc_item card request o) (m c.args.machine.now) (m c.list_volume.new.machine) (s c.args.machine.now).done (s c.list_volume.new.machine).done c.list_volume.result) (sym found.1)
    (subst (λ (x : Serial). DoesItem g.M.Machine.tells_prints (listing_item card (codes "LISTVTOC") (object.Volume x) (volume_listing request found.0)) (m c.args.machine.now) (m c.list_volume.new.machine) (s c.args.machine.now).done (s c.list_volume.new.machine).done c.list_volume.result)
    (info_serial found.0 c.in-Some.info found.3) (c.list_volume.ensures.item told found.0 found.2 found.3))

pub returns-in-None-clause-item : goal.returns-in-None-clause-item
returns-in-None-clause-item g c told =
    let m = g.M.Machine.meaning in
    let s = g.M.Machine.status in
    let card = c.args.card in
    let request = c.args.request.now in
    subst (λ (o : Option Volume). DoesItem g.M.Machine.tells_prints (vtoc_item card request o) (m c.args.machine.now) (m c.report_no_volume.new.machine) (s c.args.machine.now).done (s c.report_no_volume.new.machine).done c.report_no_volume.result) (sym (c.in-None.ensures told))
    (subst (λ (x : Serial). DoesItem g.M.Machine.tells_prints (no_volume_item card (codes "LISTVTOC") (object.Volume x)) (m c.args.machine.now) (m c.report_no_volume.new.machine) (s c.args.machine.now).done (s c.report_no_volume.new.machine).done c.report_no_volume.result)
    c.named_serial.ensures (c.report_no_volume.ensures.item told))
