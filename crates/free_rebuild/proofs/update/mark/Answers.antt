use Rattle.std.proofs.Common.{List, ℕ}
use Rattle.std.proofs.lemmas.Result.{on_ok_weaker}
use Rattle.hall_core.specs.Facts.{unit_of}
use Rattle.hall_core.specs.Images.{image_in}
use Rattle.dscb_codec.specs.declared.Dscb.TheVariants as formats
use Rattle.free_rebuild.proofs.ChainLemmas.{get_low}
use Rattle.free_rebuild.proofs.NameLemmas.{mark_names, names_kept}
use Rattle.free_rebuild.proofs.RepairSteps.{entered, marks}
use Rattle.free_rebuild.proofs.StandLemmas.{has_front}
use Rattle.free_rebuild.proofs.update.mark.Goals as goal

pub mark_durably-requires-clause-some : goal.mark_durably-requires-clause-some
mark_durably-requires-clause-some g c told =
    let v = c.args.vol.now in
    let front = has_front (image_in (g.H.Hall.meaning c.args.hall.now) (g.H.Hall.facts c.args.hall.now) v.unit) v (c.requires.mounted told) in
    get_low v.slots.items 0 (formats.F4 front.head) front.four

pub returns-clause-files : goal.returns-clause-files
returns-clause-files g c told =
    let v = c.args.vol.now in
    let m = g.H.Hall.meaning c.args.hall.now in
    let units = (g.H.Hall.facts c.args.hall.now).units in
    let name : List ℕ = (unit_of units v.unit).name in
    let start = entered units v m (g.met.H.Hall.whole c.args.hall.now told) c.requires.unit (c.requires.mounted told) (c.requires.durable told) in
    marks name v m start c.mark_durably.new.vol (g.H.Hall.meaning c.mark_durably.new.hall) c.mark_durably.result (c.mark_durably.ensures.files told) (on_ok_weaker c.mark_durably.result (λ is. is.items) c.mark_durably.ensures.index) c.mark_durably.ensures.others

pub returns-clause-names : goal.returns-clause-names
returns-clause-names g c ordered =
    let v = c.args.vol.now in
    let w = c.mark_durably.new.vol in
    on_ok_weaker c.mark_durably.result (λ is. names_kept v w c.mark_durably.ensures.others (mark_names v.slots.items w.slots.items is.items) ordered) c.mark_durably.ensures.index
