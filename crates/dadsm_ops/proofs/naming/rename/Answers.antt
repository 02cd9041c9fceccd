use Rattle.std.proofs.Common.{rules, ◌≡◌, ◌∙◌, ap, subst, sym}
use Rattle.std.specs.Prelude.{Result, Err}
use Rattle.std.proofs.lemmas.Result.{err_from_is_err_and}
use Rattle.stop_model.proofs.MomentLemmas.{same_none}
use Rattle.vol_model.specs.Shelf.{rename_on}
use Rattle.vol_model.specs.declared.answers.StoreErr.{StoreErr}
use Rattle.vol_model.specs.declared.answers.StoreErr.TheVariants.{Refused}
use Rattle.hall_core.specs.Facts.{unit_of}
use Rattle.vtoc_index.specs.Names.{AreByName, name_at}
use Rattle.vtoc_index.specs.declared.vol.Vol.{Vol}
use Rattle.dadsm_ops.specs.Naming.{IsToRename}
use Rattle.dadsm_ops.specs.Operations.{InVtoc, Operates}
use Rattle.dadsm_ops.proofs.Operating.{operates_none}
use Rattle.dadsm_ops.proofs.Renaming.{is_renamed, renames, renames_not}
use Rattle.dadsm_ops.proofs.Reordering.{order_changes, put_changes, unit_reordered}
use Rattle.dadsm_ops.proofs.naming.rename.Goals as goal

pub returns-in_err-slot-clause-files : goal.returns-in_err-slot-clause-files
returns-in_err-slot-clause-files g c told =
    let hall = c.args.hall.now in
    let v = c.args.vol.now in
    let m = g.H.Hall.meaning hall in
    let name = (unit_of (g.H.Hall.facts hall).units v.unit).name in
    let mounted = c.requires.mounted told in
    let p = err_from_is_err_and c.from_residual.result c.from_residual.ensures.1 in
    let given : c.from_residual.result ≡ Err (Refused c.in_err-slot.field-0.0) = p.1 ∙ ap (λ (e : StoreErr). Err e) p.2 in
    subst (λ (r : Result (Unit {0}) StoreErr). Operates name (rename_on c.args.old.now c.args.new.now) v (InVtoc v) m m r) (sym given)
    (operates_none name (rename_on c.args.old.now c.args.new.now) v (InVtoc v) m _ c.in_err-slot.field-0.0 mounted.volume (c.in_err-slot.ensures.refused _ _ mounted mounted.volume) (same_none m (g.met.H.Hall.counts_now hall)))

pub returns-in-Ok-clause-files : goal.returns-in-Ok-clause-files
returns-in-Ok-clause-files g c told =
    let hall = c.args.hall.now in
    let v = c.args.vol.now in
    let put = c.in-Ok.ensures in
    let found : IsToRename v.slots.items c.args.old.now.bytes c.args.new.now.bytes c.in_ok-slot.slot = search rules in
    renames (unit_of (g.H.Hall.facts hall).units v.unit).name v c.put_durably.new.vol c.args.old.now c.args.new.now c.in_ok-slot.slot c.index.result.now c.under_name-dscb.result (g.H.Hall.meaning hall) (g.H.Hall.meaning c.put_durably.new.hall)
    (c.requires.mounted told) found c.index.ensures c.under_name-dscb.ensures _ c.reorder.new.vol put.others c.reorder.ensures.others put.index (put.files told)

pub returns-in-Ok-clause-unit : goal.returns-in-Ok-clause-unit
returns-in-Ok-clause-unit g c = unit_reordered _ c.put_durably.new.vol c.reorder.new.vol c.reorder.ensures.others c.in-Ok.ensures.unit

pub returns-in-Ok-clause-names : goal.returns-in-Ok-clause-names
returns-in-Ok-clause-names g c =
    let v = c.args.vol.now in
    let found : IsToRename v.slots.items c.args.old.now.bytes c.args.new.now.bytes c.in_ok-slot.slot = search rules in
    c.reorder.ensures.names v.slots.items
    (subst (λ (x : Vol). AreByName (name_at v.slots.items) x.by_name.items) (sym c.in-Ok.ensures.others) c.requires.names)
    (is_renamed v c.put_durably.new.vol c.args.old.now c.args.new.now c.in_ok-slot.slot c.index.result.now c.under_name-dscb.result found c.index.ensures c.under_name-dscb.ensures c.in-Ok.ensures.index)

pub returns-in-Ok-clause-index : goal.returns-in-Ok-clause-index
returns-in-Ok-clause-index g c = order_changes c.args.vol.now c.put_durably.new.vol c.reorder.new.vol c.in-Ok.ensures.others c.reorder.ensures.others

pub returns-in-Err-clause-index : goal.returns-in-Err-clause-index
returns-in-Err-clause-index g c = put_changes c.args.vol.now c.put_durably.new.vol c.in-Err.ensures.others

pub returns-in-Err-clause-files : goal.returns-in-Err-clause-files
returns-in-Err-clause-files g c told =
    let hall = c.args.hall.now in
    let v = c.args.vol.now in
    let put = c.in-Err.ensures in
    let found : IsToRename v.slots.items c.args.old.now.bytes c.args.new.now.bytes c.in_ok-slot.slot = search rules in
    renames_not (unit_of (g.H.Hall.facts hall).units v.unit).name v c.put_durably.new.vol c.args.old.now c.args.new.now c.in_ok-slot.slot c.index.result.now c.under_name-dscb.result (g.H.Hall.meaning hall) (g.H.Hall.meaning c.put_durably.new.hall)
    (c.requires.mounted told) found c.index.ensures c.under_name-dscb.ensures put.others (put.files told)
