use Rattle.std.proofs.Common.{arith}
use Rattle.std.proofs.lemmas.Result.{on_ok_weaker}
use Rattle.hall_core.specs.Facts.{unit_of}
use Rattle.dadsm_ops.proofs.EmptySteps.{empties, names_kept}
use Rattle.dadsm_ops.proofs.ScratchedIndex.{named_low}
use Rattle.dadsm_ops.proofs.emptying.empty.Goals as goal

pub index-requires : goal.index-requires
index-requires g c =
    let low = named_low c.args.vol.now.slots.items c.args.slot c.requires.set in
    omega (arith, low, c.args.vol.now.slots.ok)

pub put_durably-requires-clause-slot : goal.put_durably-requires-clause-slot
put_durably-requires-clause-slot g c = named_low c.args.vol.now.slots.items c.args.slot c.requires.set

pub put_durably-requires-clause-index : goal.put_durably-requires-clause-index
put_durably-requires-clause-index g c told = (c.requires.mounted told).index

pub returns-clause-files : goal.returns-clause-files
returns-clause-files g c dsn named told =
    let hall = c.args.hall.now in
    let v = c.args.vol.now in
    empties (unit_of (g.H.Hall.facts hall).units v.unit).name v c.put_durably.new.vol dsn c.args.slot c.index.result.now c.without_blocks-dscb.result c.args.attr.now (g.H.Hall.meaning hall) (g.H.Hall.meaning c.put_durably.new.hall)
    (c.requires.mounted told) named (c.requires.kind dsn named told) c.index.ensures c.without_blocks-dscb.ensures c.put_durably.ensures.others c.put_durably.result (c.put_durably.ensures.files told)

pub returns-clause-names : goal.returns-clause-names
returns-clause-names g c =
    let v = c.args.vol.now in
    on_ok_weaker c.put_durably.result
    (λ replaced. names_kept v c.put_durably.new.vol c.args.slot c.index.result.now c.without_blocks-dscb.result c.args.attr.now c.requires.names c.requires.set c.index.ensures c.without_blocks-dscb.ensures c.put_durably.ensures.others replaced)
    c.put_durably.ensures.index
