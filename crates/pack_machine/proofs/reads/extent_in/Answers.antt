use Rattle.std.proofs.Common.{◌∙◌}
use Rattle.pack_machine.proofs.ShelfReads.{extent_found, extent_none}
use Rattle.pack_machine.proofs.reads.extent_in.Goals as goal

pub returns-in_err-set_in : goal.returns-in_err-set_in
returns-in_err-set_in c shelf n has = c.from_residual.ensures ∙ extent_none shelf n c.args.vol.now has c.args.k c.args.dsn.now.bytes (c.in_err-set_in.ensures shelf n has)

pub returns : goal.returns
returns c shelf n has =
    let set = c.in_ok-set_in.ensures shelf n has in
    extent_found shelf n c.args.vol.now has c.args.k c.args.dsn.now.bytes c.in_ok-set_in.field-0.now c.run_at.result set (c.run_at.ensures has.image set.0.set)
