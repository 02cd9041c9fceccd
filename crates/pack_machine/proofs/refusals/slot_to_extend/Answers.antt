use Rattle.std.proofs.Common.{refl}
use Rattle.pack_machine.proofs.Refusing.{extend_none, extend_readable, extend_told, holds_set, set_listed}
use Rattle.pack_machine.proofs.refusals.slot_to_extend.Goals as goal

pub returns-in_default-clause-refused : goal.returns-in_default-clause-refused
returns-in_default-clause-refused c image mounted lists = extend_none image c.args.vol.now c.args.dsn.now mounted (c.in_default.ensures.none refl)

pub returns-in-Some-extend_refusal-clause-refused : goal.returns-in-Some-extend_refusal-clause-refused
returns-in-Some-extend_refusal-clause-refused c image mounted lists =
    let v = c.args.vol.now in
    let listed = set_listed image v c.args.dsn.now mounted c.args.known.now.unread.items lists c.in-Some.slot c.in-Some.set c.in-Some.ensures.slot c.in-Some.ensures.set in
    extend_told image v c.args.dsn.now mounted c.args.known.now.unread.items lists c.in-Some.slot c.in-Some.set c.in-Some.ensures.slot c.in-Some.ensures.set c.in-Some-extend_refusal.refusal (c.in-Some-extend_refusal.ensures.refusal _ _ _ listed)

pub returns-in-None-clause-readable : goal.returns-in-None-clause-readable
returns-in-None-clause-readable c image mounted lists =
    let v = c.args.vol.now in
    let listed = set_listed image v c.args.dsn.now mounted c.args.known.now.unread.items lists c.in-Some.slot c.in-Some.set c.in-Some.ensures.slot c.in-Some.ensures.set in
    extend_readable image v c.args.dsn.now mounted c.args.known.now.unread.items lists c.in-Some.slot c.in-Some.set c.in-Some.ensures.slot c.in-Some.ensures.set (c.in-None.ensures.refusal _ _ _ listed)

pub returns-in-None-clause-set : goal.returns-in-None-clause-set
returns-in-None-clause-set c = holds_set c.args.vol.now.slots.items c.in-Some.slot c.in-Some.set c.in-Some.ensures.set (c.in-None.ensures.other refl)
