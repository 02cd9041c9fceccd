use Rattle.std.proofs.Common.{◌∙◌}
use Rattle.pack_machine.proofs.ShelfReads.{begin_none, begin_unread, begin_well, begin_wrong, known_set}
use Rattle.pack_machine.proofs.reads.write_refusal_in.Goals as goal

pub returns-in_default : goal.returns-in_default
returns-in_default c shelf n has lists = begin_none shelf n c.args.vol.now has c.args.dsn.now c.args.mode (c.in_default.ensures shelf n has)

pub returns-then-not-fits_mode : goal.returns-then-not-fits_mode
returns-then-not-fits_mode c shelf n has lists =
    begin_wrong shelf n c.args.vol.now has c.args.dsn.now c.args.mode c.in-Some.set.now (c.in-Some.ensures shelf n has) c.if-not-fits_mode.ensures

pub returns-in-Unreadable : goal.returns-in-Unreadable
returns-in-Unreadable c shelf n has lists =
    let f = c.in-Some.set.now in
    let set = c.in-Some.ensures shelf n has in
    let known = known_set shelf n c.args.vol.now has c.args.dsn.now.bytes f c.args.known.now.unread.items set lists in
    begin_unread shelf n c.args.vol.now has c.args.dsn.now c.args.mode f set c.in-Unreadable.track c.if-not-fits_mode.ensures (c.in-Unreadable.ensures _ _ _ known)

pub returns-in_default-kind_in : goal.returns-in_default-kind_in
returns-in_default-kind_in c shelf n has lists =
    let f = c.in-Some.set.now in
    let set = c.in-Some.ensures shelf n has in
    let known = known_set shelf n c.args.vol.now has c.args.dsn.now.bytes f c.args.known.now.unread.items set lists in
    begin_well shelf n c.args.vol.now has c.args.dsn.now c.args.mode f set c.if-not-fits_mode.ensures (λ t is. c.in_default-kind_in.not-Unreadable t (c.kind_in.ensures _ _ _ known ∙ is))
