use Rattle.std.proofs.Common.{◌≡◌, None, refl, sym, ◌∙◌}
use Rattle.pack_machine.proofs.LibraryEntries.{alone, directory_none, directory_refused, here, its_name, its_part, lists_alone, refusal}
use Rattle.pack_machine.proofs.entries.slot_of_library.Goals as goal

pub returns-in-Some-clause-refused : goal.returns-in-Some-clause-refused
returns-in-Some-clause-refused c image operation mounted lists =
    directory_refused image c.args.vol.now c.args.dsn.now mounted c.in-Some.refusal
    (sym c.in-Some.is ∙ c.write_refusal_in.ensures (alone image c.args.vol.now c.args.dsn.now mounted) 0 (here image c.args.vol.now c.args.dsn.now mounted)
    (lists_alone image c.args.vol.now c.args.dsn.now mounted c.args.known.now.unread.items lists)) operation

pub returns-in-Some-slot_of-clause-part : goal.returns-in-Some-slot_of-clause-part
returns-in-Some-slot_of-clause-part c image mounted lists =
    let v = c.args.vol.now in
    let dsn = c.args.dsn.now in
    let slot = c.in-Some-slot_of.found.0 in
    let f = c.in-Some-slot_of.found.1 in
    let is = c.in-Some-slot_of.ensures.set in
    let none : None ≡ refusal image v dsn mounted =
    sym c.in_default.is ∙ c.write_refusal_in.ensures (alone image v dsn mounted) 0 (here image v dsn mounted) (lists_alone image v dsn mounted c.args.known.now.unread.items lists) in
    (its_name image v dsn mounted slot f c.in-Some-slot_of.ensures.slot is none, its_part image v dsn mounted slot f c.in-Some-slot_of.ensures.slot is none)

pub returns-in-None-clause-refused : goal.returns-in-None-clause-refused
returns-in-None-clause-refused c image operation mounted lists = directory_none image c.args.vol.now c.args.dsn.now mounted (c.in-None.ensures.none refl) operation
