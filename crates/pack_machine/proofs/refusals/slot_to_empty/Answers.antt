use Rattle.std.proofs.Common.{List, None, refl, subst, sym}
use Rattle.pack_machine.specs.Known.{HoldLibraries}
use Rattle.mount_repair.specs.declared.library.Library.{Library}
use Rattle.pack_machine.proofs.Refusing.{empty_none, empty_refused, empty_told, set_listed, vacancy_there}
use Rattle.pack_machine.proofs.refusals.slot_to_empty.Goals as goal

pub returns-in_default-clause-refused : goal.returns-in_default-clause-refused
returns-in_default-clause-refused c image attr mounted lists held = empty_none image c.args.vol.now c.args.dsn.now mounted attr (c.in_default.ensures.none refl)

pub returns-in-Some-empty_refusal-clause-refused : goal.returns-in-Some-empty_refusal-clause-refused
returns-in-Some-empty_refusal-clause-refused c image attr mounted lists held =
    let v = c.args.vol.now in
    let unread = c.args.known.now.unread.items in
    let listed = set_listed image v c.args.dsn.now mounted unread lists c.in-Some.slot c.in-Some.set c.in-Some.ensures.slot c.in-Some.ensures.set in
    let libraries = subst (λ (ls : List Library). HoldLibraries image v ls) (sym c.deref.ensures.value) held in
    empty_refused image v c.args.dsn.now mounted unread lists c.in-Some.slot c.in-Some.set c.in-Some.ensures.slot c.in-Some.ensures.set attr c.in-Some-empty_refusal.error
    (c.in-Some-empty_refusal.ensures.reason _ _ _ listed
    (vacancy_there image v c.args.dsn.now mounted unread lists c.in-Some.slot c.in-Some.set c.in-Some.ensures.slot c.in-Some.ensures.set c.vacancy-vacancy.result c.deref.result.now c.vacancy-vacancy.ensures libraries))

pub returns-in-None-clause-accepted : goal.returns-in-None-clause-accepted
returns-in-None-clause-accepted c image attr mounted lists held =
    let v = c.args.vol.now in
    let unread = c.args.known.now.unread.items in
    let listed = set_listed image v c.args.dsn.now mounted unread lists c.in-Some.slot c.in-Some.set c.in-Some.ensures.slot c.in-Some.ensures.set in
    let libraries = subst (λ (ls : List Library). HoldLibraries image v ls) (sym c.deref.ensures.value) held in
    empty_told image v c.args.dsn.now mounted unread lists c.in-Some.slot c.in-Some.set c.in-Some.ensures.slot c.in-Some.ensures.set attr None
    (sym (c.in-None.ensures.reason _ _ _ listed
    (vacancy_there image v c.args.dsn.now mounted unread lists c.in-Some.slot c.in-Some.set c.in-Some.ensures.slot c.in-Some.ensures.set c.vacancy-vacancy.result c.deref.result.now c.vacancy-vacancy.ensures libraries)))
