use Rattle.std.proofs.Common.{◌∙◌, ℕ, List, ap, subst, sym}
use Rattle.hall_core.specs.Images.{image_in}
use Rattle.pack_machine.specs.Known.{HoldLibraries}
use Rattle.mount_repair.specs.declared.library.Library.{Library}
use Rattle.pack_machine.proofs.HeldLibraries.{geometry_back, given_back, lent_end, lent_readable, lent_unit, nothing_held, readable_by}
use Rattle.pack_machine.proofs.libraries.end_of.Goals as goal

pub returns-in-Some-clause-end : goal.returns-in-Some-clause-end
returns-in-Some-clause-end g c told =
    let on = c.requires.known told in
    let image = image_in (g.H.Hall.meaning c.args.hall.now) (g.H.Hall.facts c.args.hall.now) c.args.vol.now.unit in
    c.in-Some.ensures image (readable_by image c.args.vol.now c.args.set.now _ (c.requires.part told on)) (subst (λ (ls : List Library). HoldLibraries image c.args.vol.now ls) (sym c.deref.ensures.value) on.libraries)

pub returns-in-Some-clause-held : goal.returns-in-Some-clause-held
returns-in-Some-clause-held g c told = (c.requires.known told).held

pub find_end-found-requires-clause-unit : goal.find_end-found-requires-clause-unit
find_end-found-requires-clause-unit g c =
    lent_unit c.args.vol.now c.lend.new.vol c.args.known.now.buf c.lend.new.buf c.lend.ensures (g.H.Hall.facts c.args.hall.now).units c.requires.buffer c.requires.unit

pub find_end-found-requires-clause-set : goal.find_end-found-requires-clause-set
find_end-found-requires-clause-set g c told =
    lent_readable c.args.vol.now c.lend.new.vol c.args.known.now.buf c.lend.new.buf c.lend.ensures (λ (n : ℕ). image_in (g.H.Hall.meaning c.args.hall.now) (g.H.Hall.facts c.args.hall.now) n) c.args.set.now
    (readable_by _ c.args.vol.now c.args.set.now _ (c.requires.part told (c.requires.known told)))

pub returns-clause-end : goal.returns-clause-end
returns-clause-end g c told =
    lent_end c.args.vol.now c.lend.new.vol c.args.known.now.buf c.lend.new.buf c.lend.ensures (λ (n : ℕ). image_in (g.H.Hall.meaning c.args.hall.now) (g.H.Hall.facts c.args.hall.now) n) c.args.set.now
    c.find_end-found.result (c.find_end-found.ensures.place told)

pub returns-clause-vol : goal.returns-clause-vol
returns-clause-vol g c =
    given_back c.args.vol.now c.lend.new.vol c.args.known.now.buf c.lend.new.buf c.lend.ensures c.find_end-found.new.vol c.take_back.new.vol c.find_end-found.ensures.others c.take_back.ensures.vol

pub returns-clause-buffer : goal.returns-clause-buffer
returns-clause-buffer g c =
    ap (λ r. r.records.geometry) c.take_back.ensures.buf
    ∙ geometry_back c.args.vol.now c.lend.new.vol c.args.known.now.buf c.lend.new.buf c.lend.ensures (g.H.Hall.facts c.find_end-found.new.hall).units c.find_end-found.new.vol c.find_end-found.ensures.others c.find_end-found.ensures.unit

pub returns-clause-held : goal.returns-clause-held
returns-clause-held g c told = nothing_held _ c.take_back.new.buf (ap (λ r. r.reach) c.take_back.ensures.buf ∙ ap (λ r. r.reach) c.lend.ensures.buffer)
