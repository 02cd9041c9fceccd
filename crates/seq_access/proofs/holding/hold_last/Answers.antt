use Rattle.std.proofs.Common.{◌≡◌, ◌<◌, false, true, None, Some, refl, sym, ap, ◌∙◌, arith}
use Rattle.hall_core.specs.Images.{image_in}
use Rattle.pack_spec.specs.Label.{tracks_of}
use Rattle.stop_model.proofs.MomentLemmas.{same_then}
use Rattle.vtoc_index.specs.declared.vol.Vol.{Vol}
use Rattle.vtoc_index.proofs.HeldLemmas.{noted}
use Rattle.seq_access.proofs.HeldTracks.{held_by, roomy_by, roomy_there, some_there}
use Rattle.seq_access.proofs.holding.hold_last.Goals as goal

never : false ≡ true → ⊥
never is = cc

pub hold-requires-clause-there : goal.hold-requires-clause-there
hold-requires-clause-there g c told =
    let v = c.args.vol.now in
    let image = image_in (g.H.Hall.meaning c.args.hall.now) (g.H.Hall.facts c.args.hall.now) v.unit in
    let there = c.requires.there told in
    (there.first, some_there image v c.args.set.now c.args.last c.in-Some.track there (sym (c.in-Some.ensures.track image (c.requires.set told))))

pub returns-in_default-clause-faults : goal.returns-in_default-clause-faults
returns-in_default-clause-faults g c =
    noted refl refl refl (omega arith) c.differs.ensures.faults c.differs.ensures.rose
    (λ told.
    let v = c.args.vol.now in
    let image = image_in (g.H.Hall.meaning c.args.hall.now) (g.H.Hall.facts c.args.hall.now) v.unit in
    let there = c.requires.there told in
    let both : None ≡ Some there.track = c.in_default.ensures.track image (c.requires.set told) ∙ there.owned in
    cc)

pub returns-then-not-is_roomy-clause-same : goal.returns-then-not-is_roomy-clause-same
returns-then-not-is_roomy-clause-same g c told = same_then (c.in_ok-hold.ensures.same told) (c.differs-then-not-is_roomy.ensures.files told)

pub returns-then-not-is_roomy-clause-faults : goal.returns-then-not-is_roomy-clause-faults
returns-then-not-is_roomy-clause-faults g c =
    let was = c.in_ok-hold.ensures.faults in
    noted was.units was.references was.prints was.later c.differs-then-not-is_roomy.ensures.faults c.differs-then-not-is_roomy.ensures.rose
    (λ told.
    let v = c.args.vol.now in
    let image = image_in (g.H.Hall.meaning c.args.hall.now) (g.H.Hall.facts c.args.hall.now) v.unit in
    let has = c.requires.set told in
    let now = c.hold.new.vol in
    let fits = roomy_there image v c.args.set.now c.args.last c.in-Some.track (c.requires.there told) (sym (c.in-Some.ensures.track image has)) now.buf.records has c.in-Some.ensures.inside (c.in_ok-hold.ensures.records told) in
    never (c.if-not-is_roomy.ensures.enough fits.0 (omega (arith, fits.1, ap (λ (x : Vol). x.geometry.track_size) c.in_ok-hold.ensures.others))))

pub returns-clause-held : goal.returns-clause-held
returns-clause-held g c told =
    let v = c.args.vol.now in
    let image = image_in (g.H.Hall.meaning c.args.hall.now) (g.H.Hall.facts c.args.hall.now) v.unit in
    held_by image v c.hold.new.vol c.args.set.now c.args.last c.in-Some.track c.in_ok-hold.ensures.others c.in_ok-hold.ensures.track (sym (c.in-Some.ensures.track image (c.requires.set told))) (c.in_ok-hold.ensures.records told)

pub returns-clause-roomy : goal.returns-clause-roomy
returns-clause-roomy g c =
    let now = c.hold.new.vol in
    let call = c.in_ok-hold.ensures in
    let inside : now.buf.track < tracks_of now.geometry = omega (arith, c.in-Some.ensures.inside, call.track, ap (λ (x : Vol). tracks_of x.geometry) call.others) in
    let fits = c.if-not-is_roomy.ensures.roomy refl in
    roomy_by _ now call.unit inside call.few fits.0 fits.1
