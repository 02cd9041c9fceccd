use Rattle.std.proofs.Common.{◌≡◌, subst, sym, false, true}
use Rattle.hall_core.specs.Images.{image_of}
use Rattle.track_records.specs.Buffers.{Buffer}
use Rattle.vtoc_index.specs.Puts.{HasSlot}
use Rattle.vtoc_index.proofs.HeldLemmas.{noted, held_slot}
use Rattle.vtoc_index.proofs.put.hold.Goals as goal

never : false ≡ true → ⊥
never is = cc

pub returns-then-not-holds_slot-clause-faults : goal.returns-then-not-holds_slot-clause-faults
returns-then-not-holds_slot-clause-faults g c =
    let was = c.in_ok-fetch.ensures.faults in
    let b = c.fetch.new.buf in
    let image = image_of (g.H.Hall.meaning c.args.hall.now).state (g.H.Hall.facts c.args.hall.now) c.args.unit in
    let kept = c.in_ok-fetch.ensures.buffer in
    noted was.units was.references was.prints was.later c.differs.ensures.faults c.differs.ensures.rose
    (λ told.
    let stands = c.in_ok-fetch.ensures.stands told in
    let has : HasSlot image b.geometry b.track c.args.place.number =
    subst (λ (x : Buffer). HasSlot image x.geometry x.track c.args.place.number) (sym kept) (c.requires.there told) in
    never (c.if-not-holds_slot.ensures.other stands.0 (held_slot image b c.args.place.number has stands.1 c.requires.first stands.0)))
