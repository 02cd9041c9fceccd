use Rattle.std.proofs.Common.{subst, sym, None}
use Rattle.hall_core.specs.Images.{image_of}
use Rattle.track_records.specs.Buffers.{Buffer}
use Rattle.track_records.specs.Reads.{IsBroken}
use Rattle.track_records.specs.Written.{StandsOn}
use Rattle.track_records.specs.declared.error.TrackErr.{TrackErr}
use Rattle.track_records.specs.declared.error.TrackErr.TheVariants as errors
use Rattle.vtoc_index.proofs.HeldLemmas.{noted, slot_held, slot_unbroken, broken_none}
use Rattle.vtoc_index.proofs.put.fetch.Goals as goal

pub returns-in-Ok-clause-stands : goal.returns-in-Ok-clause-stands
returns-in-Ok-clause-stands g c told =
    let read = c.in-Ok.ensures.read told in
    let b = c.read_records.new.buf in
    let image = image_of (g.H.Hall.meaning c.args.hall.now).state (g.H.Hall.facts c.args.hall.now) c.args.unit in
    let was : Buffer = record c.args.buf.now { unit = c.args.unit; track = c.args.place.track; records = b.records } in
    let stands : StandsOn image was = (None, read) in
    (slot_held image c.args.buf.now.geometry c.args.place.track c.args.place.number b.records (c.requires.there told) read, subst (λ (x : Buffer). StandsOn image x) (sym c.in-Ok.ensures.buffer) stands)

pub returns-in-Err-BadCount-clause-faults : goal.returns-in-Err-BadCount-clause-faults
returns-in-Err-BadCount-clause-faults g c =
    let was = c.in-Err-BadCount.ensures.faults in
    let image = image_of (g.H.Hall.meaning c.args.hall.now).state (g.H.Hall.facts c.args.hall.now) c.args.unit in
    noted was.units was.references was.prints was.later c.differs.ensures.faults c.differs.ensures.rose
    (λ told.
    let broken : IsBroken image c.args.buf.now.geometry None c.args.place.track (errors.BadCount c.in-Err-BadCount.field-0-0) =
    subst (λ (e : TrackErr). IsBroken image c.args.buf.now.geometry None c.args.place.track e) c.in-Err-BadCount.field-0-is (c.in-Err-BadCount.ensures.broken told) in
    slot_unbroken image c.args.buf.now.geometry c.args.place.track c.args.place.number (c.requires.there told) (broken_none image c.args.buf.now.geometry None c.args.place.track c.in-Err-BadCount.field-0-0 broken))
