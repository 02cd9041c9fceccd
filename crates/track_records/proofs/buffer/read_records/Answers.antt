use Rattle.std.proofs.Common.{◌/◌, ◌%◌, ap, ◌∙◌, ℕ}
use Rattle.hall_core.specs.Images.{image_of}
use Rattle.track_records.specs.Buffers.{Buffer}
use Rattle.track_records.proofs.ImageLemmas.{records_read}
use Rattle.track_records.proofs.buffer.read_records.Goals as goal

pub returns-clause-read : goal.returns-clause-read
returns-clause-read g c told =
    let heads = c.from-heads.ensures ∙ c.heads.ensures in
    records_read (image_of (g.H.Hall.meaning c.args.hall.now).state (g.H.Hall.facts c.args.hall.now) c.args.unit) c.deref.result.now c.fill.new.bytes.items c.put_places.new.places.items c.buf.inside.geometry c.args.buf.now.geometry _ _ c.args.track c.args.upto c.put_places.result
    (ap (λ (b : Buffer). b.geometry) c.buf.view_is) (ap (λ (n : ℕ). c.args.track / n) heads) (ap (λ (n : ℕ). c.args.track % n) heads) c.deref.ensures.value (c.in-Ok.ensures.read told) c.put_places.ensures.records
