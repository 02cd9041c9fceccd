use Rattle.std.proofs.Common.{◌≡◌, ◌+◌, ◌*◌, ◌-◌, ◌<◌, ◌≤◌, ◌++◌, arith, ap, subst, length, ℕ, sym, ◌∙◌}
use Rattle.std.specs.Prelude.{slice_get}
use Rattle.hall_core.specs.Facts.{unit_of}
use Rattle.hall_core.specs.Images.{image_of}
use Rattle.track_records.specs.Buffers.{Buffer, IsContentOf}
use Rattle.track_records.specs.Written.{place_of, StandsOn}
use Rattle.track_records.proofs.UpdateLemmas.{lengths_there, content_written, length-with_parts}
use Rattle.track_records.proofs.WriteLemmas.{write_done, write_failed, same_write, track_fits}
use Rattle.track_records.proofs.WrittenLemmas.{unit_updated, stands_written}
use Rattle.track_records.proofs.buffer.update.Given.{Over}
use Rattle.track_records.proofs.buffer.update.Goals as goal
use Rattle.track_records.proofs.buffer.update.Goals.{After-put-place, After-content}

pub content-requires-clause-last : goal.content-requires-clause-last
content-requires-clause-last g c =
    let xs = c.args.buf.now.records in
    omega (arith, c.requires.first, lengths_there xs (c.args.r - 1) (length c.args.key.now) (length c.args.payload.now) c.requires.there, ap (λ (b : Buffer). length b.records) c.put-place.ensures.buffer, length-with_parts (c.args.r - 1) c.args.key.now c.args.payload.now xs)

unit_is : (g : Over) (c : After-content g) → c.buf.inside.unit ≡ c.args.buf.now.unit
unit_is g c = ap (λ (b : Buffer). b.unit) (c.buf.view_is ∙ c.put-place.ensures.buffer)

track_is : (g : Over) (c : After-content g) → 512 + c.from.result * c.from-2.result ≡ 512 + c.args.buf.now.track * c.args.buf.now.geometry.track_size
track_is g c =
    let same = c.buf.view_is ∙ c.put-place.ensures.buffer in
    ap (λ (n : ℕ). 512 + n * c.from-2.result) (c.from.ensures ∙ ap (λ (b : Buffer). b.track) same)
    ∙ ap (λ (n : ℕ). 512 + c.args.buf.now.track * n) (c.from-2.ensures ∙ ap (λ (b : Buffer). b.geometry.track_size) same)

place_is : (g : Over) (c : After-content g) → 512 + c.from.result * c.from-2.result + c.put-place.result ≡ place_of c.args.buf.now (c.args.r - 1)
place_is g c = ap (λ (n : ℕ). n + c.put-place.result) (track_is g c) ∙ ap (λ (n : ℕ). 512 + c.args.buf.now.track * c.args.buf.now.geometry.track_size + n) c.put-place.ensures.place

content_is : (g : Over) (c : After-content g) → c.content.result.now ≡ c.args.key.now ++ c.args.payload.now
content_is g c =
    let xs = c.args.buf.now.records in
    let low : c.args.r - 1 < length xs = lengths_there xs (c.args.r - 1) (length c.args.key.now) (length c.args.payload.now) c.requires.there in
    content_written xs (c.args.r - 1) c.args.key.now c.args.payload.now c.content.result.now low
    (subst (λ (b : Buffer). IsContentOf (slice_get b.records (c.args.r - 1)) c.content.result.now) c.put-place.ensures.buffer c.content.ensures)

pub write-requires-clause-inside : goal.write-requires-clause-inside
write-requires-clause-inside g c =
    let b = c.args.buf.now in
    let units = (g.H.Hall.facts c.args.hall.now).units in
    let fits = track_fits units b.unit b.geometry b.track c.requires.track in
    let inside : 512 + c.from.result * c.from-2.result + c.put-place.result + length c.content.result.now ≤ (unit_of units b.unit).size = omega (arith, fits, c.put-place.ensures.inside, track_is g c, ap length (content_is g c)) in
    subst (λ (u : ℕ). 512 + c.from.result * c.from-2.result + c.put-place.result + length c.content.result.now ≤ (unit_of units u).size) (sym (unit_is g c)) inside

pub returns-in_err-write-clause-files : goal.returns-in_err-write-clause-files
returns-in_err-write-clause-files g c told =
    let w = (goal.at.returns-in_err-write-clause-files g c).After-content in
    write_failed c.from_residual.result c.from_residual.ensures.0
    (same_write _ _ _ _ _ _ (ap (λ (u : ℕ). (unit_of (g.H.Hall.facts c.args.hall.now).units u).name) (unit_is g w)) (place_is g w) (content_is g w) (c.in_err-write.ensures.files told))

pub returns-clause-files : goal.returns-clause-files
returns-clause-files g c told =
    let w = (goal.at.returns-clause-files g c).After-content in
    write_done tt
    (same_write _ _ _ _ _ _ (ap (λ (u : ℕ). (unit_of (g.H.Hall.facts c.args.hall.now).units u).name) (unit_is g w)) (place_is g w) (content_is g w) (c.in_ok-write.ensures.files told))

pub returns-clause-record : goal.returns-clause-record
returns-clause-record g c told stands =
    let w = (goal.at.returns-clause-record g c).After-content in
    let write = same_write _ _ _ _ _ _ (ap (λ (u : ℕ). (unit_of (g.H.Hall.facts c.args.hall.now).units u).name) (unit_is g w)) (place_is g w) (content_is g w) (c.in_ok-write.ensures.files told) in
    let b = c.args.buf.now in
    let new = image_of (g.H.Hall.meaning c.write.new.self).state (g.H.Hall.facts c.write.new.self) b.unit in
    let is = unit_updated _ _ (g.H.Hall.facts c.args.hall.now) (g.H.Hall.facts c.write.new.self) c.args.buf.now (c.args.r - 1) c.args.key.now c.args.payload.now (g.met.H.Hall.whole c.args.hall.now told) c.requires.track c.requires.there c.in_ok-write.ensures.faults.units write.done stands in
    (is, subst (StandsOn new) (sym w.put-place.ensures.buffer) (stands_written b (c.args.r - 1) c.args.key.now c.args.payload.now _ new is stands))
