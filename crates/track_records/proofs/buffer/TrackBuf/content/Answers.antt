use Rattle.std.proofs.Common.{◌≡◌, ◌-◌, arith, ap, length, drop, take, List, ℕ, sym, ◌∙◌}
use Rattle.std.specs.Prelude.{slice_get}
use Rattle.std.proofs.lemmas.List.{take_rest}
use Rattle.ckd_image.specs.Reading.{is_record_at, front_record}
use Rattle.track_records.specs.Buffers.{Buffer}
use Rattle.track_records.proofs.PlaceLemmas.{Placed, placed, found_some}
use Rattle.track_records.proofs.UpdateLemmas.{content_there}
use Rattle.track_records.proofs.buffer.TrackBuf.content.Goals as goal
use Rattle.track_records.proofs.buffer.TrackBuf.content.Goals.{After-deref}

place : (c : After-deref) → Placed c.self.inside.bytes.items c.self.inside.places.items c.args.r c.index-at.result.now
place c = placed c.self.inside.bytes.items c.self.inside.places.items c.args.r (c.from.result - 1) c.index-at.result.now c.self.invariant.0 c.requires.first (omega (arith, c.requires.last, ap (λ b. length b.records) c.self.view_is)) (omega (arith, c.from.ensures)) c.index-at.ensures

behind : (c : After-deref) → take (length c.deref.result.now - c.index-at.result.now) (drop c.index-at.result.now c.deref.result.now) ≡ drop c.index-at.result.now c.self.inside.bytes.items
behind c = take_rest c.deref.result.now c.index-at.result.now ∙ ap (drop c.index-at.result.now) c.deref.ensures.value

pub slice_bounds-bytes-count : goal.slice_bounds-bytes-count
slice_bounds-bytes-count c = omega (arith, (place c).inside, ap length c.deref.ensures.value)

pub slice_bounds-bytes-start : goal.slice_bounds-bytes-start
slice_bounds-bytes-start c = let inside = (place c).inside in omega (arith, inside, ap length c.deref.ensures.value)

pub unwrap-requires : goal.unwrap-requires
unwrap-requires c =
    let at = (goal.at.unwrap-requires c).After-deref in
    found_some c.record_at.result _ c.record_at.ensures.none (ap (is_record_at c.args.r) (behind at) ∙ (place at).stands)

pub returns : goal.returns
returns c =
    let at = (goal.at.returns c).After-deref in
    let key = rw c.unwrap.ensures at c.record_at.ensures.key in
    let content = rw c.unwrap.ensures at c.record_at.ensures.content in
    content_there (slice_get c.args.self.now.records (c.args.r - 1)) (drop c.index-at.result.now c.self.inside.bytes.items) _ c.unwrap.result.0.key.now c.unwrap.result.0.data.now c.args.r
    (ap (λ (b : Buffer). slice_get b.records (c.args.r - 1)) (sym c.self.view_is) ∙ (place at).is) (place at).stands (behind at)
    (key ∙ ap (λ (bytes : List ℕ). (front_record bytes).key) (behind at))
    (content ∙ ap (λ (bytes : List ℕ). (front_record bytes).data) (behind at))
