use Rattle.std.proofs.Common.{◌≡◌, ◌+◌, ◌-◌, ◌<◌, ◌++◌, arith, ap, subst, get_or, length, drop, take, List, ℕ, sym, ◌∙◌, IsTrue}
use Rattle.std.proofs.lemmas.List.{take_at, length-map}
use Rattle.stop_model.specs.Files.{patched}
use Rattle.ckd_image.specs.Track.{Record}
use Rattle.ckd_image.specs.Reading.{front_record}
use Rattle.track_records.specs.Buffers.{Buffer, records_at, are_places}
use Rattle.track_records.specs.Updates.{HasLengths, with_parts, offset_of}
use Rattle.track_records.proofs.UpdateLemmas.{BufferWritten, buffer_written, lengths_there}
use Rattle.track_records.proofs.PatchLemmas.{length-patched}
use Rattle.track_records.proofs.buffer.TrackBuf.put.Goals as goal
use Rattle.track_records.proofs.buffer.TrackBuf.put.Goals.{After-from, After-index, After-put_parts}

there : (c : After-from) → HasLengths (records_at c.self.inside.bytes.items c.self.inside.places.items) (c.args.r - 1) (length c.args.key.now) (length c.args.payload.now)
there c = subst (λ (b : Buffer). HasLengths b.records (c.args.r - 1) (length c.args.key.now) (length c.args.payload.now)) (sym c.self.view_is) c.requires.there

low : (c : After-from) → c.args.r - 1 < length c.self.inside.places.items
low c =
    let xs = records_at c.self.inside.bytes.items c.self.inside.places.items in
    omega (arith, lengths_there xs (c.args.r - 1) (length c.args.key.now) (length c.args.payload.now) (there c), length-map c.self.inside.places.items (λ (at : ℕ). front_record (drop at c.self.inside.bytes.items)))

pub index-requires : goal.index-requires
index-requires c = let below = low c in omega (arith, c.from.ensures, c.self.inside.places.ok.0)

wrote : (c : After-index) → BufferWritten c.self.inside.bytes.items c.self.inside.places.items (c.args.r - 1) c.index.result.now c.args.key.now c.args.payload.now (patched c.self.inside.bytes.items (c.index.result.now + 8) (c.args.key.now ++ c.args.payload.now))
wrote c =
    let from = (goal.at.After-index c).After-from in
    let same : c.from.result - 1 ≡ c.args.r - 1 = omega (arith, c.from.ensures) in
    buffer_written c.self.inside.bytes.items c.self.inside.places.items (c.args.r - 1) c.index.result.now c.args.key.now c.args.payload.now c.self.invariant.0 (there from) (low from)
    (c.index.ensures ∙ ap (λ (n : ℕ). get_or c.self.inside.places.items n c.index.result.now) same)

pub overflow_add-place : goal.overflow_add-place
overflow_add-place c =
    let w = wrote (goal.at.overflow_add-place c).After-index in
    omega (arith, w.inside, c.self.inside.bytes.ok.0, c.self.inside.bytes.small)

pub put_parts-requires : goal.put_parts-requires
put_parts-requires c =
    let w = wrote (goal.at.put_parts-requires c).After-index in
    omega (arith, w.inside, ap length c.deref_mut.ensures.value)

changed : (c : After-put_parts) → take c.self.inside.bytes.len (c.put_parts.new.bytes ++ drop (length c.put_parts.new.bytes) c.self.inside.bytes.items) ≡ patched c.self.inside.bytes.items (c.index.result.now + 8) (c.args.key.now ++ c.args.payload.now)
changed c =
    let v = c.self.inside.bytes in
    let same : length c.put_parts.new.bytes ≡ length v.items = c.put_parts.auto.bytes ∙ ap length c.deref_mut.ensures.value in
    take_at c.put_parts.new.bytes (drop (length c.put_parts.new.bytes) v.items) v.len (omega (arith, v.ok.0, same))
    ∙ c.put_parts.ensures ∙ ap (λ (b : List ℕ). patched b (c.index.result.now + 8) (c.args.key.now ++ c.args.payload.now)) c.deref_mut.ensures.value

pub invariant_of-self : goal.invariant_of-self
invariant_of-self c =
    let w = wrote (goal.at.invariant_of-self c).After-index in
    let is = changed (goal.at.invariant_of-self c).After-put_parts in (
      subst (λ (b : List ℕ). IsTrue (are_places 1 21 b c.self.inside.places.items)) (sym is) w.are,
      (
        c.self.invariant.1.0,
        ap length is ∙ length-patched c.self.inside.bytes.items (c.args.key.now ++ c.args.payload.now) (c.index.result.now + 8) w.inside ∙ c.self.invariant.1.1,
      ),
    )

pub returns-clause-place : goal.returns-clause-place
returns-clause-place c =
    let w = wrote (goal.at.returns-clause-place c).After-index in
    ap (λ (n : ℕ). n + 8) (w.place_is ∙ ap (λ (b : Buffer). 21 + offset_of b.records (c.args.r - 1)) c.self.view_is)

pub returns-clause-inside : goal.returns-clause-inside
returns-clause-inside c =
    let w = wrote (goal.at.returns-clause-inside c).After-index in
    omega (arith, w.inside, c.self.invariant.1.1, ap (λ (b : Buffer). b.geometry.track_size) c.self.view_is)

pub returns-clause-buffer : goal.returns-clause-buffer
returns-clause-buffer c =
    let w = wrote (goal.at.returns-clause-buffer c).After-index in
    let is = changed (goal.at.returns-clause-buffer c).After-put_parts in
    let inside = c.self.inside in
    let with_records = λ (xs : List Record). let b : Buffer = record { geometry = inside.geometry; unit = inside.unit; track = inside.track; records = xs } in b in
    ap with_records (ap (λ (b : List ℕ). records_at b inside.places.items) is ∙ w.records)
    ∙ ap (λ (b : Buffer). let x : Buffer = record b { records = with_parts (c.args.r - 1) c.args.key.now c.args.payload.now b.records } in x) c.self.view_is
