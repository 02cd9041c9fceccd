use Rattle.std.proofs.Common.{◌≡◌, ◌+◌, ◌/◌, ◌%◌, ◌++◌, ◌∷◌, [], arith, ℕ, List, ap, ◌∙◌, if◌then◌else◌, length, drop}
use Rattle.std.specs.Prelude.{nat_eq}
use Rattle.std.proofs.lemmas.List.{length-map}
use Rattle.stop_model.specs.Files.{patched}
use Rattle.ckd_image.specs.Track.{Record, end_marker, record_bytes, records_bytes}
use Rattle.ckd_image.specs.Reading.{front_record}
use Rattle.ckd_image.specs.Writing.{front_bytes, record_on}
use Rattle.pack_spec.specs.Label.{heads_of}
use Rattle.track_records.specs.Buffers.{records_at}
use Rattle.track_records.specs.Updates.{offset_of}
use Rattle.track_records.proofs.ContinueLemmas.{length_tail, cylinder_low, record_stands}
use Rattle.track_records.proofs.PutLemmas.{put_all, one_record}
use Rattle.track_records.proofs.appending.put_next.Goals as goal

pub returns-clause-put : goal.returns-clause-put
returns-clause-put c =
    let bytes : List ℕ = c.args.bytes.now in
    let places : List ℕ = c.args.places.now.items in
    let at : ℕ = c.end_of-at.result in
    let cylinder : ℕ = c.args.track / heads_of c.args.geometry in
    let head : ℕ = c.args.track % heads_of c.args.geometry in
    let x : Record = record_on cylinder head c.args.key.now c.args.payload.now in
    let xs : List Record = records_at bytes places in
    let count : length xs ≡ length places = length-map places (λ (p : ℕ). front_record (drop p bytes)) in
    let front = c.begin-start.ensures.front ∙ ap (λ (heads : ℕ). if c.is_empty.result then patched bytes 0 (front_bytes (c.args.track / heads) (c.args.track % heads)) else bytes) c.heads-heads.ensures in
    let stands = record_stands cylinder head (length xs + 1) c.args.key.now c.args.payload.now (cylinder_low c.args.geometry c.args.track (omega (arith, c.ranges.track.fits))) (omega (arith, count, c.requires.few)) c.requires.key_fits c.requires.data_fits in
    let size = length_tail c.args.key.now c.args.payload.now in
    let place : at ≡ 21 + offset_of xs (length xs) = c.end_of-at.ensures ∙ ap (λ (ps : List ℕ). 21 + offset_of (records_at bytes ps) (length (records_at bytes ps))) c.deref.ensures.value in
    let number : c.len.result + 1 ≡ length xs + 1 = omega (arith, count, c.len.ensures) in
    let written : ℕ → ℕ → List ℕ = λ n heads. patched c.begin-start.new.bytes at (record_bytes n (record_on (c.args.track / heads) (c.args.track % heads) c.args.key.now c.args.payload.now) ++ end_marker) in
    let put : c.put_record.new.bytes ≡ patched c.begin-start.new.bytes at (records_bytes (length xs + 1) (x ∷ []) ++ end_marker) =
    c.put_record.ensures ∙ ap (written _) c.heads-heads.ensures ∙ ap (λ (n : ℕ). written n (heads_of c.args.geometry)) number ∙ ap (patched c.begin-start.new.bytes at) (one_record (length xs + 1) x)
    in
    let long : c.args.places.now.len ≡ length places = omega (arith, c.args.places.now.ok.0) in
    let pushed : c.push.new.self.items ≡ places ++ at ∷ [] = rw c.unwrap.ensures at c.push.ensures.items in
    put_all cylinder head (x ∷ []) bytes places c.begin-start.new.bytes c.put_record.new.bytes c.push.new.self.items at c.is_empty.result _ c.requires.are (stands, tt) place (omega (arith, c.requires.room, place, size)) (c.is_empty.ensures ∙ ap (λ (n : ℕ). nat_eq n 0) long) front put pushed c.begin-start.ensures.start (omega (arith, size))
