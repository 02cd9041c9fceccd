use Rattle.std.proofs.Common.{◌≡◌, ◌+◌, ◌*◌, ◌++◌, ap, ◌∙◌, length, take, drop, arith, ℕ}
use Rattle.std.proofs.lemmas.List.{take_at}
use Rattle.std.proofs.lemmas.Result.{on_ok_weaker}
use Rattle.hall_core.specs.Facts.{unit_of}
use Rattle.track_records.proofs.ImageLemmas.{track_read}
use Rattle.track_records.proofs.buffer.fill.Goals as goal

pub returns-clause-read : goal.returns-clause-read
returns-clause-read g c told =
    let v = c.args.bytes.now in
    let bytes = c.read.new.buf in
    let same : length bytes ≡ length v.items = c.read.auto.buf ∙ ap length c.deref_mut.ensures.value in
    let whole : take v.len (bytes ++ drop (length bytes) v.items) ≡ bytes = take_at bytes (drop (length bytes) v.items) v.len (omega (arith, v.ok.0, same)) in
    let place : 512 + c.from.result * c.from-2.result ≡ 512 + c.args.track * c.args.geometry.track_size =
    ap (λ (n : ℕ). 512 + n * c.from-2.result) c.from.ensures ∙ ap (λ (n : ℕ). 512 + c.args.track * n) c.from-2.ensures in
    on_ok_weaker c.read.result
    (λ has. whole ∙ track_read (g.H.Hall.meaning c.args.hall.now).state (unit_of (g.H.Hall.facts c.args.hall.now).units c.args.unit).name c.args.geometry c.args.track _ bytes has (same ∙ c.requires.room) place)
    (c.read.ensures.bytes told)
