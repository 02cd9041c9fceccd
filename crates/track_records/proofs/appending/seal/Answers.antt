use Rattle.std.proofs.Common.{◌≡◌, ◌≤◌, ◌+◌, ◌/◌, ◌%◌, ◌++◌, [], arith, ℕ, List, sym, ap, subst, ◌∙◌, length, take, drop}
use Rattle.std.proofs.lemmas.List.{take_at}
use Rattle.std.proofs.lemmas.Result.{on_ok_weaker}
use Rattle.ckd_image.specs.Track.{Record}
use Rattle.hall_core.specs.Facts.{unit_of}
use Rattle.hall_core.specs.Images.{image_of}
use Rattle.pack_spec.specs.Label.{heads_of}
use Rattle.track_records.specs.Buffers.{Buffer, records_at}
use Rattle.track_records.specs.Appends.{start_behind, continuation, with_more}
use Rattle.track_records.specs.Written.{StandsOn}
use Rattle.track_records.proofs.ContinueLemmas.{continued, stands_continued, unit_continued, unit_fits, length-end}
use Rattle.track_records.proofs.PutLemmas.{PartOf, part_of}
use Rattle.track_records.proofs.WriteLemmas.{same_write}
use Rattle.track_records.proofs.appending.seal.Given.{Over}
use Rattle.track_records.proofs.appending.seal.Goals as goal
use Rattle.track_records.proofs.appending.seal.Goals.{After-write_part}

room : (g : Over) (c : After-write_part g) → start_behind c.args.buf.now.records + length (continuation c.args.buf.now []) ≤ c.args.buf.now.geometry.track_size
room g c = let b = c.args.buf.now in omega (arith, c.requires.room, length-end (b.track / heads_of b.geometry) (b.track % heads_of b.geometry) b.records)

pub returns-clause-pending : goal.returns-clause-pending
returns-clause-pending g c told may =
    let b = c.args.buf.now in
    let facts = g.H.Hall.facts c.args.hall.now in
    let files = (g.H.Hall.meaning c.args.hall.now).state in
    continued b [] (image_of files facts b.unit) (unit_fits files facts b.unit b.geometry b.track (g.met.H.Hall.whole c.args.hall.now told) c.requires.track) c.requires.track.inside may tt (omega (arith, c.requires.few)) (room g c)

-- the bytes as they are in the buffer
put_is : (g : Over) (c : After-write_part g) → take c.buf.inside.bytes.len (c.put_end-start.new.bytes ++ drop (length c.put_end-start.new.bytes) c.buf.inside.bytes.items) ≡ c.put_end-start.new.bytes
put_is g c =
    let v = c.buf.inside.bytes in
    take_at c.put_end-start.new.bytes (drop (length c.put_end-start.new.bytes) v.items) v.len (omega (arith, v.ok.0, c.put_end-start.ensures.put.size, ap length c.deref_mut.ensures.value))

records_are : (g : Over) (c : After-write_part g) → records_at c.deref_mut.result.now c.deref.result.now ≡ records_at c.buf.inside.bytes.items c.buf.inside.places.items
records_are g c = ap (λ (l : List ℕ). records_at l c.deref.result.now) c.deref_mut.ensures.value ∙ ap (records_at c.buf.inside.bytes.items) c.deref.ensures.value

part : (g : Over) (c : After-write_part g) → PartOf c.args.buf.now [] c.buf.inside.geometry c.buf.inside.track c.deref-2.result.now c.put_end-start.result
part g c =
    part_of c.args.buf.now [] c.buf.inside.geometry c.buf.inside.track c.deref_mut.result.now c.deref.result.now c.put_end-start.new.bytes c.deref.result.now c.deref-2.result.now c.put_end-start.result c.put_end-start.ensures.put
    (ap (λ (b : Buffer). b.geometry) c.buf.view_is) (ap (λ (b : Buffer). b.track) c.buf.view_is) (records_are g c ∙ ap (λ (b : Buffer). b.records) c.buf.view_is) (c.deref-2.ensures.value ∙ put_is g c)

pub returns-clause-record : goal.returns-clause-record
returns-clause-record g c told =
    let b = c.args.buf.now in
    let inside = c.buf.inside in
    let facts = g.H.Hall.facts c.args.hall.now in
    let files = (g.H.Hall.meaning c.args.hall.now).state in
    let facts' = g.H.Hall.facts c.write_part.new.hall in
    let files' = (g.H.Hall.meaning c.write_part.new.hall).state in
    let p = part g c in
    let write = same_write _ _ _ _ _ _ (ap (λ (b : Buffer). (unit_of facts.units b.unit).name) c.buf.view_is) p.place p.part (c.write_part.ensures.files told) in
    let with_records = λ (xs : List Record). let x : Buffer = record { geometry = inside.geometry; unit = inside.unit; track = inside.track; records = xs } in x in
    let buffer = ap with_records (ap (λ (l : List ℕ). records_at l inside.places.items) (put_is g c) ∙ ap (records_at c.put_end-start.new.bytes) (sym c.deref.ensures.value) ∙ c.put_end-start.ensures.put.records ∙ ap (λ (l : List Record). l ++ []) (records_are g c)) ∙ ap (λ (x : Buffer). with_more x []) c.buf.view_is in
    on_ok_weaker c.write_part.result
    (λ done may.
    let is = unit_continued files files' facts facts' b [] (g.met.H.Hall.whole c.args.hall.now told) c.requires.track may tt (omega (arith, c.requires.few)) (room g c) c.write_part.ensures.faults.units done in
    (is, subst (StandsOn (image_of files' facts' b.unit)) (sym buffer) (stands_continued b [] _ _ is)))
    write.done
