use Rattle.std.proofs.Common.{◌≡◌, ◌/◌, ◌%◌, ◌++◌, [], ◌∷◌, arith, ℕ, List, sym, ap, subst, ◌∙◌, length, take, drop}
use Rattle.std.proofs.lemmas.List.{take_at}
use Rattle.ckd_image.specs.Track.{Record}
use Rattle.hall_core.specs.Facts.{unit_of}
use Rattle.hall_core.specs.Images.{image_of}
use Rattle.pack_spec.specs.Label.{heads_of}
use Rattle.track_records.specs.Buffers.{Buffer, records_at}
use Rattle.track_records.specs.Appends.{record_of, with_more}
use Rattle.track_records.specs.Written.{StandsOn}
use Rattle.track_records.proofs.ContinueLemmas.{appended, next_stands, stands_continued, unit_continued, unit_fits, length-behind}
use Rattle.track_records.proofs.PutLemmas.{PartOf, part_of}
use Rattle.track_records.proofs.WriteLemmas.{write_done, write_failed, same_write}
use Rattle.track_records.proofs.appending.append.Given.{Over}
use Rattle.track_records.proofs.appending.append.Goals as goal
use Rattle.track_records.proofs.appending.append.Goals.{After-write_part}

-- the bytes as they are in the buffer
put_is : (g : Over) (c : After-write_part g) → take c.buf.inside.bytes.len (c.put_next-start.new.bytes ++ drop (length c.put_next-start.new.bytes) c.buf.inside.bytes.items) ≡ c.put_next-start.new.bytes
put_is g c =
    let v = c.buf.inside.bytes in
    take_at c.put_next-start.new.bytes (drop (length c.put_next-start.new.bytes) v.items) v.len (omega (arith, v.ok.0, c.put_next-start.ensures.put.size, ap length c.deref_mut.ensures.value))

records_are : (g : Over) (c : After-write_part g) → records_at c.deref_mut.result.now c.buf.inside.places.items ≡ records_at c.buf.inside.bytes.items c.buf.inside.places.items
records_are g c = ap (λ (l : List ℕ). records_at l c.buf.inside.places.items) c.deref_mut.ensures.value

-- the record as the bytes have it
new_is : (g : Over) (c : After-write_part g) → (record_of (record { geometry = c.buf.inside.geometry; unit = c.buf.inside.unit; track = c.buf.inside.track; records = [] }) c.args.key.now c.args.payload.now ∷ []) ≡ record_of c.args.buf.now c.args.key.now c.args.payload.now ∷ []
new_is g c = ap (λ (b : Buffer). record_of b c.args.key.now c.args.payload.now ∷ []) c.buf.view_is

part : (g : Over) (c : After-write_part g) → PartOf c.args.buf.now (record_of c.args.buf.now c.args.key.now c.args.payload.now ∷ []) c.buf.inside.geometry c.buf.inside.track c.deref.result.now c.put_next-start.result
part g c =
    let p = part_of c.args.buf.now _ c.buf.inside.geometry c.buf.inside.track c.deref_mut.result.now c.buf.inside.places.items c.put_next-start.new.bytes c.put_next-start.new.places.items c.deref.result.now c.put_next-start.result c.put_next-start.ensures.put
    (ap (λ (b : Buffer). b.geometry) c.buf.view_is) (ap (λ (b : Buffer). b.track) c.buf.view_is) (records_are g c ∙ ap (λ (b : Buffer). b.records) c.buf.view_is) (c.deref.ensures.value ∙ put_is g c) in
    subst (λ (new : List Record). PartOf c.args.buf.now new c.buf.inside.geometry c.buf.inside.track c.deref.result.now c.put_next-start.result) (new_is g c) p

pub returns-in_err-write_part-clause-files : goal.returns-in_err-write_part-clause-files
returns-in_err-write_part-clause-files g c told =
    let w = (goal.at.returns-in_err-write_part-clause-files g c).After-write_part in
    let p = part g w in
    write_failed c.from_residual.result c.from_residual.ensures.0
    (same_write _ _ _ _ _ _ (ap (λ (b : Buffer). (unit_of (g.H.Hall.facts c.args.hall.now).units b.unit).name) c.buf.view_is) p.place p.part (c.in_err-write_part.ensures.files told))

pub returns-in_err-write_part-clause-pending : goal.returns-in_err-write_part-clause-pending
returns-in_err-write_part-clause-pending g c told may =
    let b = c.args.buf.now in
    let facts = g.H.Hall.facts c.args.hall.now in
    let files = (g.H.Hall.meaning c.args.hall.now).state in
    appended b c.args.key.now c.args.payload.now (image_of files facts b.unit) (unit_fits files facts b.unit b.geometry b.track (g.met.H.Hall.whole c.args.hall.now told) c.requires.track) c.requires.track.inside may c.requires.few c.requires.key_fits c.requires.data_fits c.requires.room

pub returns-clause-files : goal.returns-clause-files
returns-clause-files g c told =
    let w = (goal.at.returns-clause-files g c).After-write_part in
    let p = part g w in
    write_done c.len.result
    (same_write _ _ _ _ _ _ (ap (λ (b : Buffer). (unit_of (g.H.Hall.facts c.args.hall.now).units b.unit).name) c.buf.view_is) p.place p.part (c.in_ok-write_part.ensures.files told))

pub returns-clause-pending : goal.returns-clause-pending
returns-clause-pending g c told may =
    let b = c.args.buf.now in
    let facts = g.H.Hall.facts c.args.hall.now in
    let files = (g.H.Hall.meaning c.args.hall.now).state in
    appended b c.args.key.now c.args.payload.now (image_of files facts b.unit) (unit_fits files facts b.unit b.geometry b.track (g.met.H.Hall.whole c.args.hall.now told) c.requires.track) c.requires.track.inside may c.requires.few c.requires.key_fits c.requires.data_fits c.requires.room

pub returns-clause-record : goal.returns-clause-record
returns-clause-record g c told may =
    let w = (goal.at.returns-clause-record g c).After-write_part in
    let b = c.args.buf.now in
    let inside = c.buf.inside in
    let key = c.args.key.now in
    let payload = c.args.payload.now in
    let facts = g.H.Hall.facts c.args.hall.now in
    let files = (g.H.Hall.meaning c.args.hall.now).state in
    let facts' = g.H.Hall.facts c.write_part.new.hall in
    let files' = (g.H.Hall.meaning c.write_part.new.hall).state in
    let new : List Record = record_of b key payload ∷ [] in
    let p = part g w in
    let write = same_write _ _ _ _ _ _ (ap (λ (b : Buffer). (unit_of facts.units b.unit).name) c.buf.view_is) p.place p.part (c.in_ok-write_part.ensures.files told) in
    let with_records = λ (xs : List Record). let x : Buffer = record { geometry = inside.geometry; unit = inside.unit; track = inside.track; records = xs } in x in
    let buffer = ap with_records (ap (λ (l : List ℕ). records_at l c.put_next-start.new.places.items) (put_is g w) ∙ c.put_next-start.ensures.put.records ∙ ap (λ (l : List Record). records_at c.deref_mut.result.now inside.places.items ++ l) (new_is g w) ∙ ap (λ (l : List Record). l ++ new) (records_are g w)) ∙ ap (λ (x : Buffer). with_more x new) c.buf.view_is in
    let fits = unit_fits files facts b.unit b.geometry b.track (g.met.H.Hall.whole c.args.hall.now told) c.requires.track in
    let is = unit_continued files files' facts facts' b new (g.met.H.Hall.whole c.args.hall.now told) c.requires.track may (next_stands b _ key payload fits c.requires.track.inside c.requires.few c.requires.key_fits c.requires.data_fits) (omega (arith, c.requires.few))
    (omega (arith, c.requires.room, length-behind (b.track / heads_of b.geometry) (b.track % heads_of b.geometry) b.records key payload)) c.in_ok-write_part.ensures.faults.units write.done in
    (is, subst (StandsOn (image_of files' facts' b.unit)) (sym buffer) (stands_continued b new _ _ is))
