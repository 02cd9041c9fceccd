-- Three records after the front.
use Rattle.std.proofs.Common.{◌≡◌, ◌∙◌, ◌++◌, ap, replicate, vec_len, arith}
use Rattle.ckd_image.specs.Track.{records_bytes, record_bytes}
use Rattle.ckd_image.specs.Writing.{front_bytes, record_on}
use Rattle.pack_spec.specs.Label.{ipl1, ipl2, vol1}
use Rattle.pack_spec.specs.Written.{label_bytes, label_records}
use Rattle.pack_spec.proofs.WrittenTracks.{finished, three_written}
use Rattle.pack_spec.proofs.written.label_track.Goals as goal

pub returns-clause-bytes : goal.returns-clause-bytes
returns-clause-bytes c =
    let first = record_on 0 0 ipl1 (replicate 24 0) in
    let second = record_on 0 0 ipl2 (replicate 144 0) in
    let label = record_on 0 0 vol1 (label_bytes c.args.serial.now.bytes c.args.vtoc) in
    let records = label_records c.args.serial.now.bytes c.args.vtoc in
    let front : c.push_front.new.bytes.items ≡ front_bytes 0 0 = c.in_ok-push_front.ensures.added ∙ ap (λ bs. bs ++ front_bytes 0 0) c.new-track.ensures.items in
    let pushed : c.push_record.new.bytes.items ≡ front_bytes 0 0 ++ record_bytes 1 first = c.in_ok-push_record.ensures.added ∙ ap (λ bs. bs ++ record_bytes 1 first) front in
    let last : c.push_record-3.new.bytes.items ≡ c.push_record-2.new.bytes.items ++ record_bytes 3 label =
    c.in_ok-push_record-3.ensures.added ∙ ap (λ bs. c.push_record-2.new.bytes.items ++ record_bytes 3 (record_on 0 0 vol1 bs)) c.label_data-label.ensures in
    let bytes : c.push_record-3.new.bytes.items ≡ front_bytes 0 0 ++ records_bytes 1 records =
    three_written (front_bytes 0 0) c.push_record.new.bytes.items c.push_record-2.new.bytes.items c.push_record-3.new.bytes.items first second label pushed c.in_ok-push_record-2.ensures.added last in
    finished (record { cylinder = 0; head = 0 }) (records_bytes 1 records) c.push_record-3.new.bytes.items c.push_end.new.bytes.items (vec_len c.push_record-3.new.bytes) c.args.size bytes (omega arith) c.in_ok-push_end.ensures.added
